-- `standing::questions::change_count` meets its contract: the lists that it lends are the set's. Assumes nothing.
use borrow.Author.Rules.{rules}
use Rattle.standing.proofs.Arrays.{front}
use Rattle.standing.proofs.questions.change_count.Goals as goal

pub slice_bounds-change_count-end : goal.slice_bounds-change_count-end
slice_bounds-change_count-end c = search (rules, front)

pub slice_bounds-change_count-end-2 : goal.slice_bounds-change_count-end-2
slice_bounds-change_count-end-2 c = search (rules, front)

pub slice_bounds-change_count-end-3 : goal.slice_bounds-change_count-end-3
slice_bounds-change_count-end-3 c = search (rules, front)

pub slice_bounds-change_count-end-4 : goal.slice_bounds-change_count-end-4
slice_bounds-change_count-end-4 c = search (rules, front)

pub slice_bounds-change_count-end-5 : goal.slice_bounds-change_count-end-5
slice_bounds-change_count-end-5 c = search (rules, front)
