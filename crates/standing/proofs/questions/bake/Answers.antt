-- `standing::questions::bake` meets its contract: the lists that it lends are the set's. Assumes nothing.
use borrow.Author.Rules.{rules}
use Rattle.standing.proofs.Arrays.{front}
use Rattle.standing.proofs.questions.bake.Goals as goal

pub slice_bounds-bake-end : goal.slice_bounds-bake-end
slice_bounds-bake-end c = search (rules, front)

pub slice_bounds-bake-end-2 : goal.slice_bounds-bake-end-2
slice_bounds-bake-end-2 c = search (rules, front)

pub slice_bounds-bake-end-3 : goal.slice_bounds-bake-end-3
slice_bounds-bake-end-3 c = search (rules, front)

pub slice_bounds-bake-end-4 : goal.slice_bounds-bake-end-4
slice_bounds-bake-end-4 c = search (rules, front)

pub slice_bounds-bake-end-5 : goal.slice_bounds-bake-end-5
slice_bounds-bake-end-5 c = search (rules, front)
