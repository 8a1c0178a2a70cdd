-- `standing::questions::untimed` meets its contract: the clips that it lends are those that count. Assumes nothing.
use borrow.Author.Rules.{rules}
use Rattle.standing.proofs.Arrays.{front}
use Rattle.standing.proofs.questions.untimed.Goals as goal

pub slice_bounds-untimed_answer_in_set-end : goal.slice_bounds-untimed_answer_in_set-end
slice_bounds-untimed_answer_in_set-end c = search (rules, front)
