-- `standing::questions::stage_samples` meets its contract: the lists that it lends are the set's. Assumes nothing.
use borrow.Author.Rules.{rules}
use Rattle.standing.proofs.Arrays.{front}
use Rattle.standing.proofs.Listed.{samples-told}
use Rattle.standing.proofs.questions.stage_samples.Goals as goal

pub slice_bounds-stage_samples-end : goal.slice_bounds-stage_samples-end
slice_bounds-stage_samples-end c = search (rules, front)

pub slice_bounds-stage_samples-end-2 : goal.slice_bounds-stage_samples-end-2
slice_bounds-stage_samples-end-2 c = search (rules, front)

pub slice_bounds-stage_samples-end-3 : goal.slice_bounds-stage_samples-end-3
slice_bounds-stage_samples-end-3 c = search (rules, front)

pub slice_bounds-stage_samples-end-4 : goal.slice_bounds-stage_samples-end-4
slice_bounds-stage_samples-end-4 c = search (rules, front)

pub returns : goal.returns
returns c = samples-told _ _ _ _ _ c.stage_samples-written.result _ c.counted.ensures c.stage_samples-written.ensures
