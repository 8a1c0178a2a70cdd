-- `standing::questions::stage_sample_times` meets its contract: the lists that it lends are the set's. Assumes nothing.
use borrow.Author.Rules.{rules}
use Rattle.standing.proofs.Arrays.{front}
use Rattle.standing.proofs.Listed.{times-told}
use Rattle.standing.proofs.questions.stage_sample_times.Goals as goal

pub slice_bounds-stage_sample_times-end : goal.slice_bounds-stage_sample_times-end
slice_bounds-stage_sample_times-end c = search (rules, front)

pub slice_bounds-stage_sample_times-end-2 : goal.slice_bounds-stage_sample_times-end-2
slice_bounds-stage_sample_times-end-2 c = search (rules, front)

pub slice_bounds-stage_sample_times-end-3 : goal.slice_bounds-stage_sample_times-end-3
slice_bounds-stage_sample_times-end-3 c = search (rules, front)

pub slice_bounds-stage_sample_times-end-4 : goal.slice_bounds-stage_sample_times-end-4
slice_bounds-stage_sample_times-end-4 c = search (rules, front)

pub returns : goal.returns
returns c = times-told _ _ c.stage_sample_times-written.result _ c.counted.ensures c.stage_sample_times-written.ensures
