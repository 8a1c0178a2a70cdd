-- `standing::questions::stage_sample_count` meets its contract: the lists that it lends are the set's. Assumes nothing.
use borrow.Author.Rules.{rules}
use Rattle.standing.proofs.Arrays.{front}
use Rattle.standing.proofs.questions.stage_sample_count.Goals as goal

pub slice_bounds-stage_sample_count-end : goal.slice_bounds-stage_sample_count-end
slice_bounds-stage_sample_count-end c = search (rules, front)

pub slice_bounds-stage_sample_count-end-2 : goal.slice_bounds-stage_sample_count-end-2
slice_bounds-stage_sample_count-end-2 c = search (rules, front)

pub slice_bounds-stage_sample_count-end-3 : goal.slice_bounds-stage_sample_count-end-3
slice_bounds-stage_sample_count-end-3 c = search (rules, front)

pub slice_bounds-stage_sample_count-end-4 : goal.slice_bounds-stage_sample_count-end-4
slice_bounds-stage_sample_count-end-4 c = search (rules, front)
