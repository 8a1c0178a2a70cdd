-- `standing::questions::map_stage_to_clip` meets its contract. Assumes nothing.
use mathlib.Core.Path.{sym, ◌∙◌}
use borrow.Author.Rules.{rules}
use Rattle.standing.proofs.Arrays.{front}
use Rattle.standing.proofs.questions.map_stage_to_clip.Goals as goal

pub slice_bounds-map_time-end : goal.slice_bounds-map_time-end
slice_bounds-map_time-end c = search (rules, front)

pub slice_bounds-map_time-end-2 : goal.slice_bounds-map_time-end-2
slice_bounds-map_time-end-2 c = search (rules, front)

pub map_time-requires : goal.map_time-requires
map_time-requires c = record { fact_1 = c.requires.fact_3; fact_2 = sym (front c.requires.fact_1) ∙ front c.requires.fact_2 }
