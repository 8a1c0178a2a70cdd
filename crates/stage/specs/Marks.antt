-- The mark of a stage sample, case by case. Assumes nothing.
use Rattle.std.specs.Prelude.{cond, List, [], map, ℕ, eqb, length, Float}
use Rattle.definitions.specs.declared.Missing.{Missing}
use Rattle.definitions.specs.ClipSet.{ClipSet, mark_value, mark_block, stage}
use Rattle.definitions.specs.Samples.{Samples}
use Rattle.definitions.specs.StageSamples.{supplied_at}
use Rattle.laws.specs.cell.Lent.{set_of}

abbrev pub gap_mark_of : ℕ → ℕ
gap_mark_of mark = cond (eqb mark mark_value) mark_value mark_block

-- the set of the lists without manifest blocks, which stage samples do not heed
abbrev pub unblocked : List Float → List ℕ → List Float → List Float → Missing → List ℕ → ClipSet
unblocked starts clips xs ys m ends = set_of (length ends) starts clips xs ys [] m

-- the marks at these times
abbrev pub marks_at : ClipSet → Samples → List Float → List ℕ
marks_at set s at = map (λ (t : Float). supplied_at set s (stage t)) at
