-- A cell: one source, or a clip that is read held at the clip time that one line gives. Assumes nothing.
use Rattle.std.specs.Prelude.{Bool, true, false, ◌&&◌, cond, List, [], ◌∷◌, ℕ, Float}
use Rattle.std.proofs.Math.Option.{Option, none, some}
use Rattle.std.proofs.Math.ListN.{get_elem?}
use Rattle.definitions.specs.declared.StageTime.{StageTime}
use Rattle.definitions.specs.declared.Start.{Start}
use Rattle.definitions.specs.ClipSet.{ClipSet, stage, clip}
use Rattle.definitions.specs.Timing.{active_position}
use Rattle.definitions.specs.Samples.{Samples, clip_times}
use Rattle.definitions.specs.declared.Source.{Source}
use Rattle.definitions.specs.declared.Source.TheVariants.{Absent as absent}
use Rattle.definitions.specs.Value.{contributes, manifest_default, gap_source, ◌or_else◌, direct_source}
use Rattle.laws.specs.cell.Knots.{Line, line_of}
use Rattle.laws.specs.cell.Stretches.{held_from}

pub data Cell : Type 0 where
  -- one source
  constant : Source → Cell
  -- the clip's samples, read held at the clip time that the line gives
  reading : (clip : ℕ) → Line → Cell

abbrev pub any_sample : List Float → Bool
any_sample [] = false
any_sample (x ∷ xs) = true

-- the cell of the direct reading at t
abbrev pub entry_cell : ClipSet → Samples → Float → ℕ → Option Start → Cell
entry_cell set s t p none = constant absent
entry_cell set s t p (some a) =
    cond (contributes set a && any_sample (clip_times s a.clip)) (reading a.clip (line_of set.knots t))
    (constant (manifest_default set or_else gap_source set s p))

unfoldable pub direct_cell : ClipSet → Samples → StageTime → Cell
direct_cell set s t = let p = active_position set.active t in entry_cell set s t.0 p (get_elem? set.active p)

-- by the time that is held, if any
abbrev pub cell_by : ClipSet → Samples → StageTime → Option Float → Cell
cell_by set s t none = direct_cell set s t
cell_by set s t (some lower) = constant (direct_source set s (stage lower))

-- the cell of the value at t
unfoldable pub cell_of : ClipSet → Samples → StageTime → Cell
cell_of set s t = cell_by set s t (held_from set s t)
