-- docs/VALUE-CLIPS.md, "Active clip" and "Clip time". The Rust's `active_position`, `active_entry` and `map_stage_to_clip`. Assumes nothing.
use Rattle.std.specs.Prelude.{ℕ, suc, cond, List, [], ◌∷◌, get_or, Float}
use Rattle.std.proofs.Math.Option.{Option, none, some}
use Rattle.std.proofs.Math.ListN.{get_elem?}
use Rattle.std.specs.Float.Ieee.{eq, lt, le}
use Rattle.gf.specs.Doubles.{lerp}
use Rattle.definitions.specs.declared.Knot.{Knot}
use Rattle.definitions.specs.declared.StageTime.{StageTime}
use Rattle.definitions.specs.declared.ClipTime.{ClipTime}
use Rattle.definitions.specs.Lists.{any}
use Rattle.definitions.specs.declared.Start.{Start}
use Rattle.definitions.specs.ClipSet.{ClipSet, active_times, knot_times, clip}

-- The place of the last of the times that is ≤ t, and 0, the first's, if none is. It is not the first where one behind the first is ≤ t.
-- (Of ascending times: how many are ≤ t, less one, as the Rust's `partition_point` has it.)
unfoldable pub last_at_most : List Float → Float → ℕ
last_at_most [] t = 0
last_at_most (x ∷ xs) t = cond (any (λ (y : Float). le y t) xs) (suc (last_at_most xs t)) 0

-- ---- "That of the last start ≤ stage time, of the first start if none; the reply is the clip number."

unfoldable pub active_position : List Start → StageTime → ℕ
active_position active t = last_at_most (active_times active) t.0

-- none in a set without starts
unfoldable pub active_entry : List Start → StageTime → Option Start
active_entry active t = get_elem? active (active_position active t)

abbrev pub clip_of : Option Start → Option ℕ
clip_of none = none
clip_of (some a) = some a.clip

unfoldable pub active_clip : ClipSet → StageTime → Option ℕ
active_clip set t = clip_of (active_entry set.active t)

-- ---- clip time

abbrev pub last_knot : Knot → List Knot → Knot
last_knot k [] = k
last_knot k (n ∷ rest) = last_knot n rest

-- "lo is the last knot with x ≤ t: its y if t equals its x, otherwise y0 + (y1 − y0)·((t − x0)/(x1 − x0)), each operation rounded"
unfoldable pub on_segment : Knot → Knot → Float → Float
on_segment lo hi t = cond (eq t lo.x) lo.y (lerp lo.x hi.x lo.y hi.y t)

-- "No knots: the stage time. Below the first x: first y. From the last x on: last y. Else" the segment from lo to the next knot
unfoldable pub map_time : List Knot → Float → Float
map_time [] t = t
map_time (first ∷ rest) t =
    let knots = first ∷ rest in
    let last = last_knot first rest in
    let lo = last_at_most (knot_times knots) t in
    cond (lt t first.x) first.y
    (cond (le last.x t) last.y
    (on_segment (get_or knots lo first) (get_or knots (suc lo) first) t))

-- "the knot mapping alone turns one into the other"
unfoldable pub map_stage_to_clip : List Knot → StageTime → ClipTime
map_stage_to_clip knots t = clip (map_time knots t.0)
