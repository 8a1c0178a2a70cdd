-- What a retiming of a set by value replies. Assumes nothing.
use Rattle.std.specs.Prelude.{ℕ, ◌≡◌, cond, List, length, Float, Result}
use Rattle.std.specs.Float.Ieee.{lt}
use Rattle.gf.specs.Doubles.{0·0}
use Rattle.definitions.specs.declared.Knot.{Knot}
use Rattle.definitions.specs.declared.LayerOffset.{LayerOffset}
use Rattle.definitions.specs.declared.refusal.Refusal.{Refusal}
use Rattle.definitions.specs.declared.Start.{Start}
use Rattle.definitions.specs.ClipSet as Definitions
use Rattle.definitions.specs.ClipSet.{sort_active, sort_knots}
use Rattle.definitions.specs.Retime.{moved, sorted, retime_stage_times, moved_number}
use Rattle.clip.specs.declared.ClipSet.{ClipSet}
use Rattle.clip.specs.Holding.{clip_set_of}
use Rattle.clip.specs.Preparing.{Prepares}

-- lists as long as the set's
pub record RoomForAll (set : ClipSet) (ts : List Float) (ns : List ℕ) (us vs bs : List Float) : Type 0 where
  pub times : length ts ≡ set.active.count
  pub numbers : length ns ≡ set.active.count
  pub xs : length us ≡ set.knots.count
  pub ys : length vs ≡ set.knots.count
  pub blocks : length bs ≡ set.blocks.count

-- "with a negative scale both lists are sorted again, stably"
abbrev pub active_turned : Float → List Start → List Start
active_turned scale active = cond (lt scale 0·0) (sort_active active) active

abbrev pub knots_turned : Float → List Knot → List Knot
knots_turned scale knots = cond (lt scale 0·0) (sort_knots knots) knots

-- a retiming that is not the identity
unfoldable pub moved_and_sorted : LayerOffset → Definitions.ClipSet → Definitions.ClipSet
moved_and_sorted o set = cond (lt o.scale 0·0) (sorted (moved o set)) (moved o set)

-- the moved set, or the set that went in
abbrev pub Retimes : ClipSet → LayerOffset → Result ClipSet Refusal → Type 0
Retimes set o r = Prepares (moved_number (clip_set_of set) o) (clip_set_of set) (retime_stage_times o (clip_set_of set)) r
