-- What every standing set is: the limits and the orders, as facts. Assumes nothing.
use Rattle.std.specs.Prelude.{◌≡◌, ◌≤◌, ◌<◌, false, List, map, length, Float}
use Rattle.definitions.specs.declared.Knot.{Knot}
use Rattle.definitions.specs.declared.Start.{Start}
use Rattle.definitions.specs.declared.Default.{Default}
use Rattle.definitions.specs.ClipSet.{ClipSet, Model, no_set, standing, max_clips, max_active, max_knots, max_blocks, mark_none, active_times, knot_times, nan_default, equal_knots}
use Rattle.laws.specs.list.Every.{Every, Chain}
use Rattle.laws.specs.list.Places.{Fits, Le}
use Rattle.laws.specs.set.Stored.{Stored, Lt}

abbrev pub knot_values : List Knot → List Float
knot_values knots = map (λ (k : Knot). k.y) knots

pub record SoundDefault (d : Default) : Type 0 where
  pub mark : d.mark ≤ mark_none
  pub number : nan_default d ≡ false
  pub fitting : Fits d.value

pub record Sound (set : ClipSet) : Type 0 where
  pub few-clips : set.clips ≤ max_clips
  pub few-active : length set.active ≤ max_active
  pub few-knots : length set.knots ≤ max_knots
  pub few-blocks : length set.blocks ≤ max_blocks
  pub times : Every Stored (active_times set.active)
  pub strictly : Chain Lt (active_times set.active)
  pub named : Every (λ (a : Start). a.clip < set.clips) set.active
  pub xs : Every Stored (knot_times set.knots)
  pub ys : Every Stored (knot_values set.knots)
  pub weakly : Chain Le (knot_times set.knots)
  pub no-three : equal_knots set ≡ false
  pub blocks : Every Stored set.blocks
  pub default : SoundDefault set.default

-- of what stands, if a set does
abbrev pub SoundModel : Model → Type 0
SoundModel no_set = Unit {0}
SoundModel (standing set) = Sound set
