-- A clip set in arrays with counts, as the set of the definitions. Assumes nothing.
use Rattle.std.specs.Prelude.{ℕ, ◌≤◌, ◌≡◌, Bool, List, map, length, take, Float}
use Rattle.definitions.specs.declared.Knot.{Knot}
use Rattle.definitions.specs.declared.Start.{Start}
use Rattle.definitions.specs.declared.Default.{Default}
use Rattle.definitions.specs.declared.Missing.{Missing}
use Rattle.definitions.specs.ClipSet as Definitions
use Rattle.definitions.specs.Examining.{empty_set}
use Rattle.definitions.specs.ClipSet.{max_active, max_knots, max_blocks}
use Rattle.clip.specs.declared.storage.Active.{Active}
use Rattle.clip.specs.declared.storage.Knots.{Knots}
use Rattle.clip.specs.declared.storage.Blocks.{Blocks}
use Rattle.clip.specs.declared.ClipSet.{ClipSet}

-- an array of its length, and a count within it
pub record Room {A : Type 0} (most : ℕ) (items : List A) (count : ℕ) : Type 0 where
  pub long : length items ≡ most
  pub few : count ≤ most

-- the first `count` entries are the list l
pub record Holds {A : Type 0} (most : ℕ) (items : List A) (count : ℕ) (l : List A) : Type 0 where
  pub room : Room most items count
  pub list : take count items ≡ l

abbrev pub active_in : Active → List Start
active_in a = take a.count a.items

abbrev pub active_clips : List Start → List ℕ
active_clips active = map (λ (a : Start). a.clip) active

abbrev pub knots_in : Knots → List Knot
knots_in k = take k.count k.items

abbrev pub blocks_in : Blocks → List Float
blocks_in b = take b.count b.items

abbrev pub clip_set_of : ClipSet → Definitions.ClipSet
clip_set_of s = record {
  clips = s.clips;
  active = active_in s.active;
  knots = knots_in s.knots;
  blocks = blocks_in s.blocks;
  default = s.default;
  interpolate_missing = s.interpolate;
}

abbrev pub manifest : Default → Bool → Missing
manifest default interpolate = record { default = default; interpolate = interpolate }

abbrev pub manifest_of : ClipSet → Missing
manifest_of s = record { default = s.default; interpolate = s.interpolate }

pub record ArraysWhole (s : ClipSet) : Type 0 where
  pub active : Room max_active s.active.items s.active.count
  pub knots : Room max_knots s.knots.items s.knots.count
  pub blocks : Room max_blocks s.blocks.items s.blocks.count

-- the set s, in whole arrays
pub record IsHeld (s : Definitions.ClipSet) (r : ClipSet) : Type 0 where
  pub is : clip_set_of r ≡ s
  pub held : ArraysWhole r

abbrev pub EmptySet : ClipSet → Type 0
EmptySet = IsHeld empty_set
