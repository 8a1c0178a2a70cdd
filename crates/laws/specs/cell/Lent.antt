-- A set and samples as the lists that are lent, and what an operation has shown of these. Assumes nothing.
use Rattle.std.specs.Prelude.{◌≡◌, List, ℕ, length, Float}
use Rattle.definitions.specs.declared.Knot.{Knot}
use Rattle.definitions.specs.declared.Start.{Start}
use Rattle.definitions.specs.declared.Missing.{Missing}
use Rattle.definitions.specs.Lists.{zip_with}
use Rattle.definitions.specs.Explicit.{knot}
use Rattle.definitions.specs.ClipSet.{ClipSet}
use Rattle.definitions.specs.Samples.{Samples}
use Rattle.laws.specs.list.Every.{Every}
use Rattle.laws.specs.list.Places.{Fits}
use Rattle.laws.specs.set.Sound.{Sound}
use Rattle.laws.specs.set.Accepted.{Accepted}

-- ---- the set and the samples of the lists

abbrev pub start : Float → ℕ → Start
start time clip = record { time = time; clip = clip }

abbrev pub active_of : List Float → List ℕ → List Start
active_of times clips = zip_with start times clips

abbrev pub knots_of : List Float → List Float → List Knot
knots_of xs ys = zip_with knot xs ys

unfoldable pub set_of : (clips : ℕ) → List Float → List ℕ → List Float → List Float → List Float → Missing → ClipSet
set_of n starts clips xs ys blocks m = record {
  clips = n;
  active = active_of starts clips;
  knots = knots_of xs ys;
  blocks = blocks;
  default = m.default;
  interpolate_missing = m.interpolate;
}

abbrev pub samples_of : List Float → List Float → List ℕ → List ℕ → Samples
samples_of times values marks ends = record { times = times; values = values; marks = marks; ends = ends }

-- ---- the laws' premises

-- What an operation has shown of the lists that it lends: they are a well-formed set and samples that are accepted for it.
pub record AcceptedLists (starts : List Float) (clips : List ℕ) (xs ys blocks : List Float) (m : Missing) (times values : List Float) (marks ends : List ℕ) : Type 0 where
  pub starts-paired : length starts ≡ length clips
  pub knots-paired : length xs ≡ length ys
  pub sound : Sound (set_of (length ends) starts clips xs ys blocks m)
  pub accepted : Accepted (set_of (length ends) starts clips xs ys blocks m) (samples_of times values marks ends)
  pub numbers : Every Fits values
