-- The place of a walk: the window that it is in. Assumes nothing.
use Rattle.std.specs.Prelude.{◌≡◌, List, false, not, ◌&&◌, ℕ, ◌+◌, ◌≤◌, ◌<◌, ltb, length, Float}
use Rattle.std.specs.Float.Ieee.{eq}
use Rattle.gf.specs.Doubles.{0·0}
use Rattle.definitions.specs.declared.Missing.{Missing}
use Rattle.definitions.specs.declared.Source.TheVariants.{Blocked}
use Rattle.definitions.specs.Lists.{any}
use Rattle.definitions.specs.Timing.{last_at_most}
use Rattle.definitions.specs.Samples.{clip_begin, clip_end}
use Rattle.laws.specs.cell.Lent.{set_of, samples_of}
use Rattle.value.specs.direct.Sources.{stand_in}
use Rattle.window.specs.declared.search.Window.{Window}
use Rattle.cell.specs.declared.place.WindowPlace.{WindowPlace}
use Rattle.value.specs.WindowOf.{WindowIs}

-- behind the last start, in no window
abbrev pub no_place : ℕ → WindowPlace
no_place n = record {
  start = n;
  window = record { start = 0·0; min = 0·0; max = 0·0; clip = 0; begin = 0; end = 0; gap = Blocked };
  knot = 0;
  sample = 0;
}

-- w is the window of the start at the place p, if that is a place; without samples its gap is what stands in for them
pub record PlaceIs (starts : List Float) (clips : List ℕ) (xs ys blocks : List Float) (m : Missing) (times values : List Float) (marks ends : List ℕ) (p : ℕ) (w : Window) : Type 0 where
  pub window : p < length starts → WindowIs starts clips xs ys blocks m times values marks ends p w
  pub gap : p < length starts → w.end ≤ w.begin → w.gap ≡ stand_in (set_of (length ends) starts clips xs ys blocks m) (samples_of times values marks ends) p

-- and, if there are starts, p is the place of the one that is active at t
pub record PlaceAt (starts : List Float) (clips : List ℕ) (xs ys blocks : List Float) (m : Missing) (times values : List Float) (marks ends : List ℕ) (t : Float) (p : ℕ) (w : Window) : Type 0 where
  pub is : PlaceIs starts clips xs ys blocks m times values marks ends p w
  pub place : 0 < length starts → p ≡ last_at_most starts t

-- the start at p comes after the place's, neither of the two has samples that it contributes
pub record Follows (blocks : List Float) (m : Missing) (ends : List ℕ) (start : Float) (clip q : ℕ) (w : Window) (p : ℕ) : Type 0 where
  pub next : p ≡ q + 1
  pub none_before : w.end ≤ w.begin
  pub none_here : (not (m.interpolate && any (λ (b : Float). eq b start) blocks) && ltb (clip_begin ends clip) (clip_end ends clip)) ≡ false
