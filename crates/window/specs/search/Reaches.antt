-- The inverse times of the segments from one place to another, and what a search among them promises. Assumes nothing.
use Rattle.std.specs.Prelude.{◌≡◌, List, ℕ, ◌≤◌, ◌<◌, T, length, Float, Option, None, Some}
use Rattle.std.specs.Float.Ieee.{le}
use Rattle.gf.specs.declared.interval.Interval.{Interval}
use Rattle.definitions.specs.Lists.{keep, pairs}
use Rattle.definitions.specs.Doubles.{FiniteDouble}
use Rattle.laws.specs.list.Every.{Every}
use Rattle.laws.specs.list.Places.{Ascending, Number}
use Rattle.laws.specs.cell.Lent.{knots_of}
use Rattle.window.specs.declared.Neighbours.{Neighbours}
use Rattle.window.specs.Bounds.{In, inside}
use Rattle.window.specs.Inverses.{on_segment, inverses_of}
use Rattle.window.specs.SoundSegments.{SoundSegment}
use Rattle.window.specs.nearest.Nearest.{Met, Sided, Nearer}
use Rattle.window.specs.nearest.Beside.{TimeInside}
use Rattle.window.specs.search.Latest.{segment_of}

-- ---- what a search among knots and samples asks

pub record Searchable (xs ys cs : List Float) (w : Interval) (t : Float) : Type 0 where
  pub knots : Ascending xs
  pub paired : length xs ≡ length ys
  pub segments : Every SoundSegment (pairs (knots_of xs ys))
  pub samples : Ascending cs
  pub time : FiniteDouble t
  pub faces : TimeInside w t

-- no time up to `top` is above the lower neighbour
abbrev pub PastAll : Option Float → Float → Type 0
PastAll (Some l) top = T (le top l)
PastAll None top = ⊥

-- ---- what a search among segments promises

abbrev pub times_of : Interval → List Float → List Float → List Float → ℕ → List Float
times_of w xs ys cs j = keep (inside w) (on_segment cs (segment_of xs ys j))

-- from the bounds `held` to the bounds r, which no inverse time of the segments from `from` up to `to` comes between
pub record Reaching (g : List Float) (t : Float) (w : Interval) (xs ys cs : List Float) (from to : ℕ) (held r : Neighbours) : Type 0 where
  pub among : Sided g t r
  pub known : (j : ℕ) → from ≤ j → j < to → Every (Met t r) (times_of w xs ys cs j)
  pub kept : (x : Float) → Met t held x → Met t r x

pub record Reached (t : Float) (w : Interval) (xs ys cs : List Float) (from to : ℕ) (held r : Neighbours) : Type 0 where
  pub run : Number t → (g : List Float) → Every Number g → ((j : ℕ) → from ≤ j → j < to → Every (λ (x : Float). In x g) (times_of w xs ys cs j)) → Sided g t held → Reaching g t w xs ys cs from to held r

-- and of all segments, where the knots are known
pub record Around (t : Float) (w : Interval) (xs ys cs : List Float) (held r : Neighbours) : Type 0 where
  pub run : Number t → (g : List Float) → Every Number g → Every (λ (x : Float). In x g) (keep (inside w) (inverses_of (knots_of xs ys) cs)) → Sided g t held → Every (Met t held) (keep (inside w) xs)
      → Nearer g t (keep (inside w) (inverses_of (knots_of xs ys) cs)) held r
