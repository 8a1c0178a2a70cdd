-- How far the inverse times of the segments reach: rounding may take one past its segment's second knot. Assumes nothing.
use Rattle.std.specs.Prelude.{List, ℕ, ◌+◌, ◌<◌, T, length, get_or, Float}
use Rattle.std.specs.Float.{nan}
use Rattle.std.specs.Float.Ieee.{le}
use Rattle.definitions.specs.declared.Knot.{Knot}
use Rattle.definitions.specs.Value.{spans, inverse}
use Rattle.laws.specs.list.Places.{Number}
use Rattle.lists.specs.Segments.{knot_at}

-- the segment from the knot at j on, as a pair
abbrev pub segment_of : List Float → List Float → ℕ → Knot × Knot
segment_of xs ys j = (knot_at xs ys j, knot_at xs ys (j + 1))

-- r is not below any inverse time of the segments before i
pub record LatestBefore (xs ys : List Float) (i : ℕ) (r : Float) : Type 0 where
  pub number : Number r
  pub last : (j : ℕ) → j < i → (c : Float) → T (spans (get_or ys j nan) (get_or ys (j + 1) nan) c) → T (le (inverse (knot_at xs ys j) (knot_at xs ys (j + 1)) c) r)

-- each top, at k, is such a one for the segments up to k. There may be none.
pub record LatestOf (xs ys latest : List Float) : Type 0 where
  pub above : (k : ℕ) → k < length latest → k + 1 < length xs → LatestBefore xs ys (k + 1) (get_or latest k nan)

-- ---- one segment more

-- the top r stands for the top before it and for the segment
pub record LaterInverse (q : Knot × Knot) (top r : Float) : Type 0 where
  pub number : Number r
  pub over : T (le top r)
  pub reach : (c : Float) → T (spans q.0.y q.1.y c) → T (le (inverse q.0 q.1 c) r)
