-- The knots of two lists of doubles, by their places. Assumes nothing.
use Rattle.std.specs.Prelude.{List, ℕ, ◌+◌, get_or, Float}
use Rattle.std.specs.Float.{nan}
use Rattle.definitions.specs.declared.Knot.{Knot}
use Rattle.definitions.specs.declared.Segment.{Segment}
use Rattle.definitions.specs.Explicit.{knot}

abbrev pub knot_at : List Float → List Float → ℕ → Knot
knot_at xs ys i = knot (get_or xs i nan) (get_or ys i nan)

-- from the knot at i on
abbrev pub segment_at : List Float → List Float → ℕ → Segment
segment_at xs ys i = record { a = knot_at xs ys i; b = knot_at xs ys (i + 1) }
