-- A segment of the knots that holds a stage time. Assumes nothing.
use Rattle.std.specs.Prelude.{◌≡◌, Bool, true, ◌&&◌, List, ℕ, ◌+◌, ◌<◌, ltb, length, get_or, Float}
use Rattle.std.specs.Float.{nan}
use Rattle.std.specs.Float.Ieee.{lt, le}

-- t lies from the knot at i on and below the next
pub record OnSegment (xs : List Float) (t : Float) (i : ℕ) : Type 0 where
  pub place : i + 1 < length xs
  pub from : le (get_or xs i nan) t ≡ true
  pub upto : lt t (get_or xs (i + 1) nan) ≡ true

-- the same, as a test
unfoldable pub is_between : List Float → Float → ℕ → Bool
is_between xs t i = ltb (i + 1) (length xs) && le (get_or xs i nan) t && lt t (get_or xs (i + 1) nan)
