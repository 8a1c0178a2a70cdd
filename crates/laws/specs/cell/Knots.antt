-- The line of the knots at a stage time, and the clip time along it. Assumes nothing.
use Rattle.std.specs.Prelude.{cond, List, [], ◌∷◌, suc, T, get_or, Float}
use Rattle.std.specs.Float.Ieee.{lt, le}
use Rattle.gf.specs.Doubles.{within}
use Rattle.definitions.specs.declared.Knot.{Knot}
use Rattle.definitions.specs.ClipSet.{knot_times}
use Rattle.definitions.specs.Timing.{last_at_most, last_knot, on_segment}
use Rattle.laws.specs.list.Places.{Fits}

-- a stored knot: two doubles of size 2 ^ 40 at most
pub record SoundKnot (k : Knot) : Type 0 where
  pub fx : Fits k.x
  pub fy : Fits k.y
  pub bx : T (within 40 k.x)
  pub by : T (within 40 k.y)

-- ---- the line that leads from stage times to clip times at t

pub data Line : Type 0 where
  -- no knots: the stage time
  plain : Line
  -- below the first x, and from the last on
  flat : (y : Float) → Line
  -- else
  segment : (lo hi : Knot) → Line

unfoldable pub line_of : List Knot → Float → Line
line_of [] t = plain
line_of (first ∷ rest) t =
    let lo = last_at_most (knot_times (first ∷ rest)) t in
    cond (lt t first.x) (flat first.y)
    (cond (le (last_knot first rest).x t) (flat (last_knot first rest).y)
    (segment (get_or (first ∷ rest) lo first) (get_or (first ∷ rest) (suc lo) first)))

-- the clip time that a line gives
unfoldable pub along : Line → Float → Float
along plain t = t
along (flat y) t = y
along (segment lo hi) t = on_segment lo hi t
