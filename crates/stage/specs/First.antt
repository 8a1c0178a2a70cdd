-- A stage sample time as it is written: zero as -0.0 where that is among the times. Assumes nothing.
use Rattle.std.specs.Prelude.{Bool, cond, Float, Option, None, Some}
use Rattle.std.specs.Float.Ieee.{eq}
use Rattle.gf.specs.Doubles.{0·0}
use Rattle.stage.specs.MinusZero.{minus_zero}

-- ---- what is written

abbrev pub zero_of : Bool → Float
zero_of minus = cond minus minus_zero 0·0

-- a neighbour, with the sign of zero
abbrev pub with_zero : Float → Option Float → Option Float
with_zero z None = None
with_zero z (Some h) = cond (eq h 0·0) (Some z) (Some h)
