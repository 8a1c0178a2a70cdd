-- The double -0.0. Assumes nothing.
use Rattle.std.specs.Prelude.{true, pos, Float}
use Rattle.std.specs.Float.{fin}

abbrev pub minus_zero : Float
minus_zero = fin true 0 (pos 0)
