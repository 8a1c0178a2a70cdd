-- Doubles that a set may hold. Assumes nothing.
use Rattle.std.specs.Prelude.{◌-◌, T, Float}
use Rattle.std.specs.Float.{binary64}
use Rattle.std.specs.Float.Ieee.{fits, lt}
use Rattle.gf.specs.Doubles.{storable}

-- a double that fits its format and is of size 2^40 at most
pub record Stored (x : Float) : Type 0 where
  pub fitting : T (fits binary64 x)
  pub inside : T (storable x)

abbrev pub Lt : Float → Float → Type 0
Lt x y = T (lt x y)
