-- Doubles in a list, and times that ascend. Assumes nothing.
use Rattle.std.specs.Prelude.{not, List, T, Float}
use Rattle.std.specs.Float.{binary64}
use Rattle.std.specs.Float.Ieee.{fits, is_nan, le}
use Rattle.definitions.specs.Doubles.{FiniteDouble}
use Rattle.laws.specs.list.Every.{Every, Chain}

-- a double, as a program holds it
abbrev pub Fits : Float → Type 0
Fits x = T (fits binary64 x)

-- a double that is no NaN
abbrev pub Number : Float → Type 0
Number x = Fits x × T (not (is_nan x))

abbrev pub Le : Float → Float → Type 0
Le x y = T (le x y)

-- finite doubles, weakly ascending
pub record Ascending (xs : List Float) : Type 0 where
  pub numbers : Every FiniteDouble xs
  pub order : Chain Le xs
