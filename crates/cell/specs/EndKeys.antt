-- The end of a cell by its key. Assumes nothing.
use Rattle.std.specs.Prelude.{not, ℕ, T, Float, Option, None, Some}
use Rattle.std.specs.Float.Ieee.{is_nan}
use Rattle.gf.specs.Doubles.{key}

-- an end is a number
abbrev pub Numbered : Option Float → Type 0
Numbered (Some e) = T (not (is_nan e))
Numbered None = Unit {0}

-- its key; above every key where there is none
abbrev pub end_key : Option Float → ℕ
end_key (Some e) = key e
end_key None = 0xffff_ffff_ffff_ffff
