-- A jump by the x of the knots alone: their y decide nothing. Assumes nothing.
use Rattle.std.specs.Prelude.{Bool, ◌&&◌, List, Float}
use Rattle.std.specs.Float.Ieee.{eq, lt, le}
use Rattle.definitions.specs.Lists.{any, pairs}

abbrev pub jumps_at : Float → Float → Float × Float → Bool
jumps_at lower upper p = eq p.0 p.1 && lt lower p.0 && le p.0 upper

-- "two knots share an x above the lower neighbour and at most the upper"
abbrev pub jump_in : List Float → Float → Float → Bool
jump_in xs lower upper = any (jumps_at lower upper) (pairs xs)
