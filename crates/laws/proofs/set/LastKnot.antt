-- The last knot by its place. Assumes nothing.
use mathlib.Core.Path.{◌≡◌, refl}
use mathlib.Core.List.{List, [], ◌∷◌}
use lib.ListN.{length, get_or}
use Rattle.definitions.specs.declared.Knot.{Knot}
use Rattle.definitions.specs.Timing.{last_knot}

pub last-knot-is : (k : Knot) (rest : List Knot) (d : Knot) → last_knot k rest ≡ get_or (k ∷ rest) (length rest) d
last-knot-is k [] d = refl
last-knot-is k (n ∷ rest) d = last-knot-is n rest d
