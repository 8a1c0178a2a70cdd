-- The neighbours of a time among times in any order. Assumes nothing.
use Rattle.std.specs.Prelude.{◌≡◌, ◌⊎◌, Bool, ◌&&◌, List, [], ◌∷◌, T, Float, Option, None, Some}
use Rattle.std.specs.Float.Ieee.{lt, le}
use Rattle.gf.specs.declared.interval.Interval.{Interval}
use Rattle.laws.specs.list.Every.{Every}
use Rattle.laws.specs.cell.Neighbours.{IsLower, IsUpper}
use Rattle.window.specs.declared.Neighbours.{Neighbours}

-- ---- what the bounds are: the contracts

-- the greatest of the times that is at most t, or none is
abbrev pub LowerIs : List Float → Float → Option Float → Type 0
LowerIs times t (Some l) = IsLower times t l
LowerIs times t None = Every (λ (x : Float). T (le x t) → ⊥) times

-- the least of the times that is above t, or none is
abbrev pub UpperIs : List Float → Float → Option Float → Type 0
UpperIs times t (Some h) = IsUpper times t h
UpperIs times t None = Every (λ (x : Float). T (lt t x) → ⊥) times

pub record NeighboursAre (times : List Float) (t : Float) (n : Neighbours) : Type 0 where
  pub lower : LowerIs times t n.lower
  pub upper : UpperIs times t n.upper

-- ---- one time more

abbrev pub with_lower : Neighbours → Option Float → Neighbours
with_lower n b = record { lower = b; upper = n.upper }

abbrev pub with_upper : Neighbours → Option Float → Neighbours
with_upper n b = record { lower = n.lower; upper = b }

abbrev pub inside : Interval → Float → Bool
inside w x = le w.min x && lt x w.max

abbrev pub In : Float → List Float → Type 0
In x [] = ⊥
In x (y ∷ l) = (x ≡ y) ⊎ In x l

abbrev pub nothing : Neighbours
nothing = record { lower = None; upper = None }
