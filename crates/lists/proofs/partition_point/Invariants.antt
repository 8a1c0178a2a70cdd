-- `lists::partition_point` meets its contract. What the search finds from here on is what it finds in the whole list, and ever fewer places are left. Assumes nothing.
use Prim.Native.Nat.{ℕ, ◌+◌, ◌≤◌}
use mathlib.Core.Path.{◌≡◌}
use mathlib.Core.Bool.{Bool}
use mathlib.Core.List.{List}
use lib.ListN.{length, get_or}
use lib.Ieee.{Float, nan, le}
use Rattle.definitions.specs.Reading.{by_halves, partition_point}
use Rattle.lists.proofs.partition_point.Given as goal

abbrev pub at_most : List Float → Float → ℕ → Bool
at_most xs t i = le (get_or xs i nan) t

abbrev pub invariant-loop-n : goal.invariant-loop-n
invariant-loop-n l = (l.at + l.n ≤ length l.times) × (by_halves (at_most l.times l.t) l.n l.at l.n ≡ partition_point l.times l.t)

abbrev pub decreases-loop-n : goal.decreases-loop-n
decreases-loop-n l = l.n
