-- `stage::walk::count_within` meets its contract: the times that were counted and those above the last one are all, and each has a key of its own. Assumes nothing.
use Prim.Native.Nat.{◌+◌, ◌-◌, ◌≤◌}
use mathlib.Core.Path.{◌≡◌}
use lib.ListN.{length}
use Rattle.gf.specs.Doubles.{key}
use Rattle.definitions.specs.Doubles.{FiniteDouble}
use Rattle.stage.specs.Times.{times_of, times_after}
use Rattle.stage.proofs.Times.{before_all}
use Rattle.stage.proofs.walk.count_within.Given as goal

abbrev pub invariant-loop-h : goal.invariant-loop-h
invariant-loop-h l =
    FiniteDouble l.t × (l.count ≤ l.room)
    × (length (times_of l.starts l.clips l.xs l.ys l.times l.ends) ≡ l.count + length (times_after l.starts l.clips l.xs l.ys l.times l.ends l.t))
    × (l.count + key before_all ≤ key l.t)

abbrev pub decreases-loop-h : goal.decreases-loop-h
decreases-loop-h l = l.room - l.count
