-- `stage::walk::write_times` meets its contract: the times that were written and those above the last one are all. Assumes nothing.
use Prim.Native.Nat.{◌-◌}
use lib.ListN.{length}
use Rattle.definitions.specs.Doubles.{FiniteDouble}
use Rattle.stage.specs.Times.{times_of, times_after}
use Rattle.stage.proofs.Writing.{Wrote}
use Rattle.stage.proofs.walk.write_times.Given as goal

abbrev pub invariant-loop-h : goal.invariant-loop-h
invariant-loop-h l =
    FiniteDouble l.t
    × Wrote (times_of l.starts l.clips l.xs l.ys l.times l.ends) (times_after l.starts l.clips l.xs l.ys l.times l.ends l.t) l.initial.out l.out l.count

abbrev pub decreases-loop-h : goal.decreases-loop-h
decreases-loop-h l = length l.initial.out - l.count
