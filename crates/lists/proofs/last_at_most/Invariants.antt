-- `lists::last_at_most` meets its contract. The number of times that are at most t stays between lo and hi, and hi - lo falls. Assumes nothing.
use Prim.Native.Nat.{◌-◌, ◌≤◌}
use lib.ListN.{length}
use Rattle.laws.proofs.list.Places.{at_most}
use Rattle.lists.proofs.last_at_most.Given as goal

abbrev pub invariant-loop-lo : goal.invariant-loop-lo
invariant-loop-lo l = (l.lo ≤ at_most l.times l.t) × (at_most l.times l.t ≤ l.hi) × (l.hi ≤ length l.times)

abbrev pub decreases-loop-lo : goal.decreases-loop-lo
decreases-loop-lo l = l.hi - l.lo
