-- `run::inside::fill_run` meets its contract. The invariant: the walk stands at the key at, and place is that of at among the samples. The measure is how many samples may still come. Assumes nothing.
use Prim.Native.Nat.{◌≤◌}
use lib.Ieee.{Float}
use Rattle.definitions.specs.Moments.{outputs}
use Rattle.cell.specs.step.Entries.{entry_is}
use Rattle.run.specs.Runs.{passing_at, Passing, InRun, left}
use Rattle.run.specs.Walks.{Stands}
use Rattle.run.proofs.inside.fill_run.Given as goal

abbrev pub invariant-loop-next : goal.invariant-loop-next
invariant-loop-next l =
    (l.at ≤ l.hi) × InRun l.cs (l.s.a, l.s.b) l.place l.at
    × ((floor : Float) → Passing l.cs l.vs l.ms (l.s.a, l.s.b) floor (entry_is l.initial.held) l.k l.hi → Stands (passing_at l.cs l.vs l.ms (l.s.a, l.s.b) floor) l.k l.room l.slot (outputs l.initial.outtimes l.initial.outvalues l.initial.outmarks) (outputs l.outtimes l.outvalues l.outmarks) l.at (entry_is l.held) l.count)

abbrev pub decreases-loop-next : goal.decreases-loop-next
decreases-loop-next l =
    left l.cs (l.s.a, l.s.b) l.place
