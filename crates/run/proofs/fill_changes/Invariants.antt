-- `run::fill_changes` meets its contract. The invariant: the walk stands at the key at, and place is what is read there. The measure is what is left up to hi. Assumes nothing.
use mathlib.Core.Path.{◌≡◌}
use Prim.Native.Nat.{◌-◌, ◌≤◌}
use Rattle.definitions.specs.Moments.{outputs}
use Rattle.cell.specs.step.Lines.{place_on}
use Rattle.cell.specs.step.Entries.{entry_is}
use Rattle.run.specs.Readings.{reading_at}
use Rattle.run.specs.Walks.{Stands}
use Rattle.run.proofs.fill_changes.Given as goal

abbrev pub invariant-loop-step : goal.invariant-loop-step
invariant-loop-step l =
    (l.at ≤ l.hi) × (l.place ≡ place_on l.ts l.line l.at) × Stands (reading_at l.ts l.vs l.ms l.line) l.k l.room l.n (outputs l.initial.outtimes l.initial.outvalues l.initial.outmarks) (outputs l.outtimes l.outvalues l.outmarks) l.at (entry_is l.last) l.count

abbrev pub decreases-loop-step : goal.decreases-loop-step
decreases-loop-step l =
    l.hi - l.at
