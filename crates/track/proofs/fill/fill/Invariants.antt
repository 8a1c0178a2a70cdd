-- `fill::fill` meets its contract. The invariant: the walk stands at the key at, and the place is one of the set's. The measure is what is left up to top. Assumes nothing.
use Prim.Native.Nat.{◌-◌, ◌≤◌}
use lib.ListN.{length}
use Rattle.definitions.specs.Moments.{outputs}
use Rattle.laws.specs.cell.Keys.{entry_at_key}
use Rattle.laws.specs.cell.Lent.{set_of, samples_of}
use Rattle.cell.specs.step.Entries.{entry_is}
use Rattle.run.specs.Walks.{Stands}
use Rattle.cell.specs.WindowPlaces.{PlaceIs}
use Rattle.track.proofs.fill.fill.Given as goal

abbrev pub invariant-loop-at : goal.invariant-loop-at
invariant-loop-at l =
    (l.at ≤ l.top) × PlaceIs l.starts l.clips l.xs l.ys l.blocks l.m l.times l.values l.marks l.ends l.place.start l.place.window
    × Stands (entry_at_key (set_of (length l.ends) l.starts l.clips l.xs l.ys l.blocks l.m) (samples_of l.times l.values l.marks l.ends)) l.initial.at l.room 0 (outputs l.initial.outtimes l.initial.outvalues l.initial.outmarks) (outputs l.outtimes l.outvalues l.outmarks) l.at (entry_is l.last) l.count

abbrev pub decreases-loop-at : goal.decreases-loop-at
decreases-loop-at l =
    l.top - l.at
