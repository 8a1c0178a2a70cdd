-- `count::count_within` meets its contract. The invariant: `count` is the number of changes up to the cursor. The measure is what is left up to top. Assumes nothing.
use mathlib.Core.Path.{◌≡◌}
use Prim.Native.Nat.{◌-◌, ◌≤◌}
use lib.ListN.{length}
use Rattle.definitions.specs.Moments.{outputs}
use Rattle.laws.specs.cell.Lent.{set_of, samples_of}
use Rattle.track.specs.span.Changes.{changes_of}
use Rattle.track.specs.Fills.{CursorIs}
use Rattle.run.proofs.Filling.{Long}
use Rattle.track.proofs.count.count_within.Given as goal

abbrev pub invariant-loop-m : goal.invariant-loop-m
invariant-loop-m l =
    (l.initial.at.key ≤ l.at.key) × CursorIs l.starts l.clips l.xs l.ys l.blocks l.m l.times l.values l.marks l.ends l.top l.at × (l.count ≡ length (changes_of (set_of (length l.ends) l.starts l.clips l.xs l.ys l.blocks l.m) (samples_of l.times l.values l.marks l.ends) l.initial.at.key l.at.key)) × Long (outputs l.initial.pagetimes l.initial.pagevalues l.initial.pagemarks) (outputs l.pagetimes l.pagevalues l.pagemarks)

abbrev pub decreases-loop-m : goal.decreases-loop-m
decreases-loop-m l =
    l.top - l.at.key
