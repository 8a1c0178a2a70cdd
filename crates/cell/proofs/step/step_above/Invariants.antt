-- `cell::step::step_above` meets its contract. The invariant: the sample at q is read at a, which is the steps so far above k. The measure is hi - a. Assumes nothing.
use mathlib.Core.Path.{◌≡◌}
use Prim.Native.Nat.{◌+◌, ◌-◌, ◌≤◌}
use Rattle.cell.specs.step.Lines.{place_on}
use Rattle.cell.proofs.step.step_above.Given as goal

abbrev pub invariant-loop-width : goal.invariant-loop-width
invariant-loop-width l = (l.k ≤ l.a) × (l.a ≤ l.hi) × (l.width + l.k ≡ l.a + 1) × (place_on l.ts l.line l.a ≡ l.q)

abbrev pub decreases-loop-width : goal.decreases-loop-width
decreases-loop-width l = l.hi - l.a
