-- `cell::step::step_below` meets its contract. The invariant: the sample at q is not read at b, which is the steps so far below hi. The measure is b. Assumes nothing.
use mathlib.Core.Path.{◌≡◌}
use Prim.Native.Nat.{◌+◌, ◌≤◌, ◌<◌}
use Rattle.cell.specs.step.Lines.{place_on}
use Rattle.cell.proofs.step.step_below.Given as goal

abbrev pub invariant-loop-width : goal.invariant-loop-width
invariant-loop-width l = (l.k < l.b) × (l.b ≤ l.hi) × (l.width + l.b ≡ l.hi + 1) × (place_on l.ts l.line l.b ≡ l.q → ⊥)

abbrev pub decreases-loop-width : goal.decreases-loop-width
decreases-loop-width l = l.b
