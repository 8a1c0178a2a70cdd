-- `cell::step::step_between` meets its contract. The invariant: the sample at q is read at a, and not at b. The measure is b - a. Assumes nothing.
use mathlib.Core.Path.{◌≡◌}
use Prim.Native.Nat.{◌-◌, ◌≤◌, ◌<◌}
use Rattle.cell.specs.step.Lines.{place_on}
use Rattle.cell.proofs.step.step_between.Given as goal

abbrev pub invariant-loop-b : goal.invariant-loop-b
invariant-loop-b l = (l.k ≤ l.a) × (l.a < l.b) × (l.b ≤ l.hi) × (place_on l.ts l.line l.a ≡ l.q) × (place_on l.ts l.line l.b ≡ l.q → ⊥)

abbrev pub decreases-loop-b : goal.decreases-loop-b
decreases-loop-b l = l.b - l.a
