-- `value::jump::is_jump` meets its contract: no two knots from i on share such an x. Assumes nothing.
use Prim.Native.Nat.{ℕ, ◌+◌, ◌≤◌, ◌<◌}
use mathlib.Core.Path.{◌≡◌}
use mathlib.Core.Bool.{false}
use lib.ListN.{length, get_or}
use lib.Ieee.{nan}
use Rattle.definitions.specs.Timing.{last_at_most}
use Rattle.value.specs.Jumps.{jumps_at}
use Rattle.value.proofs.jump.is_jump.Given as goal

abbrev pub invariant-loop-i : goal.invariant-loop-i
invariant-loop-i l = (l.i ≤ last_at_most l.xs l.upper) × ((j : ℕ) → l.i ≤ j → j + 1 < length l.xs → jumps_at l.lower l.upper (get_or l.xs j nan, get_or l.xs (j + 1) nan) ≡ false)
