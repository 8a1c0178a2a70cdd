-- `sdf::scans::any_nan_beside` meets its contract: those counted and what is left of the two lists answer for the whole. Assumes nothing.
use Prim.Native.Nat.{◌≤◌}
use mathlib.Core.Path.{◌≡◌}
use mathlib.Core.Bool.{◌||◌}
use lib.Dec.{ltb}
use lib.Ieee.{is_nan}
use Rattle.sdf.proofs.Beside.{either_from}
use Rattle.sdf.proofs.scans.any_nan_beside.Given as goal

abbrev pub invariant-loop-i : goal.invariant-loop-i
invariant-loop-i l = (l.found ≤ l.i) × (either_from is_nan l.left l.right 0 ≡ (ltb 0 l.found || either_from is_nan l.left l.right l.i))
