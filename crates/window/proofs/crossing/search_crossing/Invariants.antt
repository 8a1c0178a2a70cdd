-- `window::crossing::search_crossing` meets its contract: the sample before lo is not beyond, the one at hi is, and hi - lo falls. Assumes nothing.
use Prim.Native.Nat.{ℕ, suc, ◌-◌, ◌≤◌, ◌<◌}
use mathlib.Core.Path.{◌≡◌}
use mathlib.Core.Bool.{true, false}
use lib.ListN.{length, get_or}
use lib.Ieee.{nan}
use Rattle.definitions.specs.Explicit.{knot}
use Rattle.window.specs.nearest.Crossings.{is_beyond}
use Rattle.window.proofs.crossing.search_crossing.Given as goal

abbrev pub invariant-loop-lo : goal.invariant-loop-lo
invariant-loop-lo l = (l.hi ≤ length l.cs) × (l.lo ≤ l.hi) × ((i : ℕ) → suc i ≡ l.lo → is_beyond l.t (knot l.sa l.ca, knot l.sb l.cb) (get_or l.cs i nan) ≡ false) × (l.hi < length l.cs → is_beyond l.t (knot l.sa l.ca, knot l.sb l.cb) (get_or l.cs l.hi nan) ≡ true)

abbrev pub decreases-loop-lo : goal.decreases-loop-lo
decreases-loop-lo l = l.hi - l.lo
