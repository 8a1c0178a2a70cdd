-- `window::search::latest::latest_inverses` meets its contract: the latest of the segments before the last knot that was passed stand. Assumes nothing.
use Prim.Native.Nat.{◌-◌}
use Rattle.window.proofs.search.LatestLaws.{TopsTo}
use Rattle.window.proofs.search.latest.latest_inverses.Given as goal

abbrev pub invariant-loop-i : goal.invariant-loop-i
invariant-loop-i l = TopsTo l.xs l.ys l.items l.top (l.i - 1)
