-- `window::search::latest::latest_inverse` meets its contract: top stands for the segments before k. Assumes nothing.
use Rattle.window.specs.search.Latest.{LatestBefore}
use Rattle.window.proofs.search.latest.latest_inverse.Given as goal

abbrev pub invariant-loop-k : goal.invariant-loop-k
invariant-loop-k l = LatestBefore l.xs l.ys l.k l.top
