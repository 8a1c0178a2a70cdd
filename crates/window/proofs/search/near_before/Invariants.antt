-- `window::search::near_before` meets its contract: the segments from j up to `to` are searched. Assumes nothing.
use Rattle.window.specs.search.Reaches.{Reached}
use Rattle.window.specs.search.Windowed.{bounds_of}
use Rattle.window.proofs.search.near_before.Given as goal

abbrev pub invariant-loop-j : goal.invariant-loop-j
invariant-loop-j l = Reached l.t l.w l.xs l.ys l.cs l.j l.to (bounds_of l.initial.r) (bounds_of l.r)
