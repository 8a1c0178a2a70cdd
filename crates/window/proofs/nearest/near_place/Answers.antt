-- `window::nearest::near_place` meets its contract. Assumes nothing.
use borrow.Author.Tests.{lt-ltb, le-ltb}
use Rattle.window.specs.nearest.Beside.{with_place}
use Rattle.window.proofs.nearest.near_place.Goals as goal

pub returns-then-i-xs : goal.returns-then-i-xs
unfolding with_place
returns-then-i-xs c = rw (lt-ltb _ _ c.if-i-xs.true) c.near_inside.ensures

pub returns : goal.returns
unfolding with_place
returns c = rw (le-ltb _ _ c.if-i-xs.false)
