-- `window::nearest::candidate::with_near` meets its contract. Assumes nothing.
use mathlib.Core.Path.{ap}
use Rattle.window.specs.Bounds.{with_lower, with_upper}
use Rattle.window.specs.nearest.Nearest.{with_near}
use Rattle.window.proofs.nearest.candidate.with_near.Goals as goal

pub returns-then-x-t : goal.returns-then-x-t
unfolding with_near
returns-then-x-t c = rw c.if-x-t.true (ap (with_lower c.args.known) c.greater.ensures)

pub returns : goal.returns
unfolding with_near
returns c = rw c.if-x-t.false (ap (with_upper c.args.known) c.lesser.ensures)
