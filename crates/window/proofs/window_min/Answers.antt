-- `window::window_min` meets its contract. Assumes nothing.
use lib.Ieee.{of_bits, neg, div}
use borrow.Author.Tests.{eq-eqb}
use Rattle.window.proofs.window_min.Goals as goal

pub returns-then-p-eq0 : goal.returns-then-p-eq0
unfolding of_bits neg div
returns-then-p-eq0 c = rw (eq-eqb c.args.p 0 c.if-p-eq0.true)
