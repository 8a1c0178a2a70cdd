-- `window::window_max` meets its contract. Assumes nothing.
use lib.Ieee.{of_bits, neg, div}
use borrow.Author.Tests.{le-ltb}
use Rattle.window.proofs.window_max.Goals as goal

pub returns : goal.returns
unfolding of_bits neg div
returns c = rw (le-ltb _ _ c.if-p-starts.false)
