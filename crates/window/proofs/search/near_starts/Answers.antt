-- `window::search::near_starts` meets its contract. Assumes nothing.
use lib.Ieee.{of_bits, div}
use Rattle.window.proofs.search.Windowed.{starts-two, starts-one}
use Rattle.window.proofs.search.near_starts.Goals as goal

pub returns-then-w : goal.returns-then-w
unfolding of_bits div
returns-then-w c = let a = c.args in starts-two a.w a.t c.with_near-first.ensures c.if-w.true c.with_near.ensures

pub returns : goal.returns
unfolding of_bits div
returns c = let a = c.args in starts-one a.w a.t c.with_near-first.ensures c.if-w.false
