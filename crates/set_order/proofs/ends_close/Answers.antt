-- `set_order::ends_close` meets its contract: the ends from the index on answer for all. Assumes nothing.
use Rattle.std.proofs.Common.{sym, ◌∙◌, arith}
use Rattle.set_order.proofs.Ends.{closes_before, closes-next, closes-end}
use Rattle.set_order.proofs.ends_close.Goals as goal

pub returns-then-end-begin : goal.returns-then-end-begin
returns-then-end-begin c = let k = c.loop-end in sym (k.invariant ∙ closes_before _ k.end-index _ k.begin (omega arith) c.if-end-begin.true)

pub loop-end-preserved : goal.loop-end-preserved
loop-end-preserved c = let k = c.loop-end in k.invariant ∙ closes-next _ k.end-index _ k.begin (omega arith) c.if-end-begin.false

pub returns : goal.returns
returns c = let k = c.loop-end in sym (k.invariant ∙ closes-end _ k.end-index _ k.begin (omega arith))
