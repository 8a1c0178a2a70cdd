-- `set_order::any_too_long` meets its contract: the names from the index on answer for all. Assumes nothing.
use Rattle.std.proofs.Common.{refl, sym, ap, ◌∙◌, arith}
use Rattle.definitions.specs.Lists.{any}
use Rattle.dispatch.specs.SetOrder.{too_long}
use Rattle.set_order.proofs.Ends.{end_after, walk-on, names-end, long-here, long-later}
use Rattle.set_order.proofs.any_too_long.Goals as goal

pub loop-end-init : goal.loop-end-init
loop-end-init c = (record { closed = c.requires }, refl)

pub overflow_sub-end : goal.overflow_sub-end
overflow_sub-end c = let k = c.loop-end in end_after _ _ k.begin k.end-index k.invariant.0 (omega arith)

pub returns-then-end-begin-gt-NAME_BYTES : goal.returns-then-end-begin-gt-NAME_BYTES
returns-then-end-begin-gt-NAME_BYTES c = let k = c.loop-end in sym (k.invariant.1 ∙ long-here _ _ k.begin k.end-index k.invariant.0 (omega arith) c.if-end-begin-gt-NAME_BYTES.true)

pub loop-end-preserved : goal.loop-end-preserved
loop-end-preserved c =
    let k = c.loop-end in
    (walk-on _ _ k.begin k.end-index k.invariant.0 (omega arith), k.invariant.1 ∙ long-later _ _ k.begin k.end-index k.invariant.0 (omega arith) c.if-end-begin-gt-NAME_BYTES.false)

pub returns : goal.returns
returns c = let k = c.loop-end in sym (k.invariant.1 ∙ ap (any too_long) (names-end _ _ k.begin k.end-index (omega arith)))
