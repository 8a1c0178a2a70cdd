-- `set_order::any_too_long` meets its contract: the names from the index on answer for all. Assumes nothing.
use Rattle.std.proofs.Common.{◌≡◌, drop}
use Rattle.definitions.specs.Lists.{any}
use Rattle.dispatch.specs.SetOrder.{too_long, names_from}
use Rattle.set_order.proofs.Ends.{Walk}
use Rattle.set_order.proofs.any_too_long.Given as goal

abbrev pub invariant-loop-end : goal.invariant-loop-end
invariant-loop-end l = Walk l.bytes l.ends l.begin l.end-index × (any too_long (names_from 0 l.bytes l.ends) ≡ any too_long (names_from l.begin l.bytes (drop l.end-index l.ends)))
