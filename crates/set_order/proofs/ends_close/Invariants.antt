-- `set_order::ends_close` meets its contract: the ends from the index on answer for all. Assumes nothing.
use Rattle.std.proofs.Common.{◌≡◌, drop}
use Rattle.definitions.specs.Samples.{closes}
use Rattle.set_order.proofs.ends_close.Given as goal

abbrev pub invariant-loop-end : goal.invariant-loop-end
invariant-loop-end l = closes 0 l.ends l.len ≡ closes l.begin (drop l.end-index l.ends) l.len
