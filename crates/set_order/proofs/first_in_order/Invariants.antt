-- `set_order::first_in_order` meets its contract: no set before the place qualifies. Assumes nothing.
use Rattle.std.proofs.Common.{◌≡◌, drop}
use Rattle.dispatch.specs.NamedSets.{first_qualifying}
use Rattle.set_order.specs.Answered.{fit_in}
use Rattle.set_order.proofs.first_in_order.Given as goal

abbrev pub invariant-loop-place : goal.invariant-loop-place
invariant-loop-place l = first_qualifying (fit_in l.starts l.declares) 0 l.order ≡ first_qualifying (fit_in l.starts l.declares) l.place (drop l.place l.order)
