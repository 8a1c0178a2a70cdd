-- `set_order::listed::first_listed` meets its contract: the names before the index are passed, and those from it on answer for all. Assumes nothing.
use Rattle.set_names.specs.Pages.{names_in}
use Rattle.set_order.proofs.Passed.{Passed}
use Rattle.set_order.proofs.listed.first_listed.Given as goal

abbrev pub invariant-loop-end : goal.invariant-loop-end
invariant-loop-end l = Passed (names_in l.names l.n) l.starts l.declares l.bytes l.ends l.met l.place l.begin l.end-index
