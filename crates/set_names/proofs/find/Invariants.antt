-- `set_names::find` meets its contract: the names before the i-th are others. Assumes nothing.
use Rattle.set_names.proofs.Search.{Searched}
use Rattle.set_names.proofs.find.Given as goal

abbrev pub invariant-loop-i : goal.invariant-loop-i
invariant-loop-i l = Searched l.bytes l.n l.name l.i
