-- `lists::writing::copy` meets its contract: the first i entries are copied. Assumes nothing.
use Rattle.lists.proofs.Filled.{Filled}
use Rattle.lists.proofs.writing.copy.Given as goal

abbrev pub invariant-loop-i : goal.invariant-loop-i
invariant-loop-i g l = Filled l.from l.to l.i
