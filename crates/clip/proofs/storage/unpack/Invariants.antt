-- `clip::storage::unpack` meets its contract: the parts of the first i entries are written. Assumes nothing.
use mathlib.Core.List.{map}
use Rattle.lists.proofs.Filled.{Filled}
use Rattle.clip.proofs.storage.unpack.Given as goal

abbrev pub invariant-loop-i : goal.invariant-loop-i
invariant-loop-i g l = Filled (map g.T.Entry.first_of l.items) l.firsts l.i × Filled (map g.T.Entry.second_of l.items) l.seconds l.i
