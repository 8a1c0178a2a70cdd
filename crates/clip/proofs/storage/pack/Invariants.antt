-- `clip::storage::pack` meets its contract: the first i entries are written. Assumes nothing.
use Rattle.definitions.specs.Lists.{zip_with}
use Rattle.lists.proofs.Filled.{Filled}
use Rattle.clip.proofs.storage.pack.Given as goal

abbrev pub invariant-loop-i : goal.invariant-loop-i
invariant-loop-i g l = Filled (zip_with g.T.Entry.joined l.firsts l.seconds) l.items l.i
