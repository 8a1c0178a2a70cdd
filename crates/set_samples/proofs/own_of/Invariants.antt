-- `set_samples::own_of` meets its contract: the walk of `parts_number` up to the k-th set, of samples that are accepted. Assumes nothing.
use Rattle.set_samples.specs.Parting.{lent_samples}
use Rattle.set_samples.proofs.Walk.{Before}
use Rattle.set_samples.proofs.own_of.Given as goal

abbrev pub invariant-loop-i : goal.invariant-loop-i
invariant-loop-i l = Before l.clips (lent_samples l.counts l.ends l.times l.values l.marks) l.i l.a l.e
