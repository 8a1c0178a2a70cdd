-- `set_samples::total_samples` meets its contract: the counts up to the index are added. Assumes nothing.
use Rattle.set_samples.proofs.Sums.{Adding}
use Rattle.set_samples.proofs.total_samples.Given as goal

abbrev pub invariant-loop-count : goal.invariant-loop-count
invariant-loop-count l = Adding l.counts l.count-index l.sum
