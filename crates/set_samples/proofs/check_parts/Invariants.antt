-- `set_samples::check_parts` meets its contract: each set's own samples are judged as one set's. Assumes nothing.
use Rattle.definitions.specs.Refusals.{number_in}
use Rattle.set_samples.specs.Parting.{lent_samples}
use Rattle.set_samples.proofs.Judged.{Judging}
use Rattle.set_samples.proofs.check_parts.Given as goal

abbrev pub invariant-loop-i : goal.invariant-loop-i
invariant-loop-i l = Judging l.clips (lent_samples l.counts l.ends l.times l.values l.marks) l.i l.a l.e (number_in l.w)
