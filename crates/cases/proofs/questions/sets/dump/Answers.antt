-- `cases::questions::sets::dump` is safe: the set that is found is one of those that stand. Assumes nothing.
use Rattle.std.proofs.Common.{arith}
use Rattle.cases.proofs.Dispatched.{found_below}
use Rattle.cases.proofs.questions.sets.dump.Goals as goal

pub dump_at-requires : goal.dump_at-requires
dump_at-requires c = (c.requires.fact_1, omega (arith, c.requires.fact_2.few, found_below _ _ _ _ c.in-Some.ensures))
