-- `set_samples::total_samples` meets its contract: the counts up to the index are added. Assumes nothing.
use native.Mathlib.Omega.{arith}
use mathlib.Core.Path.{refl}
use Rattle.set_samples.proofs.Sums.{adding, add-next, add-above, added}
use Rattle.set_samples.proofs.total_samples.Goals as goal

pub loop-count-init : goal.loop-count-init
loop-count-init c = adding _

pub returns-then-count-gt-SAMPLES : goal.returns-then-count-gt-SAMPLES
returns-then-count-gt-SAMPLES c = let k = c.loop-count in (add-above _ k.count-index k.sum k.invariant (omega arith) c.if-count-gt-SAMPLES.true, refl)

pub overflow_add-sum : goal.overflow_add-sum
overflow_add-sum c = let k = c.loop-count in omega (arith, k.invariant.low, c.if-count-gt-SAMPLES.false, c.requires)

pub loop-count-preserved : goal.loop-count-preserved
loop-count-preserved c = let k = c.loop-count in add-next _ k.count-index k.sum k.invariant (omega arith) (omega (arith, c.if-count-gt-SAMPLES.false))

pub returns : goal.returns
returns c = let k = c.loop-count in added _ k.count-index k.sum k.invariant (omega arith)
