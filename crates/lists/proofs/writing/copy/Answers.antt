-- `lists::writing::copy` meets its contract: the first i entries are copied. Assumes nothing.
use mathlib.Core.Path.{refl}
use native.Mathlib.Omega.{arith}
use Rattle.lists.proofs.Filled.{fill_start, fill-next, fill-whole}
use Rattle.lists.proofs.writing.copy.Goals as goal

pub loop-i-init : goal.loop-i-init
loop-i-init g c = fill_start c.args.from.now c.args.to.now (omega (arith, c.requires))

pub returns : goal.returns
returns g c =
    let k = c.loop-i in
    fill-whole c.args.from.now k.to k.i k.invariant (omega arith) (omega (arith, c.requires, k.auto))
