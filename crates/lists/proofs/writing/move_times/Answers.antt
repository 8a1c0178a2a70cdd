-- `lists::writing::move_times` meets its contract: the first times are moved, the others as they were. Assumes nothing.
use native.Mathlib.Omega.{arith}
use lib.Ieee.{nan}
use Rattle.definitions.specs.Retime.{apply}
use Rattle.lists.proofs.Filled.{change-start, change-next, change-end}
use Rattle.lists.proofs.writing.move_times.Goals as goal

pub loop-time-init : goal.loop-time-init
loop-time-init c = change-start (apply c.args.o) c.args.times.now

pub loop-time-preserved : goal.loop-time-preserved
unfolding apply
loop-time-preserved c = let k = c.loop-time in change-next (apply c.args.o) c.args.times.now k.times k.time-index nan k.invariant (omega arith)

pub returns : goal.returns
returns c = let k = c.loop-time in change-end (apply c.args.o) c.args.times.now k.times k.time-index k.invariant (omega arith)
