-- `template::expanding::stage_time` meets its contract. Assumes nothing.
use lib.Ieee.{of_bits}
use Rattle.template.proofs.expanding.stage_time.Goals as goal

pub returns-then-offset : goal.returns-then-offset
unfolding of_bits
returns-then-offset c = rw c.if-offset.true

pub returns : goal.returns
unfolding of_bits
returns c = rw c.if-offset.false
