-- `clip::retiming::is_identity` meets its contract. Assumes nothing.
use lib.Ieee.{of_bits}
use Rattle.definitions.specs.Retime.{is_identity}
use Rattle.clip.proofs.retiming.is_identity.Goals as goal

pub returns-then-o : goal.returns-then-o
unfolding is_identity of_bits
returns-then-o c = rw c.if-o.true

pub returns-else-o : goal.returns-else-o
unfolding is_identity of_bits
returns-else-o c = rw c.if-o.false
