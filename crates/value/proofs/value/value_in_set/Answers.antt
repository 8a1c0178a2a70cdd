-- `value::value::value_in_set` meets its contract: the value of what was read. Assumes nothing.
use mathlib.Core.Path.{ap}
use Rattle.definitions.specs.declared.ValueRead.{ValueRead}
use Rattle.definitions.specs.Value.{value_read}
use Rattle.value.proofs.value.value_in_set.Goals as goal

pub returns : goal.returns
unfolding value_read
returns c = ap (λ (r : ValueRead). r.answer) c.value_read-read.ensures
