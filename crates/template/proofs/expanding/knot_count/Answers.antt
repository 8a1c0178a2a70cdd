-- `template::expanding::knot_count` meets its contract. Assumes nothing.
use Rattle.template.proofs.expanding.knot_count.Goals as goal

pub returns-then-offset : goal.returns-then-offset
returns-then-offset c = rw c.if-offset.true
