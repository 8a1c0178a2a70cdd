-- `clip::storing::is_nan_default` meets its contract. Assumes nothing.
use borrow.Author.Tests.{eq-eqb, ne_eqb}
use Rattle.definitions.specs.ClipSet.{nan_default}
use Rattle.clip.proofs.storing.is_nan_default.Goals as goal

pub returns-then-default-eq0 : goal.returns-then-default-eq0
unfolding nan_default
returns-then-default-eq0 c = rw (eq-eqb _ _ c.if-default-eq0.true) c.is_nan.ensures.value

pub returns-else-default-eq0 : goal.returns-else-default-eq0
unfolding nan_default
returns-else-default-eq0 c = rw (ne_eqb _ _ c.if-default-eq0.false)
