-- `stage::zero::with_zero` meets its contract. Assumes nothing.
use mathlib.Core.Path.{sym, ◌∙◌}
use lib.Ieee.{of_bits, neg}
use Rattle.stage.proofs.First.{zero-taken}
use Rattle.stage.proofs.zero.with_zero.Goals as goal

pub returns-then-is_minus : goal.returns-then-is_minus
unfolding of_bits neg
returns-then-is_minus c = rw (sym c.is_minus.ensures ∙ c.if-is_minus.true) (zero-taken _ _ c.in-Some.h c.in-Some.is c.if-h.true)
