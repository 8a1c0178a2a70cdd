-- `sorts::sortable` meets its contract. Assumes nothing.
use borrow.Author.Tests.{eq-eqb, ne_eqb}
use Rattle.sorts.specs.Sortable.{sortable}
use Rattle.sorts.proofs.sortable.Goals as goal

pub returns-then-n-m : goal.returns-then-n-m
unfolding sortable
returns-then-n-m c = simp (eq-eqb _ _ c.if-n-m.true)

pub returns-else-n-m : goal.returns-else-n-m
unfolding sortable
returns-else-n-m c = simp (ne_eqb _ _ c.if-n-m.false)
