-- `set_order::check_order` meets its contract: each return settles the three tests. Assumes nothing.
use mathlib.Core.Path.{sym, ◌∙◌}
use borrow.Author.Tests.{lt-ltb, le-ltb}
use Rattle.dispatch.specs.SetOrder.{list_faulty}
use Rattle.set_order.proofs.check_order.Goals.{then-ends-gt-LISTED-via-then-ends-gt-LISTED, then-ends-gt-LISTED-via-else-ends-gt-LISTED+then-not-ends_close, then-ends-gt-LISTED-via-else-ends-gt-LISTED+else-not-ends_close+then-any_too_long}
use Rattle.set_order.proofs.check_order.Goals as goal

pub returns-then-ends-gt-LISTED : goal.returns-then-ends-gt-LISTED
unfolding list_faulty
returns-then-ends-gt-LISTED c = elim c.then-ends-gt-LISTED.branch [
  | then-ends-gt-LISTED-via-then-ends-gt-LISTED w ↦ simp (lt-ltb _ _ w.if-ends-gt-LISTED.true)
  | then-ends-gt-LISTED-via-else-ends-gt-LISTED+then-not-ends_close w ↦ simp (le-ltb _ _ w.if-ends-gt-LISTED.false, sym w.ends_close.ensures ∙ w.if-not-ends_close.true)
  | then-ends-gt-LISTED-via-else-ends-gt-LISTED+else-not-ends_close+then-any_too_long w ↦ simp (le-ltb _ _ w.if-ends-gt-LISTED.false, sym w.ends_close.ensures ∙ w.if-not-ends_close.false, sym w.any_too_long.ensures ∙ w.if-any_too_long.true)
]

pub returns : goal.returns
unfolding list_faulty
returns c = simp (le-ltb _ _ c.if-ends-gt-LISTED.false, sym c.ends_close.ensures ∙ c.if-not-ends_close.false, sym c.any_too_long.ensures ∙ c.if-any_too_long.false)
