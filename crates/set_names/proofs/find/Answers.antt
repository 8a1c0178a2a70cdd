-- `set_names::find` meets its contract: the names before the i-th are others. Assumes nothing.
use Rattle.std.proofs.Common.{◌≡◌, sym, ◌∙◌, ap, ℕ, List, arith}
use Rattle.dispatch.specs.SetOrder.{same_name}
use Rattle.set_names.specs.Pages.{name_in}
use Rattle.set_names.proofs.Search.{unsearched, found_here, not-here, nowhere}
use Rattle.set_names.proofs.find.Goals.{After-is_same}
use Rattle.set_names.proofs.find.Goals as goal

compared : (c : After-is_same) → c.is_same.result ≡ same_name (name_in c.args.bytes.now c.loop-i.i) c.args.name.now
compared c = c.is_same.ensures ∙ ap (λ (l : List ℕ). same_name l c.args.name.now) c.name_at.ensures

pub loop-i-init : goal.loop-i-init
loop-i-init c = unsearched _ _ _

pub returns-then-is_same : goal.returns-then-is_same
returns-then-is_same c = found_here _ _ _ c.loop-i.i (omega arith) c.loop-i.invariant (sym c.if-is_same.true ∙ compared (goal.at.returns-then-is_same c).After-is_same)

pub loop-i-preserved : goal.loop-i-preserved
loop-i-preserved c = not-here _ _ _ c.loop-i.i (omega arith) c.loop-i.invariant (sym c.if-is_same.false ∙ compared (goal.at.loop-i-preserved c).After-is_same)

pub returns : goal.returns
returns c = nowhere _ _ _ _ (omega arith) c.loop-i.invariant
