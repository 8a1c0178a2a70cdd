-- `sdf::scans::any_nan` meets its contract: without a NaN none is under any mark. Assumes nothing.
use mathlib.Core.Path.{sym, ◌∙◌}
use Rattle.sdf.proofs.Scanned.{marked-any, no_nan}
use Rattle.sdf.proofs.scans.any_nan.Goals as goal

pub returns-then-any_not_a_number : goal.returns-then-any_not_a_number
returns-then-any_not_a_number c = c.any_nan_marked.ensures ∙ marked-any c.args.values.now c.args.marks.now

pub returns-else-any_not_a_number : goal.returns-else-any_not_a_number
returns-else-any_not_a_number c =
    let a = c.args in
    c.if-any_not_a_number.false ∙ no_nan a.values.now a.marks.now (sym c.any_not_a_number.ensures ∙ c.if-any_not_a_number.false)
