-- `set_changes::check_name` meets its contract: 23 three times, or none. Assumes nothing.
use native.Mathlib.Omega.{arith}
use mathlib.Core.Path.{sym, ◌∙◌}
use Rattle.set_changes.proofs.NameTaken.{many, too_long-is, taken, free}
use Rattle.set_changes.proofs.check_name.Goals as goal

pub returns-then-n-ge-SETS : goal.returns-then-n-ge-SETS
returns-then-n-ge-SETS c = let a = c.args in many a.counts.now a.bytes.now a.name.now c.if-n-ge-SETS.true

pub returns-then-name-gt-NAME_BYTES : goal.returns-then-name-gt-NAME_BYTES
returns-then-name-gt-NAME_BYTES c = let a = c.args in too_long-is a.counts.now a.bytes.now a.name.now c.if-name-gt-NAME_BYTES.true

pub returns-then-is_some : goal.returns-then-is_some
returns-then-is_some c = let a = c.args in taken a.counts.now a.bytes.now a.name.now c.find.result (sym c.is_some.ensures ∙ c.if-is_some.true) c.find.ensures

pub returns : goal.returns
returns c =
    let a = c.args in
    free a.counts.now a.bytes.now a.name.now (omega (arith, c.if-n-ge-SETS.false)) (omega (arith, c.if-name-gt-NAME_BYTES.false)) c.find.result (sym c.is_some.ensures ∙ c.if-is_some.false) c.find.ensures
