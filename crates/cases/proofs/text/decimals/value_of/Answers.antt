-- `cases::text::decimals::value_of` meets its contract. Assumes nothing.
use Rattle.std.proofs.Common.{◌+◌, ◌≤◌, arith}
use Rattle.cases.proofs.Rounded.{fifteen, valued-is}
use Rattle.cases.proofs.text.decimals.value_of.Goals as goal

pub quotient-requires-clause-fact_1 : goal.quotient-requires-clause-fact_1
quotient-requires-clause-fact_1 c =
    let l : c.args.d.whole + c.args.d.scale ≤ 15 = omega (arith, c.if-d.false, c.if-d-gt15.false) in
    fifteen _ _ c.requires l

pub returns : goal.returns
returns c =
    let l : c.args.d.whole + c.args.d.scale ≤ 15 = omega (arith, c.if-d.false, c.if-d-gt15.false) in
    rw c.signed.ensures (valued-is c.args.line.now c.args.negative c.args.d c.in_ok-closed.field-0 c.quotient.result c.if-d-eq0.false l c.in_ok-closed.ensures c.quotient.ensures)
