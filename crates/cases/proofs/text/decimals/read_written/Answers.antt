-- `cases::text::decimals::read_written` meets its contract: a decimal's number is below ten to the number of its digits. Assumes nothing.
use Rattle.std.proofs.Common.{sym}
use Rattle.cases.proofs.Rounded.{digits-below}
use Rattle.cases.proofs.text.decimals.read_written.Goals as goal

pub value_of-requires : goal.value_of-requires
value_of-requires c = digits-below c.args.line.now c.if-negative.first c.in_ok-decimal_at.field-0 (sym c.in_ok-decimal_at.ensures)
