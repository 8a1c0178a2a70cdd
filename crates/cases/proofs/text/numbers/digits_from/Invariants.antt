-- `cases::text::numbers::digits_from` meets its contract: each turn reads one digit more. Assumes nothing.
use Rattle.std.proofs.Common.{◌≡◌, ◌+◌, drop}
use Rattle.cases.specs.Numbers.{decimals}
use Rattle.cases.proofs.text.numbers.digits_from.Given as goal

abbrev pub invariant-loop-n : goal.invariant-loop-n
invariant-loop-n l = decimals l.value (l.at + l.n) (drop l.n l.line) ≡ decimals l.head l.at l.line
