-- `cases::text::numbers::hex_digits` meets its contract: each turn reads one digit more. Assumes nothing.
use Rattle.std.proofs.Common.{◌≡◌, ◌+◌, ◌-◌, length, drop}
use Rattle.cases.specs.Numbers.{hexes}
use Rattle.cases.proofs.text.numbers.hex_digits.Given as goal

abbrev pub invariant-loop-b : goal.invariant-loop-b
invariant-loop-b l = hexes (length l.digits - l.b-index) l.value (l.at + l.b-index) (drop l.b-index l.digits) ≡ hexes (length l.digits) 0 l.at l.digits
