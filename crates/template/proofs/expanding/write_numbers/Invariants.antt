-- `template::expanding::write_numbers` meets its contract: the first i numbers are written. Assumes nothing.
use Rattle.std.proofs.Common.{◌≡◌, take}
use Rattle.template.specs.Expanding.{numbered}
use Rattle.template.proofs.expanding.write_numbers.Given as goal

abbrev pub invariant-loop-i : goal.invariant-loop-i
invariant-loop-i l = take l.i l.to ≡ take l.i (numbered 0 l.initial.to)
