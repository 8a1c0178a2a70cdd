-- `cases::text::words::scan` meets its contract: what is passed is none that it stops at. Assumes nothing.
use Rattle.std.proofs.Common.{◌≡◌, ◌+◌, drop}
use Rattle.cases.specs.Text.{passed}
use Rattle.cases.proofs.text.words.scan.Given as goal

abbrev pub invariant-loop-n : goal.invariant-loop-n
invariant-loop-n l = passed l.stop (drop l.n l.text) + l.n ≡ passed l.stop l.text
