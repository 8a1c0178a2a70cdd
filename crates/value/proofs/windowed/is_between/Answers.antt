-- `value::windowed::is_between` meets its contract. Assumes nothing.
use native.Mathlib.Omega.{arith}
use Rattle.std.proofs.lemmas.Bool.Decides.{nat_tests}
use Rattle.value.specs.ClipTimes.{is_between}
use Rattle.value.proofs.windowed.is_between.Goals as goal

pub returns-then-xs-knot : goal.returns-then-xs-knot
unfolding is_between
returns-then-xs-knot c = grind (arith, nat_tests)

pub returns-else-xs-knot : goal.returns-else-xs-knot
unfolding is_between
returns-else-xs-knot c = grind (arith, nat_tests)
