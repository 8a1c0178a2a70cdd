-- `names::magnitude::whole` meets its contract: a shift of 64 or more leaves nothing. Assumes nothing.
use native.Mathlib.Omega.{arith}
use mathlib.Core.Path.{sym}
use native.Mathlib.Nat.{div-eq_of_lt}
use lib.Pow.{pow_mono}
use Rattle.names.proofs.magnitude.whole.Goals as goal

pub returns-then-m-gt63 : goal.returns-then-m-gt63
returns-then-m-gt63 c = sym (div-eq_of_lt (omega (arith, pow_mono c.if-m-gt63.true)))
