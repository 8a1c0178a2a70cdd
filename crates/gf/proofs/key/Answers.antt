-- `gf::key` meets its contract: each arm is a clause of `Key.key`. Assumes nothing.
use Rattle.std.proofs.Common.{T, sym, subst, arith}
use lib.Ieee.{binary64, fits}
use Rattle.gf.proofs.KeyLaws.{bits-lt, key-clear, key_set}
use Rattle.gf.proofs.key.Goals.{Start as At-start}
use Rattle.gf.proofs.key.Goals as goal

-- what owning an `f64` tells: the format holds it
held : (c : At-start) → T (fits binary64 c.args.x)
held c = subst T (sym c.well_formed.0.1) tt

pub overflow_sub-result-else-b-lt9223372036854775808 : goal.overflow_sub-result-else-b-lt9223372036854775808
overflow_sub-result-else-b-lt9223372036854775808 c = omega (arith, bits-lt c.args.x (held c.before))

pub returns-then-b-lt9223372036854775808 : goal.returns-then-b-lt9223372036854775808
returns-then-b-lt9223372036854775808 c = key-clear c.args.x c.if-b-lt9223372036854775808.true

pub returns-else-b-lt9223372036854775808 : goal.returns-else-b-lt9223372036854775808
returns-else-b-lt9223372036854775808 c = key_set c.args.x (held c.before) c.if-b-lt9223372036854775808.false
