-- `gf::of_key` meets its contract: each arm hands `from_bits` the pattern `bits_key k`, which is no NaN's. Assumes nothing.
use Rattle.std.proofs.Common.{ℕ, not, T, sym, ap, ◌∙◌, subst}
use lib.Ieee.{binary64, nan_bits, of_bits}
use Rattle.gf.proofs.KeyLaws.{bits-key-below, bits-key-above, bits-key-no-nan, of_key-is}
use Rattle.gf.proofs.of_key.Goals as goal

pub float_from_bits-result : goal.float_from_bits-result
float_from_bits-result c =
    let k = c.args.k in
    subst (λ (b : ℕ). T (not (nan_bits binary64 b))) (sym (bits-key-below k c.if-k-lt9223372036854775808.true)) (bits-key-no-nan k c.requires.0 c.requires.1)

pub float_from_bits-result-else-k-lt9223372036854775808 : goal.float_from_bits-result-else-k-lt9223372036854775808
float_from_bits-result-else-k-lt9223372036854775808 c =
    let k = c.args.k in
    subst (λ (b : ℕ). T (not (nan_bits binary64 b))) (sym (bits-key-above k c.if-k-lt9223372036854775808.false)) (bits-key-no-nan k c.requires.0 c.requires.1)

pub returns-then-k-lt9223372036854775808 : goal.returns-then-k-lt9223372036854775808
returns-then-k-lt9223372036854775808 c = ap (of_bits binary64) (bits-key-below c.args.k c.if-k-lt9223372036854775808.true) ∙ of_key-is c.args.k

pub returns-else-k-lt9223372036854775808 : goal.returns-else-k-lt9223372036854775808
returns-else-k-lt9223372036854775808 c = ap (of_bits binary64) (bits-key-above c.args.k c.if-k-lt9223372036854775808.false) ∙ of_key-is c.args.k
