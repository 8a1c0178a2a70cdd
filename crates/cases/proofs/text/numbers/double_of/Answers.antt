-- `cases::text::numbers::double_of` meets its contract: beyond the pattern of the infinity every pattern is the NaN's. Assumes nothing.
use Rattle.std.proofs.Common.{◌≡◌, Bool, not, T, sym, refl, ◌∙◌, subst, le-ltb, lt-ltb}
use lib.Ieee.{nan, binary64, of_bits}
use lib.Ieee.Bits.{nan_bits_is, nan_bits_above}
use Rattle.gf.proofs.Tests.{nan-only}
use Rattle.cases.proofs.text.numbers.double_of.Goals as goal

quiet : of_bits binary64 9221120237041090560 ≡ nan
unfolding of_bits
quiet = refl

pub returns-then-bits-gt9218868437227405312 : goal.returns-then-bits-gt9218868437227405312
returns-then-bits-gt9218868437227405312 c =
    let b = c.args.bits in
    quiet ∙ sym (nan-only (of_bits binary64 b) (sym (nan_bits_is binary64 b) ∙ nan_bits_above binary64 b ∙ lt-ltb _ _ c.if-bits-gt9218868437227405312.true))

pub float_from_bits-result : goal.float_from_bits-result
float_from_bits-result c =
    subst (λ (k : Bool). T (not k)) (sym (nan_bits_above binary64 c.args.bits ∙ le-ltb _ _ c.if-bits-gt9218868437227405312.false)) tt
