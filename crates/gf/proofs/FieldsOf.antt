-- The fields of a double: how the code cuts them out of the bits, and what they say of the bits. Assumes nothing.
use Rattle.std.proofs.Common.{◌≡◌, ℕ, ◌+◌, ◌*◌, ◌/◌, ◌%◌, ◌^◌, ◌<◌, sym, ap, ◌∙◌, arith}
use lib.Bits.{bit_and, and_mask}
use lib.Pow.{field}
use lib.Ieee.{Float, binary64, hid, top, to_bits}
use Rattle.gf.specs.declared.pattern.Fields.{Fields}
use Rattle.gf.specs.Doubles.{fields_of}

-- ---- by shift and mask

pub exponent-cut : (b : ℕ) → bit_and (b / 2 ^ 52) 0x7ff ≡ b % top binary64 / hid binary64
exponent-cut b = and_mask (b / 2 ^ 52) 11 ∙ sym (field b 11 52)

pub fraction-cut : (b : ℕ) → bit_and b 0xf_ffff_ffff_ffff ≡ b % hid binary64
fraction-cut b = and_mask b 52

-- ---- the fields of `x`

module _ (x : Float) (f : Fields) (h : f ≡ fields_of x) where
  exponent-is : f.exponent ≡ to_bits binary64 x % 0x8000_0000_0000_0000 / 0x10_0000_0000_0000
  exponent-is = ap (λ (g : Fields). g.exponent) h

  fraction-is : f.fraction ≡ to_bits binary64 x % 0x10_0000_0000_0000
  fraction-is = ap (λ (g : Fields). g.fraction) h

  pub few-digits : (f.exponent < 0x800) × (f.fraction < 0x10_0000_0000_0000)
  few-digits = (omega (arith, exponent-is), omega (arith, fraction-is))

  -- exponent and fraction together: the bits without the sign
  pub rank_is : f.exponent * 0x10_0000_0000_0000 + f.fraction ≡ to_bits binary64 x % 0x8000_0000_0000_0000
  rank_is = omega (arith, exponent-is, fraction-is)
