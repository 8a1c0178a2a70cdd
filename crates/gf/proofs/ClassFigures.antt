-- Figures of `class_of` and `is_clip_number`, at the patterns of doubles where one class ends and the next begins. Assumes nothing.
use Rattle.std.proofs.Common.{◌≡◌, ℕ, true, false, refl}
use lib.Ieee.{binary64, of_bits, le}
use Rattle.gf.specs.declared.class.Class.{Class}
use Rattle.gf.specs.declared.class.Class.TheVariants.{Zero, Fraction, Whole, NotFinite}
use Rattle.gf.specs.Doubles.{is_whole, truncated, is_clip_number, class_of}

abbrev at : ℕ → Class
at b = class_of (of_bits binary64 b)

-- 0.0, -0.0, the smallest subnormal, the double below 1.0, 1.0, -1.5, 2^52 - 0.5, 2^52, the greatest double, an infinity, a NaN
classes : (at 0 ≡ Zero)
    × (at 0x8000_0000_0000_0000 ≡ Zero)
    × (at 1 ≡ Fraction)
    × (at 0x3fef_ffff_ffff_ffff ≡ Fraction)
    × (at 0x3ff0_0000_0000_0000 ≡ Whole)
    × (at 0xbff8_0000_0000_0000 ≡ Fraction)
    × (at 0x432f_ffff_ffff_ffff ≡ Fraction)
    × (at 0x4330_0000_0000_0000 ≡ Whole)
    × (at 0x7fef_ffff_ffff_ffff ≡ Whole)
    × (at 0xfff0_0000_0000_0000 ≡ NotFinite)
    × (at 0x7ff8_0000_0000_0000 ≡ NotFinite)
unfolding class_of is_whole of_bits
classes = (refl, refl, refl, refl, refl, refl, refl, refl, refl, refl, refl)

-- of three clips: -0.0 and 2.0 are numbers; 3.0, 1.5, -1.0 and an infinity are not
numbers : (is_clip_number 3 (of_bits binary64 0x8000_0000_0000_0000) ≡ true)
    × (is_clip_number 3 (of_bits binary64 0x4000_0000_0000_0000) ≡ true)
    × (is_clip_number 3 (of_bits binary64 0x4008_0000_0000_0000) ≡ false)
    × (is_clip_number 3 (of_bits binary64 0x3ff8_0000_0000_0000) ≡ false)
    × (is_clip_number 3 (of_bits binary64 0xbff0_0000_0000_0000) ≡ false)
    × (is_clip_number 3 (of_bits binary64 0x7ff0_0000_0000_0000) ≡ false)
unfolding is_clip_number is_whole truncated of_bits le
numbers = (refl, refl, refl, refl, refl, refl)
