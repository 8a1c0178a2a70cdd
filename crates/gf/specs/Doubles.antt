-- docs/VALUE-CLIPS.md, "Doubles": arithmetic, and what is asked of a double. All times and values are doubles.
-- Numeric order and equality are `le`, `lt` and `eq` of `lib.Ieee`: "-0.0 and 0.0 are one time" for them, and no test holds of a NaN.
-- Assumes nothing.
use Rattle.std.specs.Prelude.{◌≡◌, ℕ, ◌+◌, ◌-◌, ◌*◌, ◌/◌, ◌%◌, Bool, true, false, cond, not, ◌&&◌, ◌||◌, T, pos, negsuc, ◌==◌, from_bits, is_nan, nat_lt, to_bits, Float}
use Rattle.std.specs.Float.{nan, inf, fin, binary64}
use Rattle.std.specs.Float.Ieee.{up, down, add, sub, mul, div, lt, le, eq, fits}
use Rattle.gf.specs.TotalOrder.{exponent_of, fraction_of, before, key_of}
use Rattle.gf.specs.declared.pattern.Fields.{Fields}
use Rattle.gf.specs.declared.class.Class.{Class}
use Rattle.gf.specs.declared.class.Class.TheVariants.{Zero, Fraction, Whole, NotFinite}

-- ---- arithmetic: "each operation rounded"

infixl 6 ◌⊕◌
infixl 6 ◌⊖◌
infixl 7 ◌⊗◌
infixl 7 ◌⊘◌
abbrev pub ◌⊕◌ : Float → Float → Float
◌⊕◌ a b = add binary64 a b

abbrev pub ◌⊖◌ : Float → Float → Float
◌⊖◌ a b = sub binary64 a b

abbrev pub ◌⊗◌ : Float → Float → Float
◌⊗◌ a b = mul binary64 a b

abbrev pub ◌⊘◌ : Float → Float → Float
◌⊘◌ a b = div binary64 a b

abbrev pub 0·0 : Float
0·0 = fin false 0 (pos 0)

abbrev pub 0·5 : Float
0·5 = fin false 1 (negsuc 0)

abbrev pub 1·0 : Float
1·0 = fin false 1 (pos 0)

abbrev pub 10000·0 : Float
10000·0 = fin false 625 (pos 4)

unfoldable pub abs : Float → Float
abs nan = nan
abs (inf s) = inf false
abs (fin s m e) = fin false m e

-- ---- in a segment

-- where t lies in the segment from x0 to x1, as a number from 0 to 1
unfoldable pub share : Float → Float → Float → Float
share x0 x1 t = div binary64 (sub binary64 t x0) (sub binary64 x1 x0)

unfoldable pub lerp : Float → Float → Float → Float → Float → Float
unfolding share
lerp x0 x1 y0 y1 t = add binary64 y0 (mul binary64 (sub binary64 y1 y0) (share x0 x1 t))

-- sa + (c − ca)/(cb − ca)·(sb − sa)
abbrev pub inverse_of : Float → Float → Float → Float → Float → Float
inverse_of sa sb ca cb c = sa ⊕ (c ⊖ ca) ⊘ (cb ⊖ ca) ⊗ (sb ⊖ sa)

-- c lies between ca and cb, whichever is greater, "with ca ≠ cb"
abbrev pub spans_of : Float → Float → Float → Bool
spans_of ca cb c = (lt ca cb && le ca c && le c cb) || (lt cb ca && le cb c && le c ca)

-- ---- finite, magnitude, whole

-- ± 2 ^ k
abbrev pub power : Bool → ℕ → Float
power s k = fin s 1 (pos k)

unfoldable pub within : ℕ → Float → Bool
within k x = le (power true k) x && le x (power false k)

-- "magnitude at most 2^40 for every stored time": finite, and from -2^40 to 2^40, both included
abbrev pub storable : Float → Bool
storable x = within 40 x

-- A finite double with no fraction: the number m * 2 ^ e is m * up e / down e. (The code tells it "by the range of the exponent field".)
unfoldable pub is_whole : Float → Bool
is_whole nan = false
is_whole (inf s) = false
is_whole (fin s m e) = m * up e % down e == 0

-- the magnitude cut to a whole number, toward zero
unfoldable pub truncated : Float → ℕ
truncated nan = 0
truncated (inf s) = 0
truncated (fin s m e) = m * up e / down e

-- a clip number that serves: whole, so finite, not negative (-0.0 is not), and below the clip count
unfoldable pub is_clip_number : ℕ → Float → Bool
is_clip_number clips number = is_whole number && le 0·0 number && nat_lt (truncated number) clips

-- the sign bit: set also in -0.0
unfoldable pub sign_bit : Float → Bool
sign_bit nan = false
sign_bit (inf s) = s
sign_bit (fin s m e) = s

-- ---- "exponent and fraction", and the class that they decide

abbrev pub fields_of : Float → Fields
fields_of x = let b = to_bits binary64 x in record { exponent = exponent_of b; fraction = fraction_of b }

-- zero, fraction, whole number or not finite, from what each of them means
unfoldable pub class_of : Float → Class
class_of nan = NotFinite
class_of (inf s) = NotFinite
class_of (fin s m e) = cond (m == 0) Zero (cond (is_whole (fin s m e)) Whole Fraction)

-- ---- two orders, for two purposes

-- The order of `total_cmp`, which "places -0.0 before 0.0", as a number: by it the lists of a set are sorted. It is the key of the pattern.
unfoldable pub total_key : Float → ℕ
total_key x = key_of (to_bits binary64 x)

-- on doubles that are no NaN it is the numeric order, and of the two zeros, which are equal there, that with the sign set comes first
abbrev pub OrderOfNumbers : Type 0
OrderOfNumbers =
    (x y : Float) → T (fits binary64 x) → T (fits binary64 y) → T (not (is_nan x)) → T (not (is_nan y))
    → before (to_bits binary64 x) (to_bits binary64 y) ≡ (lt x y || (eq x y && sign_bit x && not (sign_bit y)))

-- The second order is numeric: one place for both zeros ("zero is one double among the neighbours"), and `of_key` of that place is 0.0. The key is 2 ^ 63 with the
-- pattern of the size added, or taken off where the sign is set; each key from `least` to `most` is one finite double's, or both zeros'.

-- of a bit pattern
abbrev pub key_bits : ℕ → ℕ
key_bits b = cond (nat_lt b 0x8000_0000_0000_0000) (0x8000_0000_0000_0000 + b) (0x8000_0000_0000_0000 - b % 0x8000_0000_0000_0000)

unfoldable pub key : Float → ℕ
key x = key_bits (to_bits binary64 x)

-- the keys of the least and the greatest finite double
abbrev pub least : ℕ
least = 0x8000_0000_0000_0000 - 0x7fef_ffff_ffff_ffff

abbrev pub most : ℕ
most = 0x8000_0000_0000_0000 + 0x7fef_ffff_ffff_ffff

-- the double of a key: of the two zeros it is 0.0

abbrev pub bits_key : ℕ → ℕ
bits_key k = cond (nat_lt k 0x8000_0000_0000_0000) (0x1_0000_0000_0000_0000 - k) (k - 0x8000_0000_0000_0000)

unfoldable pub of_key : ℕ → Float
of_key k = from_bits binary64 (bits_key k)
