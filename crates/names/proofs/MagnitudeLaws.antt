-- The size of a storable double, from the fields of its pattern: digits / 2 ^ shift. Assumes nothing.
use Prim.Native.Nat.{ℕ, zero, suc, ◌+◌, ◌-◌, ◌*◌, ◌/◌, ◌%◌, ◌^◌, ◌≤◌, ◌<◌}
use mathlib.Core.Path.{◌≡◌, refl, sym, ap, ◌∙◌, subst}
use mathlib.Core.Bool.{Bool, true, false, cond}
use native.Mathlib.Nat.{le_trans, le_of_eq, lt_irrefl, lt_of_lt_of_le, lt_of_not-le, le_of_suc-le-suc, mul_assoc, mul_right_comm, mul-le-mul_right, le_of_mul-le-mul_right, eq_of_mul-eq-mul_right}
use native.Mathlib.Omega.{arith}
use lib.Dec.{T, leb, eqb}
use lib.Pow.{pow-add, pow_pos, pow-lt}
use lib.Ieee.{Float, nan, inf, fin, Format, binary64, prec, low, hid, ones, odd, of_fields, of_bits, to_bits, fits}
use lib.Ieee.Digits.{back}
use lib.Ieee.Exact.{HasValue, odd_sign}
use lib.Ieee.Scale.{finite}
use lib.Ieee.Positive.{num, den, den_pos}
use lib.Ieee.Bits.{of_bits-to_bits}
use Rattle.gf.specs.Doubles.{storable, sign_bit, power}
use Rattle.gf.proofs.Fraction.{over, under, le→cross}
use Rattle.gf.proofs.Exactly.{within-lo, within-hi, within-finite}
use Rattle.names.specs.Magnitude.{Measures}

-- ---- a storable double is at most 2 ^ 40 in size

sized : (x : Float) (k : ℕ) → T (finite x) → under x ≤ over x + k * den x → over x ≤ k * den x + under x → num x ≤ k * den x
sized nan k p h g = absurd p
sized (inf s) k p h g = absurd p
sized (fin true m e) k p h g = omega arith
sized (fin false m e) k p h g = omega arith

pub storable-size : (x : Float) → T (storable x) → num x ≤ 2 ^ 40 * den x
storable-size x h =
    let p = within-finite 40 x h in
    let lo = le→cross (power true 40) x tt p (within-lo 40 x h) in
    let hi = le→cross x (power false 40) p tt (within-hi 40 x h) in
    sized x (2 ^ 40) p (omega arith) (omega arith)

-- ---- what a value's sign and fraction say of `sign_bit`, `num` and `den`

value-sign : (x : Float) (s : Bool) (a c : ℕ) → HasValue x s a c → s ≡ sign_bit x
unfolding sign_bit
value-sign nan s a c h = absurd h
value-sign (inf t) s a c h = absurd h
value-sign (fin t m e) s a c h = sym h.0

value-size : (x : Float) (s : Bool) (a c : ℕ) → HasValue x s a c → num x * c ≡ a * den x
value-size nan s a c h = absurd h
value-size (inf t) s a c h = absurd h
value-size (fin t m e) s a c h = h.1

-- ---- the fields of a finite double

module _ (f : Format) (s : Bool) (t : ℕ) where
  fields-zero : HasValue (of_fields f s zero t) s (t * 2 ^ 0) (2 ^ low f)
  unfolding of_fields
  fields-zero = odd_sign (prec f) s t 0 (low f)

  fields-suc : (k : ℕ) → T (finite (of_fields f s (suc k) t)) → HasValue (of_fields f s (suc k) t) s ((hid f + t) * 2 ^ k) (2 ^ low f)
  unfolding of_fields
  fields-suc k p = go (eqb (suc k) (ones f)) (eqb t 0) p
    where
      go : (a b : Bool) → T (finite (cond a (cond b (inf s) nan) (odd (prec f) s (hid f + t) k (low f))))
          → HasValue (cond a (cond b (inf s) nan) (odd (prec f) s (hid f + t) k (low f))) s ((hid f + t) * 2 ^ k) (2 ^ low f)
      go true true p = absurd p
      go true false p = absurd p
      go false b p = odd_sign (prec f) s (hid f + t) k (low f)

-- ---- powers of two taken off both sides

pow_le_back : (a l : ℕ) → 2 ^ a ≤ 2 ^ l → a ≤ l
pow_le_back a l h = le_of_suc-le-suc (lt_of_not-le (λ (g : suc l ≤ a). lt_irrefl (2 ^ l) (lt_of_lt_of_le (pow-lt g) h)))

module _ (a d q k l : ℕ) (e : a * 2 ^ l ≡ q * 2 ^ k * d) where
  lowered : k ≤ l → a * 2 ^ (l - k) ≡ q * d
  lowered h =
      eq_of_mul-eq-mul_right (2 ^ k) (pow_pos k) (a * 2 ^ (l - k)) (q * d)
      (mul_assoc a (2 ^ (l - k)) (2 ^ k) ∙ ap (λ (n : ℕ). a * n) (sym (pow-add 2 (l - k) k) ∙ ap (λ (n : ℕ). 2 ^ n) (back l k h)) ∙ e ∙ mul_right_comm q (2 ^ k) d)

  -- a size of 2 ^ p at most, with 2 ^ h digits at least
  bounded : (h p : ℕ) → 0 < d → a ≤ 2 ^ p * d → 2 ^ h ≤ q → h + k ≤ p + l
  bounded h p D small many =
      pow_le_back (h + k) (p + l)
      (le_of_mul-le-mul_right
      (le_trans (le_of_eq (ap (λ (n : ℕ). n * d) (pow-add 2 h k)))
      (le_trans (mul-le-mul_right d (mul-le-mul_right (2 ^ k) many))
      (le_trans (le_of_eq (sym e))
      (le_trans (mul-le-mul_right (2 ^ l) small) (le_of_eq (mul_right_comm (2 ^ p) d (2 ^ l) ∙ ap (λ (n : ℕ). n * d) (sym (pow-add 2 p l))))))))
      D)

-- ---- the two answers, from the fields

digits_lt : (b : ℕ) → b % 4503599627370496 < 4503599627370496
digits_lt b = omega arith

zero-measured : (x : Float) (s : Bool) (t : ℕ) → of_fields binary64 s 0 t ≡ x → t < 4503599627370496 → Measures x (record { negative = s; digits = t; shift = 1074 })
zero-measured x s t e few =
    let v : HasValue x s (t * 2 ^ 0) (2 ^ low binary64) = subst (λ (y : Float). HasValue y s (t * 2 ^ 0) (2 ^ low binary64)) e (fields-zero binary64 s t) in
    record {
      sign = value-sign x s (t * 2 ^ 0) (2 ^ low binary64) v;
      few = omega arith;
      shifted = omega arith;
      size = lowered (num x) (den x) t 0 (low binary64) (value-size x s (t * 2 ^ 0) (2 ^ low binary64) v) (omega arith);
    }

-- a field above 0 is one of at most 1063
field-measured : (x : Float) (s : Bool) (k t : ℕ) → of_fields binary64 s (suc k) t ≡ x → T (storable x) → t < 4503599627370496
    → (suc k ≤ 1063) × Measures x (record { negative = s; digits = 4503599627370496 + t; shift = 1075 - suc k })
field-measured x s k t e small few =
    let q = 4503599627370496 + t in
    let p : T (finite (of_fields binary64 s (suc k) t)) = rw e (within-finite 40 x small) in
    let v : HasValue x s (q * 2 ^ k) (2 ^ low binary64) = subst (λ (y : Float). HasValue y s (q * 2 ^ k) (2 ^ low binary64)) e (fields-suc binary64 s t k p) in
    let z : num x * 2 ^ low binary64 ≡ q * 2 ^ k * den x = value-size x s (q * 2 ^ k) (2 ^ low binary64) v in
    let b : 52 + k ≤ 40 + 1074 = bounded (num x) (den x) q k (low binary64) z 52 40 (den_pos x) (storable-size x small) (omega arith) in
    let d : 1074 - k ≡ 1075 - suc k = omega arith in (
      omega arith,
      record {
        sign = value-sign x s (q * 2 ^ k) (2 ^ low binary64) v;
        few = omega arith;
        shifted = omega arith;
        size = subst (λ (n : ℕ). num x * 2 ^ n ≡ q * den x) d (lowered (num x) (den x) q k (low binary64) z (omega arith));
      },
    )

-- the exponent's field of the pattern b
abbrev field_of : ℕ → ℕ
field_of b = b % 0x8000_0000_0000_0000 / 4503599627370496

abbrev bits : Float → ℕ
bits x = to_bits binary64 x

module _ (x : Float) (fine : T (fits binary64 x)) (small : T (storable x)) where
  fields : of_fields binary64 (leb 0x8000_0000_0000_0000 (bits x)) (field_of (bits x)) (bits x % 4503599627370496) ≡ x
  fields = unfold of_bits in of_bits-to_bits binary64 x fine

  pub measured-tiny : field_of (bits x) ≡ 0 → Measures x (record { negative = leb 0x8000_0000_0000_0000 (bits x); digits = bits x % 4503599627370496; shift = 1074 })
  measured-tiny z =
      zero-measured x _ _ (ap (λ (n : ℕ). of_fields binary64 (leb 0x8000_0000_0000_0000 (bits x)) n (bits x % 4503599627370496)) (sym z) ∙ fields) (digits_lt (bits x))

  pub measured : (field_of (bits x) ≡ 0 → ⊥)
      → (field_of (bits x) ≤ 1063)
      × Measures x (record { negative = leb 0x8000_0000_0000_0000 (bits x); digits = 4503599627370496 + bits x % 4503599627370496; shift = 1075 - field_of (bits x) })
  measured z = go (field_of (bits x)) z fields
    where
      go : (n : ℕ) → (n ≡ 0 → ⊥) → of_fields binary64 (leb 0x8000_0000_0000_0000 (bits x)) n (bits x % 4503599627370496) ≡ x
          → (n ≤ 1063) × Measures x (record { negative = leb 0x8000_0000_0000_0000 (bits x); digits = 4503599627370496 + bits x % 4503599627370496; shift = 1075 - n })
      go zero z e = absurd (z refl)
      go (suc k) z e = field-measured x _ k _ e small (digits_lt (bits x))
