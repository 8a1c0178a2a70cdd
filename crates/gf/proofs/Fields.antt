-- The class of a value by the fields of its pattern, one law for each range of the exponent field, in any format.
-- The value is a fraction of two numbers, and whether it is whole turns on the remainder alone. Assumes nothing.
use Rattle.std.proofs.Common.{◌≡◌, ℕ, zero, suc, ◌+◌, ◌-◌, ◌*◌, ◌/◌, ◌%◌, ◌^◌, ◌<◌, ◌≤◌, Bool, true, false, cond, T, eqb, leb, sym, refl, ap, ◌∙◌, subst, lt_of_lt_of_le, le_of_suc-le-suc, le-add_right, lt_irrefl, mod-lt, mod-eq_of_lt, zero-lt-suc, mul_assoc, mul-pos, div-add-mod', zero-mul, mul-one, mul_right_comm, arith, eqb→eq, pow_pos, pow_mono, pow-add, shl_lt, eq-eqb, ne_eqb}
use native.Mathlib.Nat.{eq_of_mul-eq-mul_right, mul-add-mod_self_left, mul-mod_left, pow-succ'}
use lib.Dec.{eqb-suc-zero}
use lib.Ieee.{Float, nan, inf, fin, Format, prec, emax, low, hid, ones, top, up, down, odd, of_fields, of_bits, to_bits, fits}
use lib.Ieee.Digits.{Equals, odd_val, back}
use lib.Ieee.Fits.{two, reach, two-le_pos, down_pos, eq→eqb}
use lib.Ieee.Bits.{of_bits-to_bits}
use Rattle.gf.specs.declared.class.Class.{Class}
use Rattle.gf.specs.declared.class.Class.TheVariants.{Zero, Fraction, Whole, NotFinite}
use Rattle.gf.specs.Doubles.{is_whole, class_of}
use Rattle.gf.proofs.KeyLaws.{same_test}

-- ---- equal fractions are whole together

divides : (a d b c : ℕ) → 0 < d → a * c ≡ b * d → a % d ≡ 0 → b % c ≡ 0
divides a d b c D h z =
    let q = a / d in
    let e : q * d ≡ a = sym (drop-zero (q * d) (a % d) z) ∙ div-add-mod' a d in
    let k : q * c * d ≡ b * d = mul_right_comm q c d ∙ ap (λ (x : ℕ). x * c) e ∙ h in
    ap (λ (x : ℕ). x % c) (sym (eq_of_mul-eq-mul_right d D (q * c) b k)) ∙ mul-mod_left q c
  where
    drop-zero : (x y : ℕ) → y ≡ 0 → x + y ≡ x
    drop-zero x y e = omega arith

whole-alike : (a d b c : ℕ) → 0 < d → 0 < c → a * c ≡ b * d → eqb (a % d) 0 ≡ eqb (b % c) 0
whole-alike a d b c D C h =
    same_test (eqb (a % d) 0) (eqb (b % c) 0)
    (λ t. eq→eqb (divides a d b c D h (eqb→eq (a % d) 0 t)))
    (λ t. eq→eqb (divides b c a d C (sym h) (eqb→eq (b % c) 0 t)))

-- ---- the class of a value that is a / c and not zero

abbrev pub whole_or : Bool → Class
whole_or b = cond b Whole Fraction

class-of : (x : Float) (a c : ℕ) → 0 < a → 0 < c → Equals x a c → class_of x ≡ whole_or (eqb (a % c) 0)
unfolding class_of is_whole
class-of nan a c A C h = absurd h
class-of (inf s) a c A C h = absurd h
class-of (fin s m e) a c A C h =
    rw (ne_eqb m 0 nonzero, whole-alike (m * up e) (down e) a c (down_pos e) C h)
  where
    nonzero : m ≡ 0 → ⊥
    nonzero z =
        lt_irrefl 0
        (subst (λ (n : ℕ). 0 < n) (sym h ∙ ap (λ (n : ℕ). n * up e * c) z ∙ ap (λ (n : ℕ). n * c) (zero-mul (up e)) ∙ zero-mul c) (mul-pos A (down_pos e)))

class-inf : (s : Bool) → class_of (inf s) ≡ NotFinite
unfolding class_of
class-inf s = refl

class-nan : class_of nan ≡ NotFinite
unfolding class_of
class-nan = refl

-- ---- numbers of a format

subnormal-room : (p e : ℕ) → 2 ≤ p → p ≤ suc e → p - 1 ≤ e + p - 2
subnormal-room p e a b = omega arith

below-room : (p e x : ℕ) → 2 ≤ p → suc x < e → p + x ≤ e + p - 2
below-room p e x a b = omega arith

point-in : (p e x : ℕ) → 2 ≤ p → e ≤ suc x → e + p - 2 - x ≤ p - 1
point-in p e x a b = omega arith

lead : (f : Format) (t : ℕ) → t < hid f → hid f + t < 2 ^ prec f
lead f t h = go (hid f) (2 ^ prec f) (ap (λ (x : ℕ). 2 ^ x) (sym (suc-pred (prec f) (two-le_pos (prec f) (two f)))) ∙ pow-succ' 2 (prec f - 1)) h
  where
    suc-pred : (p : ℕ) → 0 < p → suc (p - 1) ≡ p
    suc-pred p k = omega arith

    go : (h w : ℕ) → w ≡ 2 * h → t < h → h + t < w
    go h w e k = omega arith

-- ---- one law for each range of the exponent field

-- the field of the zeros and the subnormals
subnormal : (f : Format) (s : Bool) (t : ℕ) → t < hid f → class_of (of_fields f s 0 t) ≡ cond (eqb t 0) Zero Fraction
unfolding class_of of_fields odd
subnormal f s zero h = refl
subnormal f s (suc t) h =
    let l : suc t * 2 ^ 0 < 2 ^ low f =
    lt_of_lt_of_le (subst (λ (n : ℕ). n < hid f) (sym (mul-one (suc t))) h) (pow_mono (subnormal-room (prec f) (emax f) (two f) (reach f))) in
    class-of (odd (prec f) s (suc t) 0 (low f)) (suc t * 2 ^ 0) (2 ^ low f) (mul-pos (zero-lt-suc t) (pow_pos 0)) (pow_pos (low f)) (odd_val (prec f) s (suc t) 0 (low f))
    ∙ ap (λ (n : ℕ). whole_or (eqb n 0)) (mod-eq_of_lt l ∙ mul-one (suc t))
    ∙ rw (eqb-suc-zero t)

module _ (f : Format) (s : Bool) (t : ℕ) (d : t < hid f) where
  q-pos : 0 < hid f + t
  q-pos = lt_of_lt_of_le (pow_pos (prec f - 1)) (le-add_right (hid f) t)

  normal : (x : ℕ) → suc x < ones f → class_of (of_fields f s (suc x) t) ≡ whole_or (eqb ((hid f + t) * 2 ^ x % 2 ^ low f) 0)
  unfolding of_fields
  normal x h =
      rw (ne_eqb (suc x) (ones f) (less (suc x) (ones f) h))
      (class-of (odd (prec f) s (hid f + t) x (low f)) ((hid f + t) * 2 ^ x) (2 ^ low f) (mul-pos q-pos (pow_pos x)) (pow_pos (low f)) (odd_val (prec f) s (hid f + t) x (low f)))
    where
      less : (a b : ℕ) → a < b → a ≡ b → ⊥
      less a b l e = omega arith

  -- below 1
  below_one : (x : ℕ) → suc x < emax f → class_of (of_fields f s (suc x) t) ≡ Fraction
  below_one x h =
      let q = (hid f + t) * 2 ^ x in
      let l : q < 2 ^ low f = lt_of_lt_of_le (shl_lt (prec f) x (lead f t d)) (pow_mono (below-room (prec f) (emax f) x (two f) h)) in
      normal x (under_ones (emax f) x h)
      ∙ ap whole_or (ap (λ (n : ℕ). eqb n 0) (mod-eq_of_lt l) ∙ ne_eqb q 0 (positive q (mul-pos q-pos (pow_pos x))))
    where
      under_ones : (e x : ℕ) → suc x < e → suc x < 2 * e + 1
      under_ones e x h = omega arith

      positive : (q : ℕ) → 0 < q → q ≡ 0 → ⊥
      positive q h e = omega arith

  -- the digits below the point are the low ones
  with-point : (x : ℕ) → emax f ≤ suc x → x < low f → class_of (of_fields f s (suc x) t) ≡ whole_or (eqb (t % 2 ^ (low f - x)) 0)
  with-point x h l =
      let k = low f - x in
      let j = prec f - 1 - k in
      let q = hid f + t in
      let split : hid f ≡ 2 ^ k * 2 ^ j = ap (λ (n : ℕ). 2 ^ n) (sym (parts (prec f - 1) k (point-in (prec f) (emax f) x (two f) h))) ∙ pow-add 2 k j in
      let scaled : q * 2 ^ x * 2 ^ k ≡ q * 2 ^ low f =
      mul_assoc q (2 ^ x) (2 ^ k) ∙ ap (λ (n : ℕ). q * n) (sym (pow-add 2 x k) ∙ ap (λ (n : ℕ). 2 ^ n) (rest x (low f) l)) in
      normal x (under_ones (prec f) (emax f) x (two f) (reach f) l)
      ∙ ap whole_or
      (whole-alike (q * 2 ^ x) (2 ^ low f) q (2 ^ k) (pow_pos (low f)) (pow_pos k) scaled
      ∙ ap (λ (n : ℕ). eqb n 0) (ap (λ (n : ℕ). (n + t) % 2 ^ k) split ∙ mul-add-mod_self_left (2 ^ k) (2 ^ j) t))
    where
      parts : (p k : ℕ) → k ≤ p → k + (p - k) ≡ p
      parts p k h = omega arith

      rest : (x l : ℕ) → x < l → x + (l - x) ≡ l
      rest x l h = omega arith

      under_ones : (p e x : ℕ) → 2 ≤ p → p ≤ suc e → x < e + p - 2 → suc x < 2 * e + 1
      under_ones p e x a b h = omega arith

  -- no digits below the point
  without-point : (x : ℕ) → low f ≤ x → suc x < ones f → class_of (of_fields f s (suc x) t) ≡ Whole
  without-point x l h =
      let q = hid f + t in
      let even : q * 2 ^ x ≡ q * 2 ^ (x - low f) * 2 ^ low f =
      ap (λ (n : ℕ). q * 2 ^ n) (sym (back x (low f) l)) ∙ ap (λ (n : ℕ). q * n) (pow-add 2 (x - low f) (low f)) ∙ sym (mul_assoc q (2 ^ (x - low f)) (2 ^ low f)) in
      normal x h ∙ ap (λ (n : ℕ). whole_or (eqb n 0)) (ap (λ (n : ℕ). n % 2 ^ low f) even ∙ mul-mod_left (q * 2 ^ (x - low f)) (2 ^ low f))

-- the highest field
not_finite : (f : Format) (s : Bool) (t x : ℕ) → suc x ≡ ones f → class_of (of_fields f s (suc x) t) ≡ NotFinite
unfolding of_fields
not_finite f s t x e = rw (eq-eqb (suc x) (ones f) e) (go (eqb t 0))
  where
    go : (b : Bool) → class_of (cond b (inf s) nan) ≡ NotFinite
    go true = class-inf s
    go false = class-nan

-- ---- the class of a value, by the fields of its pattern

abbrev pub exponent_of : Format → Float → ℕ
exponent_of f x = to_bits f x % top f / hid f

abbrev pub digits_of : Format → Float → ℕ
digits_of f x = to_bits f x % hid f

module _ (f : Format) (x : Float) (p : T (fits f x)) where
  by-fields : (e : ℕ) → exponent_of f x ≡ e → class_of x ≡ class_of (of_fields f (leb (top f) (to_bits f x)) e (digits_of f x))
  unfolding of_bits
  by-fields e h = sym (ap class_of (of_bits-to_bits f x p)) ∙ ap (λ (n : ℕ). class_of (of_fields f (leb (top f) (to_bits f x)) n (digits_of f x))) h

  few : digits_of f x < hid f
  few = mod-lt (to_bits f x) (pow_pos (prec f - 1))

  pub class-subnormal : exponent_of f x ≡ 0 → class_of x ≡ cond (eqb (digits_of f x) 0) Zero Fraction
  class-subnormal h = by-fields 0 h ∙ subnormal f (leb (top f) (to_bits f x)) (digits_of f x) few

  pub class-below-one : (e : ℕ) → exponent_of f x ≡ e → 0 < e → e < emax f → class_of x ≡ Fraction
  class-below-one zero h a b = absurd (lt_irrefl 0 a)
  class-below-one (suc e) h a b = by-fields (suc e) h ∙ below_one f (leb (top f) (to_bits f x)) (digits_of f x) few e b

  pub class-with-point : (e : ℕ) → exponent_of f x ≡ e → 0 < e → emax f ≤ e → e ≤ low f → class_of x ≡ whole_or (eqb (digits_of f x % 2 ^ (suc (low f) - e)) 0)
  class-with-point zero h z a b = absurd (lt_irrefl 0 z)
  class-with-point (suc e) h z a b =
      by-fields (suc e) h
      ∙ with-point f (leb (top f) (to_bits f x)) (digits_of f x) few e a b
      ∙ ap (λ (n : ℕ). whole_or (eqb (digits_of f x % 2 ^ n) 0)) (sym (one_less (low f) e))
    where
      one_less : (l e : ℕ) → suc l - suc e ≡ l - e
      one_less l e = omega arith

  pub class-without-point : (e : ℕ) → exponent_of f x ≡ e → low f < e → e < ones f → class_of x ≡ Whole
  class-without-point zero h a b = absurd (none (low f) a)
    where
      none : (l : ℕ) → l < 0 → ⊥
      none l k = omega arith
  class-without-point (suc e) h a b = by-fields (suc e) h ∙ without-point f (leb (top f) (to_bits f x)) (digits_of f x) few e (le_of_suc-le-suc a) b

  pub class-not-finite : (e : ℕ) → exponent_of f x ≡ e → e ≡ ones f → class_of x ≡ NotFinite
  class-not-finite zero h a = absurd (none (emax f) a)
    where
      none : (m : ℕ) → 0 ≡ 2 * m + 1 → ⊥
      none m k = omega arith
  class-not-finite (suc e) h a = by-fields (suc e) h ∙ not_finite f (leb (top f) (to_bits f x)) (digits_of f x) e a
