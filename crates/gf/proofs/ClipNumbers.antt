-- A whole double that is not negative, as an index: where its magnitude has w bits the cast loses nothing, and that is a comparison of doubles.
-- Assumes nothing.
use Rattle.std.proofs.Common.{◌≡◌, ℕ, ◌+◌, ◌-◌, ◌*◌, ◌/◌, ◌^◌, ◌<◌, min, true, false, T, eqb, ℤ, pos, sym, ap, ◌∙◌, subst, div-lt_iff_lt-mul, mul-pos, one-mul, zero-mul, mul-one, arith, eqb→eq, ltb→lt, lt→ltb, pow_pos}
use native.Mathlib.Nat.{zero-div}
use lib.Ieee.{Float, nan, inf, fin, up, down, lt, le, to_unsigned}
use lib.Ieee.Fits.{and_l, down_pos}
use Rattle.gf.specs.Doubles.{0·0, is_whole, truncated}

-- ---- only -0.0 has a sign and is not negative

sizeless : (m : ℕ) (e : ℤ) → T (le 0·0 (fin true m e)) → m * up e ≡ 0
unfolding le
sizeless m e h =
    let a = 0 * 1 * down e in
    let b = m * up e * 1 in
    sym (mul-one (m * up e)) ∙ sym (eqb→eq a b (and_l (eqb a b) (eqb a 0) h)) ∙ zero-mul (down e)

cut-zero : (m : ℕ) (e : ℤ) → T (le 0·0 (fin true m e)) → m * up e / down e ≡ 0
cut-zero m e h = ap (λ (n : ℕ). n / down e) (sizeless m e h) ∙ zero-div (down e)

-- ---- within w bits

pub above_minus_one : (x : Float) → T (le 0·0 x) → T (lt (fin true 1 (pos 0)) x)
unfolding le
above_minus_one nan h = absurd h
above_minus_one (inf true) h = absurd h
above_minus_one (inf false) h = tt
above_minus_one (fin true m e) h =
    lt→ltb (m * up e * 1) (1 * 1 * down e) (small (m * up e) (down e) (sizeless m e h) (down_pos e))
  where
    small : (a d : ℕ) → a ≡ 0 → 0 < d → a * 1 < 1 * 1 * d
    small a d z p = omega arith
above_minus_one (fin false m e) h = lt→ltb 0 (1 * 1 * down e + m * up e * 1) (some (m * up e) (down e) (down_pos e))
  where
    some : (a d : ℕ) → 0 < d → 0 < 1 * 1 * d + a * 1
    some a d p = omega arith

module _ (w : ℕ) where
  pub below_power : (x : Float) → T (is_whole x) → T (le 0·0 x) → truncated x < 2 ^ w → T (lt x (fin false 1 (pos w)))
  unfolding is_whole truncated lt
  below_power nan a b h = absurd a
  below_power (inf s) a b h = absurd a
  below_power (fin true m e) a b h = lt→ltb 0 (m * up e * 1 + 1 * 2 ^ w * down e) (some (m * up e) (1 * 2 ^ w * down e) (mul-pos (subst (λ (n : ℕ). 0 < n) (sym (one-mul (2 ^ w))) (pow_pos w)) (down_pos e)))
    where
      some : (a d : ℕ) → 0 < d → 0 < a * 1 + d
      some a d p = omega arith
  below_power (fin false m e) a b h =
      lt→ltb (m * up e * 1) (1 * 2 ^ w * down e)
      (subst (λ (n : ℕ). n < 1 * 2 ^ w * down e) (sym (mul-one (m * up e)))
      (subst (λ (n : ℕ). m * up e < n * down e) (sym (one-mul (2 ^ w))) ((div-lt_iff_lt-mul (down_pos e)).0 h)))

  pub power_below : (x : Float) → T (is_whole x) → T (le 0·0 x) → T (lt x (fin false 1 (pos w))) → truncated x < 2 ^ w
  unfolding is_whole truncated lt
  power_below nan a b h = absurd a
  power_below (inf s) a b h = absurd a
  power_below (fin true m e) a b h = subst (λ (n : ℕ). n < 2 ^ w) (sym (cut-zero m e b)) (pow_pos w)
  power_below (fin false m e) a b h =
      (div-lt_iff_lt-mul (down_pos e)).1
      (subst (λ (n : ℕ). m * up e < n * down e) (one-mul (2 ^ w))
      (subst (λ (n : ℕ). n < 1 * 2 ^ w * down e) (mul-one (m * up e)) (ltb→lt (m * up e * 1) (1 * 2 ^ w * down e) h)))

  pub cast-cuts : (x : Float) → T (is_whole x) → T (le 0·0 x) → truncated x < 2 ^ w → to_unsigned w x ≡ truncated x
  unfolding is_whole truncated to_unsigned
  cast-cuts nan a b h = absurd a
  cast-cuts (inf s) a b h = absurd a
  cast-cuts (fin true m e) a b h = sym (cut-zero m e b)
  cast-cuts (fin false m e) a b h = uncapped (m * up e / down e) (2 ^ w) h
    where
      uncapped : (a c : ℕ) → a < c → min a (c - 1) ≡ a
      uncapped a c k = omega arith
