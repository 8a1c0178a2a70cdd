-- -0.0 among sums and among times: a sum is -0.0 only if its first term is, and `total_cmp` tells it from every other double. Assumes nothing.
use mathlib.Core.Path.{◌≡◌, refl, sym, ap, ◌∙◌, subst}
use mathlib.Core.Logic.{◌⊎◌, inl, inr}
use mathlib.Core.Bool.{Bool, true, false, cond, true≢false}
use Prim.Native.Nat.{ℕ, zero, suc, ◌+◌, ◌-◌, ◌*◌, ◌^◌}
use native.Mathlib.Nat.{eq-zero-or-pos, mul-pos, pow-succ'}
use native.Mathlib.Omega.{arith}
use lib.Dec.{T, ltb, lt→ltb, eqb→eq}
use lib.Pow.{pow_pos}
use lib.IntN.{ℤ, pos, negsuc}
use lib.Ieee.{Float, nan, inf, fin, Format, binary64, up, down, round, sum, add, sub, neg, fits, lt, to_bits}
use lib.Ieee.Fits.{up_pos, down_pos, neg-fits}
use lib.Ieee.Scale.{finite}
use lib.Ieee.Positive.{positive}
use Rattle.gf.proofs.Fraction.{Sign, round-sign, round-neg}
use Rattle.gf.proofs.KeyLaws.{is_zero}
use Rattle.gf.proofs.Exactly.{sub-positive}
use Rattle.gf.specs.Doubles.{0·0, total_key}
use Rattle.definitions.specs.Doubles.{FiniteDouble}
use Rattle.laws.specs.list.Places.{Fits}
use Rattle.stage.specs.MinusZero.{minus_zero}

-- ---- a sum is -0.0 only if its first term is

neg-neg : (x : Float) → neg (neg x) ≡ x
unfolding neg
neg-neg nan = refl
neg-neg (inf true) = refl
neg-neg (inf false) = refl
neg-neg (fin true m e) = refl
neg-neg (fin false m e) = refl

-- zero is written in one way
zero-places : (f : Format) (s : Bool) (e : ℤ) → T (fits f (fin s 0 e)) → e ≡ pos 0
unfolding fits
zero-places f s (pos zero) h = refl
zero-places f s (pos (suc k)) h = let p = eqb→eq (2 ^ suc k * 1) 1 h in let q = pow-succ' 2 k in let r = pow_pos k in absurd (omega arith)
zero-places f s (negsuc k) h = let p = eqb→eq (1 * 2 ^ suc k) 1 h in let q = pow-succ' 2 k in let r = pow_pos k in absurd (omega arith)

-- what is -0.0 is finite
number : (x : Float) → x ≡ minus_zero → T (finite x)
number x h = subst (λ (z : Float). T (finite z)) (sym h) tt

module _ (f : Format) where
  -- a rounded number that is not negative is not -0.0
  clear : (a c : ℕ) → round f false a c ≡ minus_zero → ⊥
  clear a c h = absurd (true≢false (subst (Sign false) h (round-sign f false a c)))

  mirrored : (a c : ℕ) → round f true a c ≡ minus_zero → round f false a c ≡ 0·0
  unfolding neg
  mirrored a c h = sym (neg-neg (round f false a c)) ∙ ap neg (sym (round-neg f a c) ∙ h)

  -- a difference of two different doubles is not zero
  apart : (a b : Float) → T (fits f a) → T (fits f b) → T (finite a) → T (finite b) → T (lt a b) → sub f b a ≡ 0·0 → ⊥
  apart a b fa fb p q h e = subst (λ (z : Float). T (positive z)) e (sub-positive f a b fa fb p q h (subst (λ (z : Float). T (finite z)) (sym e) tt))

  module _ (m : ℕ) (e : ℤ) (n : ℕ) (d : ℤ) where
    abbrev a : ℕ
    a = m * up e * down d

    abbrev b : ℕ
    b = n * up d * down e

    abbrev c : ℕ
    c = down e * down d

    both : T (fits f (fin true m e)) → T (fits f (fin true n d)) → round f true (a + b) c ≡ minus_zero → fin true m e ≡ minus_zero
    unfolding neg sub add sum lt
    both p q h = elim (eq-zero-or-pos (a + b)) [
      | inl z ↦ elim (eq-zero-or-pos m) [
        | inl y ↦ ap (λ (k : ℕ). fin true k e) y ∙ ap (fin true 0) (zero-places f true e (subst (λ (k : ℕ). T (fits f (fin true k e))) y p))
        | inr l ↦ let g = mul-pos (mul-pos l (up_pos e)) (down_pos d) in absurd (omega arith)
      ]
      | inr l ↦ absurd (apart (fin true n d) (fin false m e) q (neg-fits f (fin true m e) p) tt tt (lt→ltb 0 (b + a) (omega arith)) (mirrored (a + b) c h))
    ]

    first-only : T (fits f (fin true m e)) → T (fits f (fin false n d)) → sum f true a false b c ≡ minus_zero → ⊥
    unfolding neg sub add sum lt
    first-only p q h = go (ltb a b) (ltb b a) refl refl h
      where
        go : (u v : Bool) → ltb a b ≡ u → ltb b a ≡ v → cond u (round f false (b - a) c) (round f v (a - b) c) ≡ minus_zero → ⊥
        go true v i j k = clear (b - a) c k
        go false false i j k = clear (a - b) c k
        go false true i j k = apart (fin false n d) (fin false m e) q (neg-fits f (fin true m e) p) tt tt (subst T (sym j) tt) (rw i (mirrored (a - b) c k))

    second-only : T (fits f (fin false m e)) → T (fits f (fin true n d)) → sum f false a true b c ≡ minus_zero → ⊥
    unfolding neg sub add sum lt
    second-only p q h = go (ltb a b) refl h
      where
        go : (u : Bool) → ltb a b ≡ u → cond u (round f true (b - a) c) (round f false (a - b) c) ≡ minus_zero → ⊥
        go true i k = apart (fin true n d) (fin true m e) q (neg-fits f (fin false m e) p) tt tt (subst T (sym i) tt) (rw i (mirrored (b - a) c k))
        go false i k = clear (a - b) c k

  pub add-minus : (x y : Float) → T (fits f x) → T (fits f y) → add f x y ≡ minus_zero → x ≡ minus_zero
  unfolding add sum
  add-minus nan y p q h = absurd (number nan h)
  add-minus (inf s) nan p q h = absurd (number nan h)
  add-minus (inf true) (inf true) p q h = absurd (number (inf true) h)
  add-minus (inf true) (inf false) p q h = absurd (number nan h)
  add-minus (inf false) (inf true) p q h = absurd (number nan h)
  add-minus (inf false) (inf false) p q h = absurd (number (inf false) h)
  add-minus (inf s) (fin t n d) p q h = absurd (number (inf s) h)
  add-minus (fin s m e) nan p q h = absurd (number nan h)
  add-minus (fin s m e) (inf t) p q h = absurd (number (inf t) h)
  add-minus (fin true m e) (fin true n d) p q h = both m e n d p q h
  add-minus (fin true m e) (fin false n d) p q h = absurd (first-only m e n d p q h)
  add-minus (fin false m e) (fin true n d) p q h = absurd (second-only m e n d p q h)
  add-minus (fin false m e) (fin false n d) p q h = absurd (clear (m * up e * down d + n * up d * down e) (down e * down d) h)

-- ---- among doubles

pub minus-finite : FiniteDouble minus_zero
unfolding fits
minus-finite = record { fitting = tt; finitely = tt }

pub zero-finite : FiniteDouble 0·0
unfolding fits
zero-finite = record { fitting = tt; finitely = tt }

pub minus-total : total_key minus_zero ≡ 0x7fff_ffff_ffff_ffff
unfolding total_key to_bits
minus-total = refl

pub zero-total : total_key 0·0 ≡ 0x8000_0000_0000_0000
unfolding total_key to_bits
zero-total = refl

-- of the number zero there are two
pub zero-or-minus : (x : Float) → Fits x → T (is_zero x) → (x ≡ 0·0) ⊎ (x ≡ minus_zero)
zero-or-minus nan p h = absurd h
zero-or-minus (inf s) p h = absurd h
zero-or-minus (fin s m e) p h = go s (ap (λ (k : ℕ). fin s k e) y ∙ ap (fin s 0) (zero-places binary64 s e (subst (λ (k : ℕ). T (fits binary64 (fin s k e))) y p)))
  where
    y : m ≡ 0
    y = eqb→eq m 0 h

    go : (t : Bool) → fin s m e ≡ fin t 0 (pos 0) → (fin s m e ≡ 0·0) ⊎ (fin s m e ≡ minus_zero)
    go true q = inr q
    go false q = inl q
