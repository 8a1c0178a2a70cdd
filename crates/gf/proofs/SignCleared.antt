-- A double whose sign is cleared: its bits are those of `abs`, and it is at most 2 ^ k exactly where the double is within 2 ^ k. Assumes nothing.
use Rattle.std.proofs.Common.{◌≡◌, ℕ, ◌+◌, ◌*◌, ◌%◌, ◌^◌, ◌<◌, Bool, true, false, cond, not, ◌&&◌, ◌||◌, T, eqb, ltb, sym, refl, ap, ◌∙◌, mul-pos, zero-add, arith, lit<, eqb→eq, pow_pos, lt-ltb}
use lib.Ieee.{Float, nan, inf, fin, binary64, up, down, below, level, le, fits, is_nan, nan_bits, of_bits, to_bits}
use lib.Ieee.Bits.{of_bits-to_bits, nan_bits_is}
use lib.Ieee.Fits.{down_pos, eq→eqb}
use Rattle.gf.specs.Doubles.{abs, power, within}
use Rattle.gf.proofs.KeyLaws.{same_test}
use Rattle.gf.proofs.Rank.{rank, sign, to_bits-rank, rank-fin, any_sign}

-- ---- the bits

clear : (s : Bool) (r : ℕ) → r < 0x8000_0000_0000_0000 → (cond s 0x8000_0000_0000_0000 0 + r) % 0x8000_0000_0000_0000 ≡ r
clear true r h = omega arith
clear false r h = omega arith

abs-fits : (x : Float) → T (fits binary64 x) → T (fits binary64 (abs x))
unfolding abs fits
abs-fits nan p = tt
abs-fits (inf s) p = tt
abs-fits (fin s m e) p = any_sign binary64 s false m e p

abs-no-nan : (x : Float) → T (not (is_nan x)) → T (not (is_nan (abs x)))
unfolding abs is_nan
abs-no-nan nan q = q
abs-no-nan (inf s) q = tt
abs-no-nan (fin s m e) q = tt

pub rank-small : (x : Float) → T (fits binary64 x) → rank binary64 x < 0x8000_0000_0000_0000
rank-small nan p = omega arith
rank-small (inf s) p = omega arith
rank-small (fin s m e) p = let k = rank-fin binary64 s m e p in omega arith

same_rank : (x : Float) → rank binary64 x ≡ cond (sign (abs x)) 0x8000_0000_0000_0000 0 + rank binary64 (abs x)
unfolding abs
same_rank nan = sym (zero-add 0)
same_rank (inf s) = sym (zero-add (rank binary64 (inf s)))
same_rank (fin s m e) = sym (zero-add (rank binary64 (fin s m e)))

module _ (x : Float) (p : T (fits binary64 x)) (q : T (not (is_nan x))) where
  abs-bits : to_bits binary64 x % 0x8000_0000_0000_0000 ≡ to_bits binary64 (abs x)
  abs-bits =
      ap (λ (b : ℕ). b % 0x8000_0000_0000_0000) (to_bits-rank binary64 x q)
      ∙ clear (sign x) (rank binary64 x) (rank-small x p)
      ∙ same_rank x
      ∙ sym (to_bits-rank binary64 (abs x) (abs-no-nan x q))

  pub abs-of-bits : of_bits binary64 (to_bits binary64 x % 0x8000_0000_0000_0000) ≡ abs x
  abs-of-bits = ap (of_bits binary64) abs-bits ∙ of_bits-to_bits binary64 (abs x) (abs-fits x p)

  pub abs-bits-no-nan : T (not (nan_bits binary64 (to_bits binary64 x % 0x8000_0000_0000_0000)))
  abs-bits-no-nan = rw (nan_bits_is binary64 (to_bits binary64 x % 0x8000_0000_0000_0000), abs-of-bits) (abs-no-nan x q)

-- ---- at most 2 ^ k

eqb-turned : (a b : ℕ) → eqb a b ≡ eqb b a
eqb-turned a b = same_test (eqb a b) (eqb b a) (λ t. eq→eqb (sym (eqb→eq a b t))) (λ t. eq→eqb (sym (eqb→eq b a t)))

and-true : (b : Bool) → b ≡ (b && true)
and-true true = refl
and-true false = refl

pub abs-within : (k : ℕ) (x : Float) → le (abs x) (power false k) ≡ within k x
unfolding abs within le
abs-within k nan = refl
abs-within k (inf true) = refl
abs-within k (inf false) = refl
abs-within k (fin s m e) = go s (m * up e * 1) (1 * 2 ^ k * down e) (mul-pos (mul-pos (lit< tt) (pow_pos k)) (down_pos e))
  where
    go : (s : Bool) (a b : ℕ) → 0 < b → (below false a false b || level false a false b) ≡ ((below true b s a || level true b s a) && (below s a false b || level s a false b))
    go true a b h = rw (eqb-turned b a, lt-ltb 0 (a + b) (omega arith)) (and-true (ltb a b || level false a false b))
    go false a b h = rw (lt-ltb 0 (b + a) (omega arith))
