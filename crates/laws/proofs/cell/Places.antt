-- The place of the last time ≤ t: it does not fall as t grows, and it stays while no time of the list is passed. Assumes nothing.
use mathlib.Core.Path.{◌≡◌, refl, ap₂}
use mathlib.Core.Logic.{inl, inr}
use mathlib.Core.Bool.{Bool, true, false, not, ◌||◌, cond}
use mathlib.Core.List.{List, [], ◌∷◌}
use Prim.Native.Nat.{ℕ, suc, ◌≤◌, ◌<◌, zero-le, suc-le-suc}
use native.Mathlib.Omega.{arith}
use lib.Dec.{T, T_not, not_T}
use lib.ListN.{length}
use lib.Ieee.{Float, is_nan, lt, le}
use Rattle.gf.proofs.KeyLaws.{same_test, le_trans, le-or-lt, le_lt_trans, lt_not_le, le-no-nan, lt→le}
use Rattle.definitions.specs.Lists.{any, keep}
use Rattle.definitions.specs.Timing.{last_at_most}
use Rattle.laws.specs.list.Every.{Every}
use Rattle.laws.proofs.list.Tests.{or_l, or_r}
use Rattle.laws.specs.list.Places.{Fits}

-- x does not lie above t and up to u
abbrev pub Clear : Float → Float → Float → Type 0
Clear t u x = T (le x u) → T (le x t)

pub not-le-lt : (x y : Float) → Fits x → Fits y → T (not (is_nan x)) → T (not (is_nan y)) → T (not (le x y)) → T (lt y x)
not-le-lt x y fx fy nx ny h = elim (le-or-lt x y fx fy nx ny) [ inl k ↦ absurd (T_not (le x y) h k) | inr k ↦ k ]

-- the place of the last time at most t is a place, if there are any
pub last-short : (l : List Float) (t : Float) → 0 < length l → last_at_most l t < length l
unfolding last_at_most
last-short [] t h = absurd (omega arith)
last-short (x ∷ []) t h = omega arith
last-short (x ∷ y ∷ l) t h = go (any (λ (z : Float). le z t) (y ∷ l)) (last-short (y ∷ l) t (omega arith))
  where
    go : (b : Bool) → last_at_most (y ∷ l) t < length (y ∷ l) → cond b (suc (last_at_most (y ∷ l) t)) 0 < suc (length (y ∷ l))
    go true k = omega arith
    go false k = omega arith

cond-mono : (a b : Bool) (m n : ℕ) → (T a → T b) → m ≤ n → cond a (suc m) 0 ≤ cond b (suc n) 0
cond-mono true true m n f h = suc-le-suc h
cond-mono true false m n f h = absurd (f tt)
cond-mono false b m n f h = zero-le

module _ (t u : Float) (ft : Fits t) (fu : Fits u) (h : T (le t u)) where
  -- ---- one time

  pub le_same : (x : Float) → Fits x → Clear t u x → le x t ≡ le x u
  le_same x f c = same_test (le x t) (le x u) (λ k. le_trans x t u f ft fu k h) c

  pub lt_same : (x : Float) → Fits x → Clear t u x → lt t x ≡ lt u x
  lt_same x f c = same_test (lt t x) (lt u x) forth (λ k. le_lt_trans t u x ft fu f h k)
    where
      forth : T (lt t x) → T (lt u x)
      forth k =
          not-le-lt x u f fu (le-no-nan t x (lt→le t x k)).1 (le-no-nan t u h).1
          (not_T (le x u) (λ p. lt_not_le t x ft f k (c p)))

  -- ---- a list of times

  pub any-le : (xs : List Float) → Every Fits xs → T (any (λ (y : Float). le y t) xs) → T (any (λ (y : Float). le y u) xs)
  any-le [] f k = k
  any-le (x ∷ xs) f k = go (le x t) (le x u) (any (λ (y : Float). le y t) xs) (any (λ (y : Float). le y u) xs) (λ p. le_trans x t u f.0 ft fu p h) (any-le xs f.1) k
    where
      go : (a b c d : Bool) → (T a → T b) → (T c → T d) → T (a || c) → T (b || d)
      go true b c d p q r = or_l b d (p tt)
      go false b c d p q r = or_r b d (q r)

  -- "the last start ≤ stage time": later or the same at a later time
  pub place_mono : (xs : List Float) → Every Fits xs → last_at_most xs t ≤ last_at_most xs u
  unfolding last_at_most
  place_mono [] f = zero-le
  place_mono (x ∷ xs) f = cond-mono (any (λ (y : Float). le y t) xs) (any (λ (y : Float). le y u) xs) (last_at_most xs t) (last_at_most xs u) (any-le xs f.1) (place_mono xs f.1)

  any_same : (xs : List Float) → Every Fits xs → Every (Clear t u) xs → any (λ (y : Float). le y t) xs ≡ any (λ (y : Float). le y u) xs
  any_same [] f c = refl
  any_same (x ∷ xs) f c = ap₂ ◌||◌ (le_same x f.0 c.0) (any_same xs f.1 c.1)

  -- the same while no time is passed
  pub place_same : (xs : List Float) → Every Fits xs → Every (Clear t u) xs → last_at_most xs t ≡ last_at_most xs u
  unfolding last_at_most
  place_same [] f c = refl
  place_same (x ∷ xs) f c = ap₂ (λ (b : Bool) (n : ℕ). cond b (suc n) 0) (any_same xs f.1 c.1) (place_same xs f.1 c.1)

  -- the times up to t and those above it are the same while none is passed
  pub keep-le-same : (xs : List Float) → Every Fits xs → Every (Clear t u) xs → keep (λ (x : Float). le x t) xs ≡ keep (λ (x : Float). le x u) xs
  keep-le-same [] f c = refl
  keep-le-same (x ∷ xs) f c =
      ap₂ (λ (b : Bool) (l : List Float). cond b (x ∷ l) l) (le_same x f.0 c.0) (keep-le-same xs f.1 c.1)

  pub keep-lt-same : (xs : List Float) → Every Fits xs → Every (Clear t u) xs → keep (λ (x : Float). lt t x) xs ≡ keep (λ (x : Float). lt u x) xs
  keep-lt-same [] f c = refl
  keep-lt-same (x ∷ xs) f c =
      ap₂ (λ (b : Bool) (l : List Float). cond b (x ∷ l) l) (lt_same x f.0 c.0) (keep-lt-same xs f.1 c.1)
