-- The jump test: by the x of the knots alone, and in ascending knots from the last one that is at most the upper neighbour down. Assumes nothing.
use mathlib.Core.Path.{◌≡◌, refl, sym, ap, ◌∙◌, subst}
use mathlib.Core.Bool.{Bool, true, false, ◌&&◌, ◌||◌}
use mathlib.Core.List.{List, [], ◌∷◌}
use Prim.Native.Nat.{ℕ, zero, suc, ◌+◌, ◌≤◌, ◌<◌}
use native.Mathlib.Omega.{arith}
use native.Mathlib.Decide.{dec_le}
use lib.Dec.{T}
use lib.ListN.{length, get_or}
use lib.Ieee.{Float, nan, eq, lt, le}
use Rattle.gf.proofs.KeyLaws.{eq→key, key→le, le_trans, lt-le-trans}
use Rattle.definitions.specs.declared.Knot.{Knot}
use Rattle.definitions.specs.Lists.{any, pairs, pairs_from}
use Rattle.definitions.specs.Explicit.{knot}
use Rattle.definitions.specs.Timing.{last_at_most}
use Rattle.definitions.specs.Value.{jump}
use Rattle.laws.proofs.list.Tests.{is_true, is_false, holds, both, both_l, both_r}
use Rattle.laws.specs.list.Places.{Ascending, Fits}
use Rattle.laws.proofs.list.Places.{at_most, at-most-length, at-most-is, last-is, last-later}
use Rattle.laws.specs.cell.Lent.{knots_of}
use borrow.Author.Tests.{lt-ltb}
use Rattle.window.proofs.nearest.Beside.{number_at, climb}
use Rattle.value.specs.Jumps.{jumps_at, jump_in}

-- ---- the x decide

module _ (lower upper : Float) where
  jump-from : (x y : Float) (xs ys : List Float) → length xs ≡ length ys
      → any (λ (p : Knot × Knot). eq p.0.x p.1.x && lt lower p.0.x && le p.0.x upper) (pairs_from (knot x y) (knots_of xs ys)) ≡ any (jumps_at lower upper) (pairs_from x xs)
  jump-from x y [] ys e = refl
  jump-from x y (a ∷ xs) [] e = absurd (omega arith)
  jump-from x y (a ∷ xs) (b ∷ ys) e = ap (λ (r : Bool). jumps_at lower upper (x, a) || r) (jump-from a b xs ys (omega arith))

  pub jump-by-x : (xs ys : List Float) → length xs ≡ length ys → jump (knots_of xs ys) lower upper ≡ jump_in xs lower upper
  unfolding jump
  jump-by-x [] ys e = refl
  jump-by-x (x ∷ xs) [] e = absurd (omega arith)
  jump-by-x (x ∷ xs) (y ∷ ys) e = jump-from x y xs ys (omega arith)

-- ---- a test of the pairs, by places

module _ (p : Float × Float → Bool) where
  any-from : (x : Float) (xs : List Float) → ((i : ℕ) → i + 1 < length (x ∷ xs) → p (get_or (x ∷ xs) i nan, get_or (x ∷ xs) (i + 1) nan) ≡ false) → any p (pairs_from x xs) ≡ false
  any-from x [] h = refl
  any-from x (y ∷ xs) h = rw (h 0 (omega arith)) (any-from y xs (λ i k. ap (λ (n : ℕ). p (get_or (y ∷ xs) i nan, get_or (x ∷ y ∷ xs) n nan)) (suc-add i) ∙ h (suc i) (omega arith)))
    where
      suc-add : (i : ℕ) → suc (i + 1) ≡ suc i + 1
      suc-add i = omega arith

  pub any_none : (xs : List Float) → ((i : ℕ) → i + 1 < length xs → p (get_or xs i nan, get_or xs (i + 1) nan) ≡ false) → any p (pairs xs) ≡ false
  any_none [] h = refl
  any_none (x ∷ xs) h = any-from x xs h

  any_at : (x : Float) (xs : List Float) (i : ℕ) → suc i < length (x ∷ xs) → p (get_or (x ∷ xs) i nan, get_or (x ∷ xs) (suc i) nan) ≡ true → any p (pairs_from x xs) ≡ true
  any_at x [] i h e = absurd (omega arith)
  any_at x (y ∷ xs) zero h e = ap (λ (b : Bool). b || any p (pairs_from y xs)) e
  any_at x (y ∷ xs) (suc i) h e = ap (λ (b : Bool). p (x, y) || b) (any_at y xs i (omega arith) e) ∙ or-true (p (x, y))
    where
      or-true : (b : Bool) → (b || true) ≡ true
      or-true true = refl
      or-true false = refl

  pub any-one : (xs : List Float) (i : ℕ) → suc i < length xs → p (get_or xs i nan, get_or xs (suc i) nan) ≡ true → any p (pairs xs) ≡ true
  any-one [] i h e = absurd (omega arith)
  any-one (x ∷ xs) i h e = any_at x xs i h e

-- ---- the knots at a place and the one before it

module _ (xs : List Float) (a : Ascending xs) (lower upper : Float) (fl : Fits lower) (fu : Fits upper) where
  abbrev jumps : ℕ → ℕ → Bool
  jumps i j = jumps_at lower upper (get_or xs i nan, get_or xs j nan)

  pub step-le : (i j : ℕ) → i ≤ j → j < length xs → T (le (get_or xs i nan) (get_or xs j nan))
  step-le i j l h =
      let x = number_at xs a i (omega arith) in
      let y = number_at xs a j h in
      key→le (get_or xs i nan) (get_or xs j nan) x.0 y.0 x.1 y.1 (climb xs a i j l h)

  step_back : (i j : ℕ) → i < length xs → j < length xs → T (eq (get_or xs i nan) (get_or xs j nan)) → T (le (get_or xs j nan) (get_or xs i nan))
  step_back i j h k e =
      let x = number_at xs a i h in
      let y = number_at xs a j k in
      let q = eq→key (get_or xs i nan) (get_or xs j nan) x.0 y.0 x.1 y.1 e in
      key→le (get_or xs j nan) (get_or xs i nan) y.0 x.0 y.1 x.1 (omega arith)

  none-if : (i j : ℕ) → (T (eq (get_or xs i nan) (get_or xs j nan)) → T (lt lower (get_or xs i nan)) → T (le (get_or xs i nan) upper) → ⊥) → jumps i j ≡ false
  none-if i j f =
      is_false (jumps i j)
      (λ h. let u = both_l (eq (get_or xs i nan) (get_or xs j nan) && lt lower (get_or xs i nan)) (le (get_or xs i nan) upper) h in
      f (both_l (eq (get_or xs i nan) (get_or xs j nan)) (lt lower (get_or xs i nan)) u) (both_r (eq (get_or xs i nan) (get_or xs j nan)) (lt lower (get_or xs i nan)) u) (both_r (eq (get_or xs i nan) (get_or xs j nan) && lt lower (get_or xs i nan)) (le (get_or xs i nan) upper) h))

  -- from the last one at most the upper on there is none
  pub none_above : (i : ℕ) → last_at_most xs upper ≤ i → i + 1 < length xs → jumps i (i + 1) ≡ false
  none_above i l h =
      none-if i (i + 1)
      (λ e u v. let x = number_at xs a i (omega arith) in
      let y = number_at xs a (i + 1) h in
      subst T (last-later upper fu xs nan a (i + 1) (omega arith) h) (le_trans (get_or xs (i + 1) nan) (get_or xs i nan) upper y.0 x.0 fu (step_back i (i + 1) (omega arith) h e) v))

  -- up to one that is not above the lower there is none
  pub none_below : (k i : ℕ) → lt lower (get_or xs k nan) ≡ false → i ≤ k → k < length xs → jumps i (i + 1) ≡ false
  none_below k i e l h =
      none-if i (i + 1)
      (λ p u v. let x = number_at xs a i (omega arith) in
      let y = number_at xs a k h in
      subst T e (lt-le-trans lower (get_or xs i nan) (get_or xs k nan) fl x.0 y.0 u (step-le i k l h)))

  -- down to the place i, where none is from the next on
  pub none-all : (n : ℕ) → lt lower (get_or xs n nan) ≡ false → n < length xs → ((j : ℕ) → n ≤ j → j + 1 < length xs → jumps j (j + 1) ≡ false) → jump_in xs lower upper ≡ false
  none-all n e b f = any_none (jumps_at lower upper) xs (λ j h. elim (dec_le n j) [ yes p ↦ f j p h | no p ↦ none_below n j e (omega arith) b ])

  -- two that share an x
  pub one-here : (i n : ℕ) → suc i ≡ n → n ≤ last_at_most xs upper → n < length xs → lt lower (get_or xs n nan) ≡ true → eq (get_or xs i nan) (get_or xs n nan) ≡ true → jump_in xs lower upper ≡ true
  one-here i n z l h u e =
      let x = number_at xs a i (omega arith) in
      let y = number_at xs a n h in
      let q = holds (eq (get_or xs i nan) (get_or xs n nan)) e in
      let v = lt-le-trans lower (get_or xs n nan) (get_or xs i nan) fl y.0 x.0 (holds (lt lower (get_or xs n nan)) u) (step_back i n (omega arith) h q) in
      let w = at-most-is upper fu nan xs a i (omega arith) ∙ lt-ltb i (at_most xs upper) (omega (arith, last-is upper fu xs a)) in
      let r = is_true (jumps i n) (both (eq (get_or xs i nan) (get_or xs n nan) && lt lower (get_or xs i nan)) (le (get_or xs i nan) upper) (both (eq (get_or xs i nan) (get_or xs n nan)) (lt lower (get_or xs i nan)) q v) (holds (le (get_or xs i nan) upper) w)) in
      any-one (jumps_at lower upper) xs i (omega arith) (subst (λ (k : ℕ). jumps i k ≡ true) (sym z) r)

  -- a place down from the last one is one
  pub last-place : (n : ℕ) → n ≤ last_at_most xs upper → 0 < n → n < length xs
  last-place n l h = omega (arith, last-is upper fu xs a, at-most-length xs upper)
