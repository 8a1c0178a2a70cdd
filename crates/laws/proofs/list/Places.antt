-- `last_at_most` on ascending times, for a binary search. `at_most xs t` is how many of the times are ≤ t.
-- Of ascending times, the one at i is ≤ t exactly if i is below that number (`at-most-is`); so a search that keeps `lo ≤ at_most xs t ≤ hi` needs
-- no quantifier, and `last_at_most` is that number less one, and 0 for 0 (`last-is`). Assumes nothing.
use mathlib.Core.Path.{◌≡◌, refl, sym, ◌∙◌, subst}
use Prim.Native.Nat.{ℕ, zero, suc, ◌-◌, ◌≤◌, ◌<◌, zero-le}
use native.Mathlib.Nat.{not-suc-le-zero, le_of_suc-le-suc}
use native.Mathlib.Omega.{arith}
use mathlib.Core.Bool.{Bool, true, false, ◌||◌, cond, false≢true}
use mathlib.Core.List.{List, [], ◌∷◌}
use lib.Dec.{T, ltb, leb-suc-suc}
use lib.ListN.{length, get_or}
use lib.Ieee.{Float, binary64, fits, le}
use borrow.Author.Tests.{ltb-true, ltb-false, lt-ltb, le-ltb, leb-false}
use Rattle.gf.specs.Doubles.{key}
use Rattle.gf.proofs.KeyLaws.{le_trans, le_is, le→key, finite-no-nan}
use Rattle.definitions.specs.Lists.{any}
use Rattle.definitions.specs.Doubles.{FiniteDouble}
use Rattle.definitions.specs.Timing.{last_at_most}
use Rattle.laws.proofs.list.Tests.{holds, is_false}
use Rattle.laws.specs.list.Every.{Every, Chain, ChainFrom}
use Rattle.laws.proofs.list.Every.{every-at, every_map, any-every, chain-tail}
use Rattle.laws.specs.list.Places.{Fits, Le, Ascending}

-- how many of the times are ≤ t
unfoldable pub at_most : List Float → Float → ℕ
at_most [] t = 0
at_most (x ∷ xs) t = cond (le x t) (suc (at_most xs t)) (at_most xs t)

pub fitting : (xs : List Float) → Every FiniteDouble xs → Every Fits xs
fitting xs e = every_map FiniteDouble Fits (λ x h. h.fitting) xs e

pub at-most-length : (xs : List Float) (t : Float) → at_most xs t ≤ length xs
unfolding at_most
at-most-length [] t = zero-le
at-most-length (x ∷ xs) t = go (le x t) (at-most-length xs t)
  where
    go : (b : Bool) → at_most xs t ≤ length xs → cond b (suc (at_most xs t)) (at_most xs t) ≤ suc (length xs)
    go true h = omega arith
    go false h = omega arith

module _ (t : Float) (ft : T (fits binary64 t)) where
  above : (x y : Float) → Fits x → Fits y → Le x y → le x t ≡ false → le y t ≡ false
  above x y p q h e = is_false (le y t) (λ k. subst T e (le_trans x y t p q ft h k))

  -- behind a time above t all are above it
  none-behind : (x : Float) (xs : List Float) → Fits x → Every Fits xs → ChainFrom Le x xs → le x t ≡ false → Every (λ (y : Float). le y t ≡ false) xs
  none-behind x [] p f c e = tt
  none-behind x (y ∷ ys) p f c e = let k = above x y p f.0 c.0 e in (k, none-behind y ys f.0 f.1 c.1 k)

none-counted : (t : Float) (xs : List Float) → Every (λ (y : Float). le y t ≡ false) xs → at_most xs t ≡ 0
unfolding at_most
none-counted t [] e = refl
none-counted t (x ∷ xs) e = rw e.0 (none-counted t xs e.1)

counted : (x : Float) (xs : List Float) (t : Float) → le x t ≡ true → at_most (x ∷ xs) t ≡ suc (at_most xs t)
unfolding at_most
counted x xs t e = rw e

not-counted : (x : Float) (xs : List Float) (t : Float) → le x t ≡ false → at_most (x ∷ xs) t ≡ at_most xs t
unfolding at_most
not-counted x xs t e = rw e

module _ (t : Float) (ft : T (fits binary64 t)) (d : Float) where
  at-most-chain : (xs : List Float) → Every Fits xs → Chain Le xs → (i : ℕ) → i < length xs → le (get_or xs i d) t ≡ ltb i (at_most xs t)
  at-most-chain [] f c i h = absurd (not-suc-le-zero h)
  at-most-chain (x ∷ xs) f c i h = go (le x t) refl i h (at-most-chain xs f.1 (chain-tail Le x xs c))
    where
      go : (b : Bool) → le x t ≡ b → (i : ℕ) → i < length (x ∷ xs) → ((j : ℕ) → j < length xs → le (get_or xs j d) t ≡ ltb j (at_most xs t)) → le (get_or (x ∷ xs) i d) t ≡ ltb i (at_most (x ∷ xs) t)
      go true e zero h k = rw (counted x xs t e) (e ∙ sym (lt-ltb 0 (suc (at_most xs t)) (omega arith)))
      go true e (suc i) h k = rw (counted x xs t e) (k i (le_of_suc-le-suc h) ∙ sym (leb-suc-suc (suc i) (at_most xs t)))
      go false e i h k =
          let n = none-behind t ft x xs f.0 f.1 c e in
          rw (not-counted x xs t e, none-counted t xs n) (every-at (λ (y : Float). le y t ≡ false) (x ∷ xs) i d (e, n) h ∙ sym (le-ltb i 0 zero-le))

  -- of ascending times, the one at i is ≤ t exactly if i is below the number of those
  pub at-most-is : (xs : List Float) → Ascending xs → (i : ℕ) → i < length xs → le (get_or xs i d) t ≡ ltb i (at_most xs t)
  at-most-is xs a i h = at-most-chain xs (fitting xs a.numbers) a.order i h

  -- the two steps of a search that keeps `lo ≤ at_most xs t` and `at_most xs t ≤ hi`
  pub beyond : (xs : List Float) → Ascending xs → (i : ℕ) → i < length xs → le (get_or xs i d) t ≡ true → i < at_most xs t
  beyond xs a i h e = ltb-true i (at_most xs t) (sym (at-most-is xs a i h) ∙ e)

  pub up_to : (xs : List Float) → Ascending xs → (i : ℕ) → i < length xs → le (get_or xs i d) t ≡ false → at_most xs t ≤ i
  up_to xs a i h e = ltb-false i (at_most xs t) (sym (at-most-is xs a i h) ∙ e)

-- the same by keys
module _ (t : Float) (n : FiniteDouble t) (d : Float) (xs : List Float) (a : Ascending xs) (i : ℕ) (h : i < length xs) where
  at : FiniteDouble (get_or xs i d)
  at = every-at FiniteDouble xs i d a.numbers h

  pub key-at-most : i < at_most xs t → key (get_or xs i d) ≤ key t
  key-at-most l =
      le→key (get_or xs i d) t at.fitting n.fitting (finite-no-nan (get_or xs i d) at.finitely) (finite-no-nan t n.finitely)
      (holds (le (get_or xs i d) t) (at-most-is t n.fitting d xs a i h ∙ lt-ltb i (at_most xs t) l))

  pub key_above : at_most xs t ≤ i → key t < key (get_or xs i d)
  key_above l =
      leb-false (key (get_or xs i d)) (key t)
      (sym (le_is (get_or xs i d) t at.fitting n.fitting (finite-no-nan (get_or xs i d) at.finitely) (finite-no-nan t n.finitely))
      ∙ at-most-is t n.fitting d xs a i h ∙ le-ltb i (at_most xs t) l)

-- ---- `last_at_most` is that number less one

none_any : (xs : List Float) (t : Float) → any (λ (y : Float). le y t) xs ≡ false → at_most xs t ≡ 0
none_any xs t e = none-counted t xs (any-every (λ (y : Float). le y t) xs e)

some-any : (xs : List Float) (t : Float) → any (λ (y : Float). le y t) xs ≡ true → 0 < at_most xs t
some-any [] t e = absurd (false≢true e)
some-any (x ∷ xs) t e = go (le x t) refl e (some-any xs t)
  where
    go : (b : Bool) → le x t ≡ b → (b || any (λ (y : Float). le y t) xs) ≡ true → (any (λ (y : Float). le y t) xs ≡ true → 0 < at_most xs t) → 0 < at_most (x ∷ xs) t
    go true e h k = rw (counted x xs t e) (omega arith)
    go false e h k = rw (not-counted x xs t e) (k h)

last_some : (x : Float) (xs : List Float) (t : Float) → any (λ (y : Float). le y t) xs ≡ true → last_at_most (x ∷ xs) t ≡ suc (last_at_most xs t)
unfolding last_at_most
last_some x xs t e = rw e

last_none : (x : Float) (xs : List Float) (t : Float) → any (λ (y : Float). le y t) xs ≡ false → last_at_most (x ∷ xs) t ≡ 0
unfolding last_at_most
last_none x xs t e = rw e

last-nil : (t : Float) → last_at_most [] t ≡ 0
unfolding last_at_most
last-nil t = refl

nil-counted : (t : Float) → at_most [] t ≡ 0
unfolding at_most
nil-counted t = refl

module _ (t : Float) (ft : T (fits binary64 t)) where
  last-chain : (xs : List Float) → Every Fits xs → Chain Le xs → last_at_most xs t ≡ at_most xs t - 1
  last-chain [] f c = rw (last-nil t, nil-counted t)
  last-chain (x ∷ xs) f c = go (any (λ (y : Float). le y t) xs) refl (le x t) refl (last-chain xs f.1 (chain-tail Le x xs c))
    where
      go : (a : Bool) → any (λ (y : Float). le y t) xs ≡ a → (b : Bool) → le x t ≡ b → last_at_most xs t ≡ at_most xs t - 1 → last_at_most (x ∷ xs) t ≡ at_most (x ∷ xs) t - 1
      go true p true q k = let l = some-any xs t p in rw (last_some x xs t p, counted x xs t q) (omega arith)
      go true p false q k = let l = some-any xs t p in let z = none-counted t xs (none-behind t ft x xs f.0 f.1 c q) in absurd (omega arith)
      go false p true q k = let z = none_any xs t p in rw (last_none x xs t p, counted x xs t q) (omega arith)
      go false p false q k = let z = none_any xs t p in rw (last_none x xs t p, not-counted x xs t q) (omega arith)

  pub last-is : (xs : List Float) → Ascending xs → last_at_most xs t ≡ at_most xs t - 1
  last-is xs a = last-chain xs (fitting xs a.numbers) a.order

  -- a place, if there are any
  pub last-inside : (xs : List Float) → Ascending xs → 0 < length xs → last_at_most xs t < length xs
  last-inside xs a h = omega (arith, last-is xs a, at-most-length xs t)

  pub last-later : (xs : List Float) (d : Float) → Ascending xs → (i : ℕ) → last_at_most xs t < i → i < length xs → le (get_or xs i d) t ≡ false
  last-later xs d a i l h = at-most-is t ft d xs a i h ∙ le-ltb i (at_most xs t) (omega (arith, last-is xs a))
