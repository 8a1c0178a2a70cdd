-- The least of ascending times above t is the one behind those that are at most t. Assumes nothing.
use Rattle.std.specs.Prelude.{Option, None, Some, option_copied}
use Rattle.std.specs.Slice.{IsItemAt}
use denote.Bor.{Bor}
use mathlib.Core.Path.{◌≡◌, refl, sym, ap, subst}
use mathlib.Core.Logic.{inl, inr}
use mathlib.Core.Bool.{true, false, not}
use mathlib.Core.List.{List, [], ◌∷◌}
use Prim.Native.Nat.{ℕ, zero, suc, ◌+◌, ◌≤◌, ◌<◌}
use native.Mathlib.Nat.{le_trans, le_of_eq}
use native.Mathlib.Decide.{dec_le}
use native.Mathlib.Omega.{arith}
use lib.Dec.{T}
use lib.ListN.{length, get_or}
use lib.Ieee.{Float, nan, is_nan, eq, lt, le}
use Rattle.gf.specs.Doubles.{key}
use Rattle.gf.proofs.KeyLaws.{key→lt, key→le, le→key, key→eq, lt→key, finite-no-nan, le-or-lt}
use Rattle.definitions.specs.Lists.{any}
use Rattle.definitions.specs.Doubles.{FiniteDouble}
use Rattle.definitions.specs.Timing.{last_at_most}
use Rattle.laws.proofs.list.Tests.{is_true, or_l, or_r}
use Rattle.laws.specs.list.Every.{Every, Chain}
use Rattle.laws.proofs.list.Every.{every-at, chain-far, chain-map, every-by}
use Rattle.laws.specs.list.Places.{Le, Ascending}
use Rattle.laws.proofs.list.Places.{at_most, beyond, last-is, key-at-most, key_above}
use Rattle.laws.specs.cell.Neighbours.{IsUpper}
use Rattle.window.specs.Bounds.{UpperIs}

-- a time at a place is listed
listed_at : (xs : List Float) (i : ℕ) → i < length xs → T (eq (get_or xs i nan) (get_or xs i nan)) → T (any (λ (x : Float). eq x (get_or xs i nan)) xs)
listed_at [] i h e = absurd (omega arith)
listed_at (x ∷ xs) zero h e = or_l (eq x x) (any (λ (y : Float). eq y x) xs) e
listed_at (x ∷ xs) (suc i) h e = or_r (eq x (get_or xs i nan)) (any (λ (y : Float). eq y (get_or xs i nan)) xs) (listed_at xs i (omega arith) e)

module _ (xs : List Float) (a : Ascending xs) (t : Float) (ft : FiniteDouble t) where
  at : (i : ℕ) → i < length xs → FiniteDouble (get_or xs i nan)
  at i h = every-at FiniteDouble xs i nan a.numbers h

  number : (i : ℕ) → i < length xs → T (not (is_nan (get_or xs i nan)))
  number i h = finite-no-nan (get_or xs i nan) (at i h).finitely

  -- later times are no smaller
  later : (i j : ℕ) → i ≤ j → j < length xs → T (le (get_or xs i nan) (get_or xs j nan))
  later i j l h =
      key→le (get_or xs i nan) (get_or xs j nan) (at i (omega arith)).fitting (at j h).fitting (number i (omega arith)) (number j h) (go (dec_le j i))
    where
      rising : Chain (λ (x y : Float). key x ≤ key y) xs
      rising = chain-map FiniteDouble Le (λ (x y : Float). key x ≤ key y) (λ x y p q. le→key x y p.fitting q.fitting (finite-no-nan x p.finitely) (finite-no-nan y q.finitely)) xs a.numbers a.order

      go : Dec (j ≤ i) → key (get_or xs i nan) ≤ key (get_or xs j nan)
      go (yes k) = let e : i ≡ j = omega arith in le_of_eq (ap (λ (n : ℕ). key (get_or xs n nan)) e)
      go (no k) = chain-far (λ (x y : Float). key x ≤ key y) (λ x y z p q. le_trans p q) xs i j nan rising (omega arith) h

  pub upper-at : (i : ℕ) → at_most xs t ≡ i → i < length xs → IsUpper xs t (get_or xs i nan)
  upper-at i e h =
      let f = at i h in
      record {
        fits = f.fitting;
        listed = listed_at xs i h (key→eq (get_or xs i nan) (get_or xs i nan) f.fitting f.fitting (number i h) (number i h) refl);
        above = key→lt t (get_or xs i nan) ft.fitting f.fitting (finite-no-nan t ft.finitely) (number i h) (key_above t ft nan xs a i h (omega arith));
        first = every-by (λ (x : Float). T (lt t x) → T (le (get_or xs i nan) x)) xs nan first-at;
      }
    where
      first-at : (j : ℕ) → j < length xs → T (lt t (get_or xs j nan)) → T (le (get_or xs i nan) (get_or xs j nan))
      first-at j g l = go (dec_le i j)
        where
          go : Dec (i ≤ j) → T (le (get_or xs i nan) (get_or xs j nan))
          go (yes k) = later i j k g
          go (no k) =
              let p = lt→key t (get_or xs j nan) ft.fitting (at j g).fitting (finite-no-nan t ft.finitely) (number j g) l in
              let q = key-at-most t ft nan xs a j g (omega arith) in
              absurd (omega arith)

  pub upper-end : length xs ≤ at_most xs t → Every (λ (x : Float). T (lt t x) → ⊥) xs
  upper-end e = every-by (λ (x : Float). T (lt t x) → ⊥) xs nan none-at
    where
      none-at : (j : ℕ) → j < length xs → T (lt t (get_or xs j nan)) → ⊥
      none-at j g l =
          let p = lt→key t (get_or xs j nan) ft.fitting (at j g).fitting (finite-no-nan t ft.finitely) (number j g) l in
          let q = key-at-most t ft nan xs a j g (omega arith) in
          omega arith

  -- what a look there gives
  pub upper-got : (i : ℕ) → at_most xs t ≡ i → (r : Option (Bor Float)) → IsItemAt xs i r → UpperIs xs t (option_copied r)
  upper-got i e None g = let past : length xs ≤ i = g.3 in upper-end (omega arith)
  upper-got i e (Some x) g = subst (IsUpper xs t) (sym (g.3.1 nan)) (upper-at i e g.3.0)

  -- the first is above t: none is at most t
  pub none-counted : 0 < length xs → lt t (get_or xs 0 nan) ≡ true → at_most xs t ≡ 0
  none-counted h e =
      let l = lt→key t (get_or xs 0 nan) ft.fitting (at 0 h).fitting (finite-no-nan t ft.finitely) (number 0 h) (subst T (sym e) tt) in
      let z : (0 < at_most xs t → ⊥) = λ g. let q = key-at-most t ft nan xs a 0 h g in omega arith in
      omega arith

  -- it is not: the last that is at most t is counted
  pub some-counted : 0 < length xs → lt t (get_or xs 0 nan) ≡ false → at_most xs t ≡ last_at_most xs t + 1
  some-counted h e =
      let l = last-is t ft.fitting xs a in
      let z : 0 < at_most xs t = elim (le-or-lt (get_or xs 0 nan) t (at 0 h).fitting ft.fitting (number 0 h) (finite-no-nan t ft.finitely)) [
        | inl k ↦ beyond t ft.fitting nan xs a 0 h (is_true (le (get_or xs 0 nan) t) k)
        | inr k ↦ absurd (subst T e k)
      ] in
      omega arith
