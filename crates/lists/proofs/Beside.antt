-- One comparison at a place tells on which side of it the search ends. Assumes nothing.
use mathlib.Core.Path.{◌≡◌, refl, sym, ◌∙◌}
use mathlib.Core.Bool.{Bool, true, false}
use mathlib.Core.List.{List}
use Prim.Native.Nat.{ℕ, ◌+◌, ◌≤◌, ◌<◌}
use native.Mathlib.Omega.{arith}
use lib.Dec.{T, ltb, leb, eqb}
use lib.ListN.{length, get_or}
use lib.Ieee.{Float, nan, binary64, fits, le}
use borrow.Author.Tests.{ltb-true, ltb-false, leb-true, leb-false, lt-ltb, le-ltb, le-leb, lt-leb, eq-eqb, ne_eqb}
use Rattle.definitions.specs.Timing.{last_at_most}
use Rattle.laws.specs.list.Places.{Ascending}
use Rattle.laws.proofs.list.Places.{at_most, at-most-is, at-most-length, last-is}

module _ (t : Float) (ft : T (fits binary64 t)) (xs : List Float) (a : Ascending xs) where
  pub reached-is : (i : ℕ) → (i ≡ 0 → ⊥) → i < length xs → le (get_or xs i nan) t ≡ leb i (last_at_most xs t)
  reached-is i n h = at-most-is t ft nan xs a i h ∙ go (ltb i (at_most xs t)) refl
    where
      go : (b : Bool) → ltb i (at_most xs t) ≡ b → b ≡ leb i (last_at_most xs t)
      go true e = sym (le-leb i (last_at_most xs t) (omega (arith, ltb-true i (at_most xs t) e, last-is t ft xs a)))
      go false e = sym (lt-leb i (last_at_most xs t) (omega (arith, ltb-false i (at_most xs t) e, last-is t ft xs a)))

  pub passed_is : (i : ℕ) → i + 1 < length xs → le (get_or xs (i + 1) nan) t ≡ ltb i (last_at_most xs t)
  passed_is i h = reached-is (i + 1) (λ e. omega arith) h ∙ go (leb (i + 1) (last_at_most xs t)) refl
    where
      go : (b : Bool) → leb (i + 1) (last_at_most xs t) ≡ b → b ≡ ltb i (last_at_most xs t)
      go true e = sym (lt-ltb i (last_at_most xs t) (omega (arith, leb-true (i + 1) (last_at_most xs t) e)))
      go false e = sym (le-ltb i (last_at_most xs t) (omega (arith, leb-false (i + 1) (last_at_most xs t) e)))

  pub not-passed : (i : ℕ) → length xs ≤ i + 1 → false ≡ ltb i (last_at_most xs t)
  not-passed i h = sym (le-ltb i (last_at_most xs t) (omega (arith, last-is t ft xs a, at-most-length xs t)))

-- neither behind a place nor before it
pub at_place : (i last : ℕ) → ltb i last ≡ false → leb i last ≡ eqb last i
at_place i last e = go (leb i last) refl
  where
    go : (b : Bool) → leb i last ≡ b → b ≡ eqb last i
    go true h = sym (eq-eqb last i (omega (arith, ltb-false i last e, leb-true i last h)))
    go false h = sym (ne_eqb last i (λ q. omega (arith, leb-false i last h)))

pub behind-place : (i last : ℕ) → ltb i last ≡ true → false ≡ eqb last i
behind-place i last e = sym (ne_eqb last i (λ q. omega (arith, ltb-true i last e)))
