-- The first number in an order whose set qualifies: at the order's front, or behind it. Assumes nothing.
use mathlib.Core.Path.{◌≡◌, refl, ap, ◌∙◌}
use mathlib.Core.Bool.{Bool, true, false, cond}
use mathlib.Core.List.{List, [], ◌∷◌}
use mathlib.Core.Option.{none, some}
use Prim.Native.Nat.{ℕ, suc, ◌+◌, ◌<◌}
use native.Mathlib.Numerals.{add-one}
use native.Mathlib.Omega.{arith}
use lib.ListN.{length}
use Rattle.laws.proofs.list.Every.{zip-at}
use Rattle.dispatch.specs.NamedSets.{first_qualifying}
use Rattle.set_order.specs.Answered.{fit, fit_in, fit_at}

module _ (starts declares : List ℕ) (place k : ℕ) (rest : List ℕ) (e : length declares ≡ length starts) (h : k < length starts) where
  first_on : (b : Bool) → fit_at starts declares k ≡ b → first_qualifying (fit_in starts declares) place (k ∷ rest) ≡ cond b (some (record { place = place; number = k })) (first_qualifying (fit_in starts declares) (place + 1) rest)
  unfolding first_qualifying
  first_on b q =
      rw add-one (ap (λ (x : Bool). cond x (some (record { place = place; number = k })) (first_qualifying (fit_in starts declares) (suc place) rest)) (zip-at fit starts declares k 0 0 false h (omega arith) ∙ q))

  pub first-here : fit_at starts declares k ≡ true → first_qualifying (fit_in starts declares) place (k ∷ rest) ≡ some (record { place = place; number = k })
  first-here q = first_on true q

  pub first-later : fit_at starts declares k ≡ false → first_qualifying (fit_in starts declares) place (k ∷ rest) ≡ first_qualifying (fit_in starts declares) (place + 1) rest
  first-later q = first_on false q

pub first-none : (fits : List Bool) (place : ℕ) → first_qualifying fits place [] ≡ none
unfolding first_qualifying
first-none fits place = refl
