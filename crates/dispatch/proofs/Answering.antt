-- The set that answers is the first in the order in force that qualifies. Assumes nothing.
use Prim.Native.Nat.{ℕ, zero, suc, ◌+◌}
use native.Mathlib.Omega.{arith}
use mathlib.Core.Path.{◌≡◌, refl, subst}
use mathlib.Core.Bool.{Bool, true, false, cond}
use mathlib.Core.List.{List, [], ◌∷◌}
use mathlib.Core.Option.{Option, none, some}
use lib.ListN.{get_elem?, get_or, take}
use Rattle.dispatch.specs.SetOrder.{OrderList, order_in_force}
use Rattle.dispatch.specs.NamedSets.{NamedSet, Answering, names_of, fit_of, first_qualifying, answering}
use Rattle.dispatch.specs.DispatchCalls.{Unqualified, AnswersAt}

module _ (fit : List Bool) where
  -- the same, where the places are counted from p
  abbrev Later : ℕ → List ℕ → Option Answering → Type 0
  Later p order none = Unqualified fit order
  Later p order (some a) = (i : ℕ) × (a.place ≡ p + i) × (get_elem? order i ≡ some a.number) × (get_or fit a.number false ≡ true) × Unqualified fit (take i order)

  nobody : Unqualified fit []
  nobody i k e = cc

  none_first : (k : ℕ) (order : List ℕ) → get_or fit k false ≡ false → Unqualified fit order → Unqualified fit (k ∷ order)
  none_first k order e u zero j q = subst (λ (m : ℕ). get_or fit m false ≡ false) (cc) e
  none_first k order e u (suc i) j q = u i j q

  later : (p k : ℕ) (order : List ℕ) (r : Option Answering) → get_or fit k false ≡ false → Later (suc p) order r → Later p (k ∷ order) r
  later p k order none e u = none_first k order e u
  later p k order (some a) e (i, h, at, fits, u) = (suc i, omega arith, at, fits, none_first k (take i order) e u)

  first : (p : ℕ) (order : List ℕ) → Later p order (first_qualifying fit p order)
  unfolding first_qualifying
  first p [] = nobody
  first p (k ∷ order) = go (get_or fit k false) refl (first (suc p) order)
    where
      go : (b : Bool) → get_or fit k false ≡ b → Later (suc p) order (first_qualifying fit (suc p) order) → Later p (k ∷ order) (cond b (some (record { place = p; number = k })) (first_qualifying fit (suc p) order))
      go true e l = (0, omega arith, refl, e, nobody)
      go false e l = later p k order (first_qualifying fit (suc p) order) e l

  from_zero : (order : List ℕ) (r : Option Answering) → Later 0 order r → AnswersAt fit order r
  from_zero order none u = u
  from_zero order (some a) (i, h, at, fits, u) = let here : a.place ≡ i = omega arith in rw here (at, fits, u)

pub answers-first : (o : Option OrderList) (sets : List NamedSet) → AnswersAt (fit_of sets) (order_in_force o (names_of sets)) (answering o sets)
unfolding answering
answers-first o sets = let order = order_in_force o (names_of sets) in from_zero (fit_of sets) order (first_qualifying (fit_of sets) 0 order) (first (fit_of sets) 0 order)
