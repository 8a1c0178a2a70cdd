-- What a passed test tells, and the second of two lists by the pairs that they make. Assumes nothing.
use mathlib.Core.Path.{◌≡◌, refl, ap}
use mathlib.Core.Bool.{true}
use mathlib.Core.List.{List, [], ◌∷◌, map}
use Prim.Native.Nat.{ℕ, ◌≤◌}
use native.Mathlib.Omega.{arith}
use lib.Dec.{leb, eqb, leb→le, eqb→eq}
use lib.ListN.{length}
use Rattle.definitions.specs.Lists.{zip_with}
use Rattle.laws.proofs.list.Tests.{holds, both_l, both_r}
use Rattle.sorts.specs.Sortable.{sortable}

pub passes : (n m : ℕ) → sortable n m ≡ true → (n ≡ m) × (n ≤ 512)
unfolding sortable
passes n m e =
    let t = holds (sortable n m) e in
    (eqb→eq n m (both_l (eqb n m) (leb n 512) t), leb→le n 512 (both_r (eqb n m) (leb n 512) t))

module _ {A B C : Type 0} (f : A → B → C) (second : C → B) (is-second : (x : A) (y : B) → second (f x y) ≡ y) where
  pub seconds : (xs : List A) (ys : List B) → length xs ≡ length ys → map second (zip_with f xs ys) ≡ ys
  seconds [] [] e = refl
  seconds [] (y ∷ ys) e = absurd (omega arith)
  seconds (x ∷ xs) [] e = absurd (omega arith)
  seconds (x ∷ xs) (y ∷ ys) e = rw (is-second x y) (ap (λ (l : List B). y ∷ l) (seconds xs ys (omega arith)))
