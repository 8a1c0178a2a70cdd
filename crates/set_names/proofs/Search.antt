-- The names of the pages, one after the other, until one is the name that is looked for. Assumes nothing.
use Prim.Native.Nat.{ℕ, suc, ◌+◌, ◌-◌, ◌≤◌, ◌<◌}
use native.Mathlib.Numerals.{add-one}
use native.Mathlib.Omega.{arith}
use mathlib.Core.Path.{◌≡◌, sym, ap, ◌∙◌}
use mathlib.Core.Bool.{Bool, true, false, cond}
use mathlib.Core.List.{List}
use mathlib.Core.Option.{none, some}
use Rattle.dispatch.specs.SetOrder.{same_name, number_from, set_number}
use Rattle.set_names.specs.Pages.{name_in, names_at, names_in}

module _ (bytes : List ℕ) (n : ℕ) (name : List ℕ) where
  -- the names before the i-th are others
  abbrev pub Searched : ℕ → Type 0
  Searched i = set_number name (names_in bytes n) ≡ number_from i name (names_at bytes i (n - i))

  pub unsearched : Searched 0
  unfolding set_number
  unsearched = ap (λ (k : ℕ). number_from 0 name (names_at bytes 0 k)) (omega arith)

  named : (i : ℕ) → i < n → Searched i → (b : Bool) → b ≡ same_name (name_in bytes i) name → set_number name (names_in bytes n) ≡ cond b (some i) (number_from (suc i) name (names_at bytes (suc i) (n - suc i)))
  unfolding names_at
  named i h s b e =
      let d : n - i ≡ suc (n - suc i) = omega arith in
      s ∙ ap (λ (k : ℕ). number_from i name (names_at bytes i k)) d ∙ ap (λ (x : Bool). cond x (some i) (number_from (suc i) name (names_at bytes (suc i) (n - suc i)))) (sym e)

  pub found_here : (i : ℕ) → i < n → Searched i → true ≡ same_name (name_in bytes i) name → some i ≡ set_number name (names_in bytes n)
  found_here i h s e = sym (named i h s true e)

  pub not-here : (i : ℕ) → i < n → Searched i → false ≡ same_name (name_in bytes i) name → Searched (i + 1)
  not-here i h s e = rw add-one (named i h s false e)

  pub nowhere : (i : ℕ) → n ≤ i → Searched i → none ≡ set_number name (names_in bytes n)
  unfolding names_at
  nowhere i h s =
      let d : n - i ≡ 0 = omega arith in
      sym (s ∙ ap (λ (k : ℕ). number_from i name (names_at bytes i k)) d)
