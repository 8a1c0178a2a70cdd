-- A test over two lists side by side, and over a list by its two halves. Assumes nothing.
use mathlib.Core.Path.{◌≡◌, refl, ap, ◌∙◌}
use mathlib.Core.Bool.{Bool, true, false, ◌||◌}
use mathlib.Core.List.{List, [], ◌∷◌}
use Prim.Native.Nat.{ℕ, zero, suc, ◌-◌, ◌/◌, ◌≤◌}
use native.Mathlib.Nat.{not-suc-le-zero, le_of_suc-le-suc}
use native.Mathlib.Omega.{arith}
use lib.ListN.{length, take, drop, length-drop}
use lib.Seq.{take_all}
use Rattle.definitions.specs.Lists.{any}

module _ {A : Type 0} (p : A → Bool) where
  -- what is left of the two lists from a place on
  abbrev pub either_from : (left right : List A) → ℕ → Bool
  either_from left right i = any p (drop i left) || any p (drop i right)

  -- ---- halves, which may overlap

  or-both : (a b c : Bool) → ((a || b) || c) ≡ (a || (b || c))
  or-both true b c = refl
  or-both false b c = refl

  some-of-all : (e : ℕ) (l : List A) → (any p (take e l) || any p l) ≡ any p l
  some-of-all zero l = refl
  some-of-all (suc e) [] = refl
  some-of-all (suc e) (x ∷ l) = go (p x) (some-of-all e l)
    where
      go : (b : Bool) → (any p (take e l) || any p l) ≡ any p l → ((b || any p (take e l)) || (b || any p l)) ≡ (b || any p l)
      go true rest = refl
      go false rest = rest

  halves : (h e : ℕ) (l : List A) → h ≤ e → (any p (take e l) || any p (drop h l)) ≡ any p l
  halves zero e l k = some-of-all e l
  halves (suc h) zero l k = absurd (not-suc-le-zero k)
  halves (suc h) (suc e) [] k = refl
  halves (suc h) (suc e) (x ∷ l) k = or-both (p x) (any p (take e l)) (any p (drop h l)) ∙ ap (λ (b : Bool). p x || b) (halves h e l (le_of_suc-le-suc k))

  -- from the middle on, and as many from the first: of an odd number both have the middle one
  pub by-halves : (l : List A) → (any p (take (length l - length l / 2) l) || any p (take (length l - length l / 2) (drop (length l / 2) l))) ≡ any p l
  by-halves l =
      ap (λ (r : List A). any p (take (length l - length l / 2) l) || any p r) (take_all (length l - length l / 2) (drop (length l / 2) l) (omega (arith, length-drop (length l / 2) l)))
      ∙ halves (length l / 2) (length l - length l / 2) l (omega arith)
