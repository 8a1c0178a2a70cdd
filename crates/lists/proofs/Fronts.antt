-- A list from a place on: its first entry and the rest, and what a test over the whole list comes to there. Assumes nothing.
use mathlib.Core.Path.{◌≡◌, ap, ◌∙◌}
use mathlib.Core.Bool.{Bool, true, false, ◌||◌, cond}
use mathlib.Core.List.{List, [], ◌∷◌}
use Prim.Native.Nat.{ℕ, ◌+◌, ◌≤◌, ◌<◌}
use native.Mathlib.Numerals.{add-one}
use native.Mathlib.Omega.{arith}
use lib.ListN.{length, get_or, drop, drop_of_length-le}
use lib.Seq.{drop-cons}
use Rattle.definitions.specs.Lists.{any}

module _ {A : Type 0} where
  pub front : (l : List A) (i : ℕ) (d : A) → i < length l → drop i l ≡ get_or l i d ∷ drop (i + 1) l
  front l i d h = rw add-one (drop-cons l i d h)

  pub no_front : (l : List A) (i : ℕ) → length l ≤ i → drop i l ≡ []
  no_front l i h = drop_of_length-le l {i = i} h

module _ {A : Type 0} (p : A → Bool) (l : List A) (i : ℕ) where
  -- the entry at i passes: so does some entry from i on
  pub any_here : (d : A) → i < length l → p (get_or l i d) ≡ true → any p (drop i l) ≡ true
  any_here d h e = ap (any p) (front l i d h) ∙ ap (λ (b : Bool). b || any p (drop (i + 1) l)) e

  pub any-later : (d : A) → i < length l → p (get_or l i d) ≡ false → any p (drop i l) ≡ any p (drop (i + 1) l)
  any-later d h e = ap (any p) (front l i d h) ∙ ap (λ (b : Bool). b || any p (drop (i + 1) l)) e

  pub any-end : length l ≤ i → any p (drop i l) ≡ false
  any-end h = ap (any p) (no_front l i h)

-- what is counted of one entry
pub at_most_one : (b : Bool) {n : ℕ} → n ≡ cond b 1 0 → n ≤ 1
at_most_one true e = omega arith
at_most_one false e = omega arith
