-- A property of every entry of a list, and a relation between neighbours. Assumes nothing.
use Rattle.std.specs.Prelude.{List, [], ◌∷◌}

module _ {A : Type 0} where
  abbrev pub Every : (A → Type 0) → List A → Type 0
  Every P [] = Unit {0}
  Every P (x ∷ xs) = P x × Every P xs

  -- R of x and the first of the list, and of each entry and the one after it
  abbrev pub ChainFrom : (A → A → Type 0) → A → List A → Type 0
  ChainFrom R x [] = Unit {0}
  ChainFrom R x (y ∷ ys) = R x y × ChainFrom R y ys

  abbrev pub Chain : (A → A → Type 0) → List A → Type 0
  Chain R [] = Unit {0}
  Chain R (x ∷ xs) = ChainFrom R x xs
