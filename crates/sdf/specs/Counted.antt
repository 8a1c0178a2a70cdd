-- A reply that is a list: how many entries it has, and a lent list after it. Assumes nothing.
use Rattle.std.specs.Prelude.{ℕ, List, map, length, Float}
use Rattle.definitions.specs.Lists.{written_over}
use Rattle.definitions.specs.Questions.{Reply, refused, replied}

-- the reply's number, or how many entries it has
abbrev pub counted : {A : Type 0} → Reply (List A) → Reply ℕ
counted (refused n) = refused n
counted (replied l) = replied (length l)

-- a lent list after it: the entries' parts written to its front, or as it was
abbrev pub listed : {A B : Type 0} → (A → B) → Reply (List A) → List B → List B
listed f (refused n) old = old
listed f (replied l) old = written_over (map f l) old

abbrev pub itself : Float → Float
itself t = t
