-- docs/VALUE-CLIPS.md, "Several sets": the plain dispatcher, which is the sets with their names in the order of acceptance, and the set that answers. Assumes nothing.
use Rattle.std.specs.Prelude.{ℕ, suc, Bool, false, not, ◌&&◌, ◌||◌, cond, List, [], ◌∷◌, ◌++◌, map, eqb, leb, length, get_or}
use Rattle.std.proofs.Math.Option.{Option, none, some}
use Rattle.definitions.specs.Lists.{◌if◌else◌, any}
use Rattle.definitions.specs.ClipSet.{ClipSet}
use Rattle.dispatch.specs.SetOrder.{OrderList, too_long, same_name, order_in_force}

-- "A dispatcher holds at most 16 sets"
abbrev pub max_sets : ℕ
max_sets = 16

-- "each with a name and whether its manifest declares the attribute"
pub record NamedSet : Type 0 where
  pub name : List ℕ
  pub declares : Bool
  pub set : ClipSet

abbrev pub names_of : List NamedSet → List (List ℕ)
names_of sets = map (λ (x : NamedSet). x.name) sets

abbrev pub has_name : List ℕ → NamedSet → Bool
has_name name x = same_name x.name name

-- ---- what stands after an acceptance or a retiming

-- "a 17th set, a second set of one name, a name above 255 bytes"
unfoldable pub set_name_number : List ℕ → List NamedSet → ℕ
set_name_number name sets = 23 if leb max_sets (length sets) || any (has_name name) sets || too_long name else 0

-- "behind the others"
unfoldable pub with_set : List NamedSet → List ℕ → Bool → ClipSet → List NamedSet
with_set sets name declares set = sets ++ (record { name = name; declares = declares; set = set } ∷ [])

-- "moves the set of that name, and no other"
abbrev pub changed : (ClipSet → ClipSet) → NamedSet → NamedSet
changed f x = record { name = x.name; declares = x.declares; set = f x.set }

unfoldable pub change_named : List ℕ → (ClipSet → ClipSet) → List NamedSet → List NamedSet
change_named name f [] = []
change_named name f (x ∷ sets) = cond (has_name name x) (changed f x ∷ sets) (x ∷ change_named name f sets)

-- ---- the set that answers

-- "has a start, and declares the attribute"
abbrev pub qualifies : NamedSet → Bool
qualifies x = x.declares && not (eqb (length x.set.active) 0)

abbrev pub fit_of : List NamedSet → List Bool
fit_of sets = map qualifies sets

-- "its index in the order in force, from 0; sets that do not qualify are counted"; and its number
pub record Answering : Type 0 where
  pub place : ℕ
  pub number : ℕ

-- the first number that is fit, where places are counted from `place`
unfoldable pub first_qualifying : List Bool → ℕ → List ℕ → Option Answering
first_qualifying fit place [] = none
first_qualifying fit place (k ∷ rest) = cond (get_or fit k false) (some (record { place = place; number = k })) (first_qualifying fit (suc place) rest)

-- "The answering set is the first in the order in force that qualifies"
unfoldable pub answering : Option OrderList → List NamedSet → Option Answering
answering o sets = first_qualifying (fit_of sets) 0 (order_in_force o (names_of sets))
