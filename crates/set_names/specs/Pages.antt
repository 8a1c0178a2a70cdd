-- The names of a dispatcher's sets as they stand in bytes: a page for each, its length and then the name. Assumes nothing.
use Rattle.std.specs.Prelude.{ℕ, zero, suc, ◌+◌, ◌*◌, ◌≤◌, ◌<◌, cond, List, [], ◌∷◌, length, get_or, take, drop, Some, None}
use Rattle.std.specs.Prelude as Prelude
use Rattle.std.proofs.Math.Option.{Option, none, some}
use Rattle.dispatch.specs.SetOrder.{max_name, name_before}

abbrev pub name_page : ℕ
name_page = 256

-- the i-th name
abbrev pub name_in : List ℕ → ℕ → List ℕ
name_in bytes i = take (get_or bytes (i * name_page) 0) (drop (i * name_page + 1) bytes)

-- n names from the i-th on
unfoldable pub names_at : List ℕ → (i n : ℕ) → List (List ℕ)
names_at bytes i zero = []
names_at bytes i (suc n) = name_in bytes i ∷ names_at bytes (suc i) n

abbrev pub names_in : List ℕ → ℕ → List (List ℕ)
names_in bytes n = names_at bytes 0 n

-- as an operation wrote them: n pages, and each name within its own
pub record NamePages (bytes : List ℕ) (n : ℕ) : Type 0 where
  pub room : n * name_page ≤ length bytes
  pub short : (i : ℕ) → i < n → get_or bytes (i * name_page) 0 ≤ max_name

abbrev pub number_of : Prelude.Option ℕ → Option ℕ
number_of (Some i) = some i
number_of None = none

-- how many numbers stand before the first whose name does not come before the k-th
unfoldable pub leading : List (List ℕ) → ℕ → List ℕ → ℕ
leading names k [] = 0
leading names k (j ∷ rest) = cond (name_before (get_or names j []) (get_or names k [])) (suc (leading names k rest)) 0
