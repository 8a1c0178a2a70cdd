-- The set that answers, from the lists that a dispatcher lends. Assumes nothing.
use Rattle.std.specs.Prelude.{ℕ, Bool, not, ◌&&◌, List, eqb, get_or, Some, None}
use Rattle.std.specs.Prelude as Prelude
use Rattle.std.proofs.Math.Option.{Option, none, some}
use Rattle.definitions.specs.Lists.{zip_with}
use Rattle.dispatch.specs.SetOrder.{OrderList}
use Rattle.dispatch.specs.NamedSets.{Answering}
use Rattle.set_order.specs.declared.AnsweringSet.{AnsweringSet}

abbrev pub lent_list : List ℕ → List ℕ → OrderList
lent_list bytes ends = record { bytes = bytes; ends = ends }

-- a set qualifies by how many starts it has, and whether it declares
abbrev pub fit : (starts declares : ℕ) → Bool
fit starts declares = not (eqb declares 0) && not (eqb starts 0)

abbrev pub fit_in : List ℕ → List ℕ → List Bool
fit_in starts declares = zip_with fit starts declares

-- the k-th
abbrev pub fit_at : List ℕ → List ℕ → ℕ → Bool
fit_at starts declares k = fit (get_or starts k 0) (get_or declares k 0)

abbrev pub answered : Prelude.Option AnsweringSet → Option Answering
answered (Some a) = some (record { place = a.place; number = a.number })
answered None = none
