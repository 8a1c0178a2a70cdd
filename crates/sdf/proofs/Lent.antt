-- What lent lists are known to be: doubles that the format holds, and three lists that pair. Assumes nothing.
use mathlib.Core.Path.{◌≡◌}
use mathlib.Core.Bool.{false, not}
use mathlib.Core.List.{List, [], ◌∷◌}
use Prim.Native.Nat.{ℕ, zero, suc, ◌≤◌}
use lib.Dec.{eqb, ltb}
use lib.ListN.{length, get_or}
use lib.Ieee.{Float, nan}
use borrow.Author.Tests.{eqb-true, ltb-false, not-false}
use Rattle.definitions.specs.ClipSet.{max_samples}
use Rattle.definitions.specs.Samples.{unlike_lengths}
use Rattle.laws.proofs.list.Tests.{or-false}
use Rattle.laws.specs.list.Every.{Every}
use Rattle.laws.specs.list.Places.{Fits}

-- what owning a list of doubles tells, as a property of every entry
pub every-fits : (xs : List Float) → ((i : ℕ) → Fits (get_or xs i nan)) → Every Fits xs
every-fits [] h = tt
every-fits (x ∷ xs) h = (h zero, every-fits xs (λ i. h (suc i)))

-- the lists are paired, and not too long
pub paired : (times values : List Float) (marks : List ℕ) → unlike_lengths times values marks ≡ false → (length times ≤ max_samples) × (length values ≡ length times) × (length marks ≡ length times)
unfolding unlike_lengths
paired times values marks e =
    let m = or-false _ (not (eqb (length marks) (length times))) e in
    let v = or-false (ltb max_samples (length times)) (not (eqb (length values) (length times))) m.0 in
    (ltb-false max_samples (length times) v.0, eqb-true _ _ (not-false _ v.1), eqb-true _ _ (not-false _ m.1))
