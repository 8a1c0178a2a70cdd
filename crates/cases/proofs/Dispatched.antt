-- The set that a name leads to is one of those that stand. Assumes nothing.
use Rattle.std.proofs.Common.{◌≡◌, ℕ, suc, ◌+◌, ◌<◌, Bool, true, false, cond, List, [], ◌∷◌, length, arith}
use mathlib.Core.Option.{some}
use Rattle.dispatch.specs.SetOrder.{same_name, number_from, set_number}
use Rattle.set_names.specs.Pages.{names_in}
use Rattle.set_names.proofs.InPages.{names-long}

below-from : (n i : ℕ) (name : List ℕ) (names : List (List ℕ)) → some i ≡ number_from n name names → i < n + length names
below-from n i name [] e = absurd (let z : ◌≡◌ {A = ℕ} 0 1 = cc in omega arith)
below-from n i name (x ∷ names) e = go (same_name x name) e (below-from (suc n) i name names)
  where
    go : (b : Bool) → some i ≡ cond b (some n) (number_from (suc n) name names) → (some i ≡ number_from (suc n) name names → i < suc n + length names) → i < n + suc (length names)
    go true k rest = let h : i ≡ n = cc in omega arith
    go false k rest = omega (arith, rest k)

pub found_below : (bytes name : List ℕ) (n i : ℕ) → some i ≡ set_number name (names_in bytes n) → i < n
unfolding set_number
found_below bytes name n i e = omega (arith, below-from 0 i name (names_in bytes n) e, names-long bytes n)
