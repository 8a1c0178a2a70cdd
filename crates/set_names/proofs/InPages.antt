-- Names where they stand in their pages. Assumes nothing.
use Prim.Native.Nat.{ℕ, zero, suc, ◌+◌, ◌<◌}
use native.Mathlib.Omega.{arith}
use mathlib.Core.Path.{◌≡◌, refl, ap, ap₂}
use mathlib.Core.List.{List, [], ◌∷◌, ◌++◌}
use lib.ListN.{length, get_or}
use Rattle.set_names.specs.Pages.{name_in, names_at, names_in}

names-from-long : (bytes : List ℕ) (k n : ℕ) → length (names_at bytes k n) ≡ n
unfolding names_at
names-from-long bytes k zero = refl
names-from-long bytes k (suc n) = ap suc (names-from-long bytes (suc k) n)

pub names-long : (bytes : List ℕ) (n : ℕ) → length (names_in bytes n) ≡ n
names-long bytes n = names-from-long bytes 0 n

names-from-suc : (bytes : List ℕ) (k n m : ℕ) → k + n ≡ m → names_at bytes k (suc n) ≡ names_at bytes k n ++ (name_in bytes m ∷ [])
unfolding names_at
names-from-suc bytes k zero m e =
    let d : k ≡ m = omega arith in
    ap (λ (j : ℕ). name_in bytes j ∷ []) d
names-from-suc bytes k (suc n) m e = ap (λ (l : List (List ℕ)). name_in bytes k ∷ l) (names-from-suc bytes (suc k) n m (omega arith))

-- one name more
pub names-suc : (bytes : List ℕ) (n : ℕ) → names_in bytes (suc n) ≡ names_in bytes n ++ (name_in bytes n ∷ [])
names-suc bytes n = names-from-suc bytes 0 n n (omega arith)

names-from-at : (bytes : List ℕ) (k n i m : ℕ) → i < n → k + i ≡ m → get_or (names_at bytes k n) i [] ≡ name_in bytes m
unfolding names_at
names-from-at bytes k zero i m h e = absurd (omega arith)
names-from-at bytes k (suc n) zero m h e =
    let d : k ≡ m = omega arith in
    ap (name_in bytes) d
names-from-at bytes k (suc n) (suc i) m h e = names-from-at bytes (suc k) n i m (omega arith) (omega arith)

pub names-at : (bytes : List ℕ) (n i : ℕ) → i < n → get_or (names_in bytes n) i [] ≡ name_in bytes i
names-at bytes n i h = names-from-at bytes 0 n i i h (omega arith)

names-from-kept : (bs cs : List ℕ) (k n : ℕ) → ((i : ℕ) → i < k + n → name_in bs i ≡ name_in cs i) → names_at bs k n ≡ names_at cs k n
unfolding names_at
names-from-kept bs cs k zero h = refl
names-from-kept bs cs k (suc n) h = ap₂ (λ (x : List ℕ) (l : List (List ℕ)). x ∷ l) (h k (omega arith)) (names-from-kept bs cs (suc k) n (λ i g. h i (omega arith)))

-- as many, each the same
pub names-kept : (bs cs : List ℕ) (n : ℕ) → ((i : ℕ) → i < n → name_in bs i ≡ name_in cs i) → names_in bs n ≡ names_in cs n
names-kept bs cs n h = names-from-kept bs cs 0 n (λ i g. h i (omega arith))
