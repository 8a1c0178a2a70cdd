-- What a count says of a list: whether any entry passes, and how many numbers of a row do. Assumes nothing.
use Rattle.std.proofs.Common.{◌≡◌, ℕ, zero, suc, ◌+◌, ◌≤◌, ◌<◌, Bool, true, false, ◌||◌, cond, List, [], ◌∷◌, length, get_or, take, drop, ltb, count_by, refl, ap, ◌∙◌, arith, lt-ltb, zero-add, drop-cons}
use Rattle.std.proofs.lemmas.List.Sums.{sum_by-cons}
use mir.Val.{bool_byte}
use Rattle.definitions.specs.Lists.{any, count_from, pairs}

pub as_number : (b : Bool) → bool_byte b ≡ cond b 1 0
as_number true = refl
as_number false = refl

pub any-counted : {A : Type 0} (p : A → Bool) (xs : List A) → ltb 0 (count_by p xs) ≡ any p xs
any-counted {A} p [] = refl
any-counted {A} p (x ∷ xs) = ap (ltb 0) (sum_by-cons (λ (x : A). cond (p x) 1 0) x xs) ∙ go (p x) (count_by p xs) (any-counted p xs)
  where
    go : (b : Bool) (n : ℕ) {r : Bool} → ltb 0 n ≡ r → ltb 0 (cond b 1 0 + n) ≡ (b || r)
    go true n e = lt-ltb 0 (1 + n) (omega arith)
    go false n e = rw zero-add e

module _ {A : Type 0} (p : A → Bool) (xs : List A) (d : A) where
  pub row-counted : (n k : ℕ) → k + n ≤ length xs → count_by p (take n (drop k xs)) ≡ count_from (λ i. p (get_or xs i d)) k n
  unfolding count_from
  row-counted zero k h = refl
  row-counted (suc n) k h = rw (drop-cons xs k d (omega arith)) (sum_by-cons (λ (x : A). cond (p x) 1 0) (get_or xs k d) (take n (drop (suc k) xs)) ∙ ap (λ (m : ℕ). cond (p (get_or xs k d)) 1 0 + m) (row-counted n (suc k) (omega arith)))

-- the first window of two is the first pair of neighbours
first-pair : {A : Type 0} (p : A × A → Bool) (xs : List A) (d : A) → 2 ≤ length xs
    → count_by p (pairs xs) ≡ cond (p (get_or (take 2 xs) 0 d, get_or (take 2 xs) 1 d)) 1 0 + count_by p (pairs (drop 1 xs))
first-pair p [] d h = absurd (omega arith)
first-pair p (x ∷ []) d h = absurd (omega arith)
first-pair {A} p (x ∷ y ∷ xs) d h = sum_by-cons (λ (q : A × A). cond (p q) 1 0) (x, y) (pairs (y ∷ xs))

pub first-window : {A : Type 0} (p : A × A → Bool) (xs w : List A) (n : ℕ) (d : A) → n ≡ 2 → n ≤ length xs → w ≡ take n xs
    → count_by p (pairs xs) ≡ cond (p (get_or w 0 d, get_or w 1 d)) 1 0 + count_by p (pairs (drop 1 xs))
first-window p xs w n d e h f = rw (f, e) (first-pair p xs d (omega arith))

pub no-pairs : {A : Type 0} (p : A × A → Bool) (xs : List A) → length xs < 2 → count_by p (pairs xs) ≡ 0
no-pairs p [] h = refl
no-pairs p (x ∷ []) h = refl
no-pairs p (x ∷ y ∷ xs) h = absurd (omega arith)
