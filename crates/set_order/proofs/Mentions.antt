-- The numbers that an order list mentions, each at its first mention: those met before and those still to come. Assumes nothing.
use mathlib.Core.Path.{◌≡◌, refl, sym, ap, ap₂, ◌∙◌}
use mathlib.Core.Bool.{Bool, true, false, not, ◌&&◌, cond}
use mathlib.Core.List.{List, [], ◌∷◌}
use mathlib.Core.Option.{some}
use Prim.Native.Nat.{ℕ, zero, suc, ◌+◌, ◌<◌}
use native.Mathlib.Omega.{arith}
use borrow.Author.Tests.{eqb-true, eqb-false}
use lib.Dec.{eqb}
use lib.ListN.{length, get_or, set, replicate}
use lib.Seq.{get_or-set_same, get_or-set_other}
use Rattle.definitions.specs.Lists.{keep}
use Rattle.laws.specs.list.Every.{Every}
use Rattle.laws.proofs.list.Every.{every-get_or}
use Rattle.dispatch.specs.SetOrder.{same_name, number_from, set_number, first_mentions}

-- ---- a number is that of a name

number-below : (n : ℕ) (name : List ℕ) (names : List (List ℕ)) (k : ℕ) → number_from n name names ≡ some k → k < n + length names
number-below n name [] k e = let z : ◌≡◌ {A = ℕ} 0 1 = cc in absurd (omega arith)
number-below n name (x ∷ names) k e = go (same_name x name) e (number-below (suc n) name names k)
  where
    go : (b : Bool) → cond b (some n) (number_from (suc n) name names) ≡ some k → (number_from (suc n) name names ≡ some k → k < suc n + length names) → k < n + suc (length names)
    go true f r = let z : n ≡ k = cc in omega arith
    go false f r = omega (arith, r f)

pub found_below : (name : List ℕ) (names : List (List ℕ)) (k : ℕ) → some k ≡ set_number name names → k < length names
unfolding set_number
found_below name names k e = omega (arith, number-below 0 name names k (sym e))

-- ---- what is kept of what is kept

module _ {A : Type 0} (p q r : A → Bool) (e : (x : A) → (q x && p x) ≡ r x) where
  keep-both : (l : List A) → keep p (keep q l) ≡ keep r l
  keep-both [] = refl
  keep-both (x ∷ l) = go (q x) (p x) (r x) (e x) refl (keep-both l)
    where
      go : (b c d : Bool) → (b && c) ≡ d → p x ≡ c → keep p (keep q l) ≡ keep r l → keep p (cond b (x ∷ keep q l) (keep q l)) ≡ cond d (x ∷ keep r l) (keep r l)
      go true c d f g h = ap (λ (s : Bool). cond s (x ∷ keep p (keep q l)) (keep p (keep q l))) (g ∙ f) ∙ ap (λ (t : List A). cond d (x ∷ t) t) h
      go false c d f g h = h ∙ ap (λ (s : Bool). cond s (x ∷ keep r l) (keep r l)) f

keep_all : {A : Type 0} (p : A → Bool) → ((x : A) → p x ≡ true) → (l : List A) → keep p l ≡ l
keep_all p e [] = refl
keep_all p e (x ∷ l) = ap₂ (λ (b : Bool) (t : List _). cond b (x ∷ t) t) (e x) (keep_all p e l)

-- ---- the numbers still to come

-- whether the j-th was not met
abbrev fresh : List Bool → ℕ → Bool
fresh met j = not (get_or met j false)

-- the first mentions of those that were not met
abbrev pub to_come : List Bool → List ℕ → List ℕ
to_come met l = keep (fresh met) (first_mentions l)

-- where none was met, all
pub none-met : (n : ℕ) (l : List ℕ) → to_come (replicate n false) l ≡ first_mentions l
none-met n l = keep_all (fresh (replicate n false)) (λ j. ap not (every-get_or (λ (b : Bool). b ≡ false) (replicate n false) j false (all n) refl)) (first_mentions l)
  where
    all : (m : ℕ) → Every (λ (b : Bool). b ≡ false) (replicate m false)
    all zero = tt
    all (suc m) = (refl, all m)

module _ (met : List Bool) (k : ℕ) where
  others : (b : Bool) (j : ℕ) → eqb j k ≡ b → get_or met k false ≡ true → (not b && fresh met j) ≡ fresh met j
  others true j e m = sym (ap not (ap (λ (n : ℕ). get_or met n false) (eqb-true j k e) ∙ m))
  others false j e m = refl

  noted : (b : Bool) (j : ℕ) → eqb j k ≡ b → k < length met → (not b && fresh met j) ≡ fresh (set met k true) j
  noted true j e h = sym (ap not (ap (λ (n : ℕ). get_or (set met k true) n false) (eqb-true j k e) ∙ get_or-set_same met k true false h))
  noted false j e h = sym (ap not (get_or-set_other met k j true false (eqb-false j k e)))

  module _ (l : List ℕ) where
    from : (b : Bool) → get_or met k false ≡ b → (r : ℕ → Bool) → ((j : ℕ) → (not (eqb j k) && fresh met j) ≡ r j) → to_come met (k ∷ l) ≡ cond (not b) (k ∷ keep r (first_mentions l)) (keep r (first_mentions l))
    from b m r e = ap₂ (λ (q : Bool) (t : List ℕ). cond (not q) (k ∷ t) t) m (keep-both (fresh met) (λ (j : ℕ). not (eqb j k)) r e (first_mentions l))

    -- one that was met is passed over
    pub met-before : get_or met k false ≡ true → to_come met (k ∷ l) ≡ to_come met l
    met-before m = from true m (fresh met) (λ j. others (eqb j k) j refl m)

    -- one that was not is the first, and is noted
    pub met-now : get_or met k false ≡ false → k < length met → to_come met (k ∷ l) ≡ k ∷ to_come (set met k true) l
    met-now m h = from false m (fresh (set met k true)) (λ j. noted (eqb j k) j refl h)
