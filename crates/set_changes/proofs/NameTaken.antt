-- 23 of a name, by how many sets there are, the name's length, and whether a set has it. Assumes nothing.
use Prim.Native.Nat.{ℕ, suc, ◌≤◌, ◌<◌}
use native.Mathlib.Omega.{arith}
use mathlib.Core.Path.{◌≡◌, refl, sym, ap, ◌∙◌}
use mathlib.Core.Bool.{Bool, true, false, ◌||◌, cond, true≢false}
use mathlib.Core.List.{List, [], ◌∷◌}
use mathlib.Core.Option.{none, some}
use lib.Dec.{leb}
use lib.ListN.{length, get_or}
use borrow.Author.Tests.{le-ltb, lt-ltb, le-leb, lt-leb, leb-false, ltb-false}
use Rattle.laws.proofs.list.Tests.{or-false, passed}
use Rattle.definitions.specs.Lists.{◌if◌else◌, any}
use Rattle.dispatch.specs.SetOrder.{max_name, too_long, same_name, number_from, set_number}
use Rattle.dispatch.specs.NamedSets.{NamedSet, max_sets, names_of, has_name}
use Rattle.std.specs.Prelude as Prelude
use Rattle.set_names.specs.Pages.{names_in, number_of}
use Rattle.set_changes.specs.Promises.{name_number}

some-other : {A : Type 0} → ◌≡◌ {A = ℕ} 0 1 → A
some-other e = absurd (omega arith)

abbrev has : List ℕ → List (List ℕ) → Bool
has name names = any (λ (x : List ℕ). same_name x name) names

any_of : (n : ℕ) (name : List ℕ) (names : List (List ℕ)) (i : ℕ) → some i ≡ number_from n name names → has name names ≡ true
any_of n name [] i e = some-other (cc)
any_of n name (x ∷ names) i e = go (same_name x name) e (any_of (suc n) name names i)
  where
    go : (b : Bool) → some i ≡ cond b (some n) (number_from (suc n) name names) → (some i ≡ number_from (suc n) name names → has name names ≡ true) → (b || has name names) ≡ true
    go true e f = refl
    go false e f = f e

none_of : (n : ℕ) (name : List ℕ) (names : List (List ℕ)) → none ≡ number_from n name names → has name names ≡ false
none_of n name [] e = refl
none_of n name (x ∷ names) e = go (same_name x name) e (none_of (suc n) name names)
  where
    go : (b : Bool) → none ≡ cond b (some n) (number_from (suc n) name names) → (none ≡ number_from (suc n) name names → has name names ≡ false) → (b || has name names) ≡ false
    go true e f = some-other (cc)
    go false e f = f e

module _ (counts bytes name : List ℕ) where
  abbrev sets : ℕ
  sets = get_or counts 0 0

  pub many : max_sets ≤ sets → 23 ≡ name_number counts bytes name
  many h = sym (ap (λ (b : Bool). 23 if b || has name (names_in bytes sets) || too_long name else 0) (le-leb max_sets sets h))

  pub too_long-is : max_name < length name → 23 ≡ name_number counts bytes name
  too_long-is h = sym (ap (λ (b : Bool). 23 if leb max_sets sets || has name (names_in bytes sets) || b else 0) (lt-ltb max_name (length name) h) ∙ last (leb max_sets sets) (has name (names_in bytes sets)))
    where
      last : (a b : Bool) → (23 if a || b || true else 0) ≡ 23
      last true b = refl
      last false true = refl
      last false false = refl

  pub taken : (r : Prelude.Option ℕ) → Prelude.is_some r ≡ true → number_of r ≡ set_number name (names_in bytes sets) → 23 ≡ name_number counts bytes name
  unfolding set_number
  taken Prelude.None f e = absurd (true≢false (sym f))
  taken (Prelude.Some i) f e = sym (ap (λ (b : Bool). 23 if leb max_sets sets || b || too_long name else 0) (any_of 0 name (names_in bytes sets) i e) ∙ second (leb max_sets sets))
    where
      second : (a : Bool) → (23 if a || true || too_long name else 0) ≡ 23
      second true = refl
      second false = refl

  pub free : sets < max_sets → length name ≤ max_name → (r : Prelude.Option ℕ) → Prelude.is_some r ≡ false → number_of r ≡ set_number name (names_in bytes sets) → 0 ≡ name_number counts bytes name
  unfolding set_number
  free h k (Prelude.Some i) f e = absurd (true≢false f)
  free h k Prelude.None f e = sym (rw (lt-leb max_sets sets h, none_of 0 name (names_in bytes sets) e, le-ltb max_name (length name) k) refl)

  -- what 0 tells
  pub room : name_number counts bytes name ≡ 0 → (sets < max_sets) × (length name ≤ max_name)
  room e =
      let a = (passed 23 (leb max_sets sets || has name (names_in bytes sets) || too_long name) 0 (omega arith) e).0 in
      let b = or-false (leb max_sets sets || has name (names_in bytes sets)) (too_long name) a in
      let c = or-false (leb max_sets sets) (has name (names_in bytes sets)) b.0 in
      (leb-false max_sets sets c.0, ltb-false max_name (length name) b.1)

-- the same number by the plain dispatcher
pub by_names : (name : List ℕ) (sets : List NamedSet) → any (has_name name) sets ≡ any (λ (x : List ℕ). same_name x name) (names_of sets)
by_names name [] = refl
by_names name (x ∷ sets) = ap (λ (b : Bool). has_name name x || b) (by_names name sets)
