-- The track of a value that never changes but for a zero's sign, and of one that changes once. Assumes nothing.
use mathlib.Core.Path.{◌≡◌, refl, sym, ap, ◌∙◌, subst, subst⁻¹}
use mathlib.Core.Logic.{inl, inr}
use mathlib.Core.Bool.{Bool, true, false, not, ◌&&◌, ◌||◌, cond}
use mathlib.Core.List.Memᴰ
use mathlib.Core.List.{[], ◌∷◌}
use Prim.Native.Nat.{ℕ, ◌-◌, ◌≤◌, ◌<◌}
use native.Mathlib.Omega.{arith}
use native.Mathlib.Decide.{dec_le}
use lib.Dec.{T, T_not, lit≤}
use native.Mathlib.Nat.{le_of_eq, eq-or-lt_of_le}
use lib.Ieee.{Float, is_nan, eq, lt, le}
use Rattle.gf.specs.Doubles.{key, of_key, least, most}
use Rattle.gf.proofs.KeyLaws.{key-of_key, of_key-fits, of_key-finite, finite→key, finite-no-nan, lt→key, key→lt, key→le, key→eq, le-or-lt}
use Rattle.definitions.specs.declared.StageTime.{StageTime}
use Rattle.definitions.specs.declared.Answer.{Answer}
use Rattle.definitions.specs.ClipSet.{stage}
use Rattle.definitions.specs.Doubles.{lowest, next_lower, FiniteDouble}
use Rattle.definitions.specs.Track.{Entry, entry_of, alike, written_entry, Change, read_track, read_from, differs, change_at, IsChange, TrackOf}
use Rattle.definitions.proofs.Written.{Numeric, alike_self, written-alike, alike-one, one_alike}

pub both-i : (a b : Bool) → T a → T b → T (a && b)
both-i true b p q = q
both-i false b p q = p

or_l : (a b : Bool) → T a → T (a || b)
or_l true b p = tt
or_l false b p = absurd p

-- the value at t and that at the next lower double are the same
same-no-change : (v : StageTime → Answer) (a : Answer) → Numeric a → (t : Float) → v (stage t) ≡ a → v (stage (next_lower t)) ≡ a → T (differs v t) → ⊥
unfolding differs
same-no-change v a n t p q d = T_not (alike (entry_of a) (entry_of a)) (rw (p, q) at d) (alike_self a n)

-- v is a, or alike to it, everywhere
module _ (v : StageTime → Answer) (a : Answer) (n : Numeric a) (m : (t : Float) → Numeric (v (stage t))) (h : (t : Float) → T (alike (entry_of (v (stage t))) (entry_of a))) where
  as_one : (t : Float) → written_entry (v (stage t)) ≡ written_entry a
  as_one t = alike-one (v (stage t)) a (m t) n (h t)

  no_change : (t : Float) → T (differs v t) → ⊥
  unfolding differs
  no_change t d = T_not (alike (entry_of (v (stage t))) (entry_of (v (stage (next_lower t))))) d (one_alike (v (stage t)) (v (stage (next_lower t))) (m t) (m (next_lower t)) (as_one t ∙ sym (as_one (next_lower t))))

  pub steady : TrackOf v (record { initial = written_entry a; changes = [] })
  unfolding read_track read_from
  steady = record {
    initial-is = sym (as_one lowest);
    ascends = tt;
    each = λ c m. absurd (Memᴰ.not-nil m);
    complete = λ t f l d. absurd (no_change t d);
    gives = λ t f. subst (λ (e : Entry). T (alike e (entry_of (v (stage t))))) (as_one t) (written-alike (v (stage t)) (m t));
  }

pub constant : (v : StageTime → Answer) (a : Answer) → Numeric a → ((t : Float) → v (stage t) ≡ a) → TrackOf v (record { initial = written_entry a; changes = [] })
constant v a n h = steady v a n (λ t. subst⁻¹ Numeric (h t) n) (λ t. rw (h t) (alike_self a n))

-- ---- neighbours, by their keys

pub no_nan : (x : Float) → FiniteDouble x → T (not (is_nan x))
no_nan x f = finite-no-nan x f.finitely

pub of-key : (k : ℕ) → least ≤ k → k ≤ most → FiniteDouble (of_key k)
of-key k l h = record { fitting = of_key-fits k; finitely = of_key-finite k l h }

low-high : least ≤ most
low-high = lit≤ tt

pub lowest-finite : FiniteDouble lowest
unfolding lowest
lowest-finite = of-key least (le_of_eq refl) low-high

pub lowest-key : key lowest ≡ least
unfolding lowest
lowest-key = key-of_key least (le_of_eq refl) low-high

module _ (t : Float) (f : FiniteDouble t) (above : T (lt lowest t)) where
  pub high-enough : least < key t
  high-enough = subst (λ (k : ℕ). k < key t) lowest-key (lt→key lowest t lowest-finite.fitting f.fitting (no_nan lowest lowest-finite) (no_nan t f) above)

  in-range : (least ≤ key t - 1) × (key t - 1 ≤ most)
  in-range = let h = high-enough in let k = (finite→key t f.fitting f.finitely).1 in (omega arith, omega arith)

  pub lower-finite : FiniteDouble (next_lower t)
  unfolding next_lower
  lower-finite = of-key (key t - 1) in-range.0 in-range.1

  pub lower-key : key (next_lower t) ≡ key t - 1
  unfolding next_lower
  lower-key = key-of_key (key t - 1) in-range.0 in-range.1

module _ (x y : Float) (f : FiniteDouble x) (g : FiniteDouble y) where
  pub key-lt : key x < key y → T (lt x y)
  key-lt h = key→lt x y f.fitting g.fitting (no_nan x f) (no_nan y g) h

  key-le : key x ≤ key y → T (le x y)
  key-le h = key→le x y f.fitting g.fitting (no_nan x f) (no_nan y g) h

  pub key-eq : key x ≡ key y → T (eq x y)
  key-eq h = key→eq x y f.fitting g.fitting (no_nan x f) (no_nan y g) h

  pub not-le : T (not (le x y)) → T (lt y x)
  not-le h = elim (le-or-lt x y f.fitting g.fitting (no_nan x f) (no_nan y g)) [ inl k ↦ absurd (T_not (le x y) h k) | inr k ↦ k ]

-- ---- one change

-- v is a below c and b from c on
module _ (v : StageTime → Answer) (a b : Answer) (na : Numeric a) (nb : Numeric b) (c : Float) (fc : FiniteDouble c) (above : T (lt lowest c)) (plain : of_key (key c) ≡ c)
    (low : (t : Float) → FiniteDouble t → T (lt t c) → v (stage t) ≡ a)
    (high : (t : Float) → FiniteDouble t → T (le c t) → v (stage t) ≡ b)
    (unlike : T (not (alike (entry_of b) (entry_of a)))) where
  at_c : v (stage c) ≡ b
  at_c = high c fc (key-le c c fc fc (le_of_eq refl))

  below-c : v (stage (next_lower c)) ≡ a
  below-c =
      let f = lower-finite c fc above in
      let e = lower-key c fc above in
      let h = high-enough c fc above in
      low (next_lower c) f (key-lt (next_lower c) c f fc (omega arith))

  one : IsChange v (change_at v c)
  unfolding change_at differs
  one = record {
    finitely = rw plain fc;
    above = rw plain above;
    changed = rw (plain, at_c, below-c) unlike;
    written = rw (plain, plain);
  }

  none-else : (t : Float) → FiniteDouble t → T (lt lowest t) → T (differs v t) → key c ≡ key t
  none-else t f l d =
      let g = lower-finite t f l in
      let e = lower-key t f l in
      let h = high-enough t f l in
      elim (dec_le (key c) (key t)) [
        | no n ↦ absurd (same-no-change v a na t (low t f (key-lt t c f fc (omega arith))) (low (next_lower t) g (key-lt (next_lower t) c g fc (omega arith))) d)
        | yes y ↦ elim (eq-or-lt_of_le y) [
          | inl q ↦ q
          | inr q ↦ absurd (same-no-change v b nb t (high t f (key-le c t fc f y)) (high (next_lower t) g (key-le c (next_lower t) fc g (omega arith))) d)
        ]
      ]

  -- read held, the change's entry is b
  gives-t : (t : Float) → FiniteDouble t → T (alike (cond (le c t) (written_entry b) (written_entry a)) (entry_of (v (stage t))))
  gives-t t f = go (le c t) (high t f) (λ h. low t f (not-le c t fc f h))
    where
      go : (q : Bool) → (T q → v (stage t) ≡ b) → (T (not q) → v (stage t) ≡ a) → T (alike (cond q (written_entry b) (written_entry a)) (entry_of (v (stage t))))
      go true h k = rw (h tt) (written-alike b nb)
      go false h k = rw (k tt) (written-alike a na)

  pub single : TrackOf v (record { initial = written_entry a; changes = change_at v c ∷ [] })
  unfolding change_at read_track read_from
  single = record {
    initial-is = ap written_entry (sym (low lowest lowest-finite above));
    ascends = tt;
    each = λ d m. subst⁻¹ (λ (x : Change). IsChange v x) (Memᴰ.eq_of_singleton m) one;
    complete = λ t f l d. rw plain (or_l (eq c t) false (key-eq c t fc f (none-else t f l d)));
    gives = λ t f. rw (plain, at_c) (gives-t t f);
  }
