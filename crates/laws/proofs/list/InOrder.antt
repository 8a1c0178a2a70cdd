-- "Sorted, equals dropped", of finite doubles: what holds of every time holds of those left, they ascend strictly, and each time is equal to one of them.
-- Assumes nothing.
use mathlib.Core.Path.{◌≡◌, refl, sym, ◌∙◌, subst}
use mathlib.Core.Logic.{inl, inr}
use mathlib.Core.Bool.{Bool, true, false, ◌||◌, cond}
use mathlib.Core.List.{List, [], ◌∷◌}
use Prim.Native.Nat.{ℕ, ◌≤◌, ◌<◌}
use native.Mathlib.Omega.{arith}
use lib.Dec.{T}
use lib.Ieee.{Float, eq, lt, le}
use Rattle.gf.specs.Doubles.{key, total_key}
use Rattle.gf.proofs.KeyLaws.{key→le, key→eq, key→lt, lt→key, eq→key, le→key, le_lt_trans, finite-no-nan}
use Rattle.definitions.specs.Lists.{any, sort_by}
use Rattle.definitions.specs.Doubles.{FiniteDouble}
use Rattle.definitions.specs.StageSamples.{drop_equal, dedup, in_order}
use Rattle.laws.proofs.list.Tests.{or_l, or_r, or_split}
use Rattle.laws.specs.list.Every.{Every, Chain, ChainFrom}
use Rattle.laws.proofs.list.Every.{every_map, every-zip}
use Rattle.laws.proofs.list.Sorting.{every-sort, sort-every, sort_sorted}
use Rattle.laws.specs.set.Stored.{Lt}
use Rattle.laws.proofs.set.Stored.{total→key}

-- ---- comparisons of finite doubles

module _ (x y : Float) (f : FiniteDouble x) (g : FiniteDouble y) where
  pub total-le : total_key x ≤ total_key y → T (le x y)
  total-le h = key→le x y f.fitting g.fitting (finite-no-nan x f.finitely) (finite-no-nan y g.finitely) (total→key x y f.fitting g.fitting h)

  pub key-lt : T (lt x y) → key x < key y
  key-lt h = lt→key x y f.fitting g.fitting (finite-no-nan x f.finitely) (finite-no-nan y g.finitely) h

  pub lt-key : key x < key y → T (lt x y)
  lt-key h = key→lt x y f.fitting g.fitting (finite-no-nan x f.finitely) (finite-no-nan y g.finitely) h

  pub key-le : T (le x y) → key x ≤ key y
  key-le h = le→key x y f.fitting g.fitting (finite-no-nan x f.finitely) (finite-no-nan y g.finitely) h

  pub key-eq : T (eq x y) → key x ≡ key y
  key-eq h = eq→key x y f.fitting g.fitting (finite-no-nan x f.finitely) (finite-no-nan y g.finitely) h

  pub eq-key : key x ≡ key y → T (eq x y)
  eq-key h = key→eq x y f.fitting g.fitting (finite-no-nan x f.finitely) (finite-no-nan y g.finitely) h

  -- at most, and not equal
  pub apart-lt : T (le x y) → (T (eq x y) → ⊥) → T (lt x y)
  apart-lt h n = lt-key (below (key x) (key y) (key-le h) (λ e. n (eq-key e)))
    where
      below : (a b : ℕ) → a ≤ b → (a ≡ b → ⊥) → a < b
      below a b p q = omega arith

-- ---- a sorted list

-- each entry is not above any behind it
abbrev pub Rising : List Float → Type 0
Rising [] = Unit {0}
Rising (x ∷ l) = Every (λ (y : Float). total_key x ≤ total_key y) l × Rising l

rising-from : (x : Float) (l : List Float) → ChainFrom (λ (a b : Float). total_key a ≤ total_key b) x l → Rising (x ∷ l)
rising-from x [] c = (tt, tt)
rising-from x (y ∷ l) c =
    let r = rising-from y l c.1 in
    ((c.0, every_map (λ (z : Float). total_key y ≤ total_key z) (λ (z : Float). total_key x ≤ total_key z) (λ z h. omega (arith, c.0)) l r.0), r)

rising-chain : (l : List Float) → Chain (λ (a b : Float). total_key a ≤ total_key b) l → Rising l
rising-chain [] c = tt
rising-chain (x ∷ l) c = rising-from x l c

pub sorted-rising : (l : List Float) → Rising (sort_by total_key l)
sorted-rising l = rising-chain (sort_by total_key l) (sort_sorted total_key l)

-- ---- equals dropped

every-drop-equal : (P : Float → Type 0) (x : Float) (l : List Float) → Every P l → Every P (drop_equal x l)
unfolding drop_equal
every-drop-equal P x [] h = tt
every-drop-equal P x (y ∷ l) h = go (eq x y)
  where
    go : (b : Bool) → Every P (cond b l (y ∷ l))
    go true = h.1
    go false = h

pub every-dedup : (P : Float → Type 0) (l : List Float) → Every P l → Every P (dedup l)
unfolding dedup
every-dedup P [] h = tt
every-dedup P (x ∷ l) h = (h.0, every-drop-equal P x (dedup l) (every-dedup P l h.1))

module _ (x : Float) (f : FiniteDouble x) where
  -- behind x no time equal to it is left
  chain-drop : (l : List Float) → Every FiniteDouble l → Every (λ (y : Float). T (le x y)) l → Chain Lt l → ChainFrom Lt x (drop_equal x l)
  unfolding drop_equal
  chain-drop [] g m c = tt
  chain-drop (y ∷ l) g m c = go (eq x y) refl
    where
      on : (l : List Float) → Every FiniteDouble l → ChainFrom Lt y l → ChainFrom Lt x l
      on [] h d = tt
      on (z ∷ l) h d = (le_lt_trans x y z f.fitting g.0.fitting h.0.fitting m.0 d.0, d.1)

      go : (b : Bool) → eq x y ≡ b → ChainFrom Lt x (cond b l (y ∷ l))
      go true e = on l g.1 c
      go false e = (apart-lt x y f g.0 m.0 (λ h. subst T e h), c)

  -- an equal of z that is dropped leaves x
  any-drop : (z : Float) → FiniteDouble z → (l : List Float) → Every FiniteDouble l → T (any (λ (y : Float). eq y z) l) → T (any (λ (y : Float). eq y z) (x ∷ drop_equal x l))
  unfolding drop_equal
  any-drop z h [] g i = absurd i
  any-drop z h (y ∷ l) g i = go (eq x y) refl
    where
      rest : Bool
      rest = any (λ (y : Float). eq y z) l

      go : (b : Bool) → eq x y ≡ b → T (eq x z || any (λ (y : Float). eq y z) (cond b l (y ∷ l)))
      go true e = elim (or_split (eq y z) rest i) [
        | inl q ↦ or_l (eq x z) rest (eq-key x z f h (key-eq x y f g.0 (subst T (sym e) tt) ∙ key-eq y z g.0 h q))
        | inr q ↦ or_r (eq x z) rest q
      ]
      go false e = or_r (eq x z) (eq y z || rest) i

dedup-chain : (l : List Float) → Every FiniteDouble l → Rising l → Chain Lt (dedup l)
unfolding dedup
dedup-chain [] f r = tt
dedup-chain (x ∷ l) f r =
    chain-drop x f.0 (dedup l) (every-dedup FiniteDouble l f.1)
    (every-dedup (λ (y : Float). T (le x y)) l
    (every-zip FiniteDouble (λ (y : Float). total_key x ≤ total_key y) (λ (y : Float). T (le x y)) (λ y g h. total-le x y f.0 g h) l f.1 r.0)) (dedup-chain l f.1 r.1)

dedup-has : (l : List Float) → Every FiniteDouble l → Every (λ (z : Float). T (any (λ (y : Float). eq y z) (dedup l))) l
unfolding dedup
dedup-has [] f = tt
dedup-has (x ∷ l) f = (
  or_l (eq x x) (any (λ (y : Float). eq y x) (drop_equal x (dedup l))) (eq-key x x f.0 f.0 refl),
  every-zip FiniteDouble (λ (z : Float). T (any (λ (y : Float). eq y z) (dedup l))) (λ (z : Float). T (any (λ (y : Float). eq y z) (x ∷ drop_equal x (dedup l))))
      (λ z h i. any-drop x f.0 z h (dedup l) (every-dedup FiniteDouble l f.1) i) l f.1 (dedup-has l f.1),
)

-- ---- sorted, equals dropped

pub in-order-every : (P : Float → Type 0) (l : List Float) → Every P l → Every P (in_order l)
in-order-every P l h = every-dedup P (sort_by total_key l) (every-sort total_key P l h)

module _ (l : List Float) (f : Every FiniteDouble l) where
  pub in-order-ascends : Chain Lt (in_order l)
  in-order-ascends = dedup-chain (sort_by total_key l) (every-sort total_key FiniteDouble l f) (sorted-rising l)

  pub in-order-has : Every (λ (x : Float). T (any (λ (y : Float). eq y x) (in_order l))) l
  in-order-has =
      sort-every total_key (λ (x : Float). T (any (λ (y : Float). eq y x) (in_order l))) l
      (dedup-has (sort_by total_key l) (every-sort total_key FiniteDouble l f))
