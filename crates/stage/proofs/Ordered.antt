-- Times in the order of `total_cmp` with equals dropped, one after the other: behind a time stand those above it, and the first of them is the least.
-- Assumes nothing.
use Rattle.std.specs.Prelude.{Option, None, Some}
use mathlib.Core.Path.{◌≡◌, refl, sym, ap, ap₂, ◌∙◌, subst}
use mathlib.Core.Logic.{inl, inr}
use mathlib.Core.Bool.{Bool, true, false, cond}
use mathlib.Core.List.{List, [], ◌∷◌}
use Prim.Native.Nat.{ℕ, ◌+◌, ◌-◌, ◌≤◌, ◌<◌}
use native.Mathlib.Omega.{arith}
use lib.Dec.{T, ltb}
use lib.Ieee.{Float, binary64, to_bits, eq, lt, le}
use borrow.Author.Tests.{ltb-true, ltb-false}
use Rattle.gf.specs.Doubles.{key, total_key}
use Rattle.gf.proofs.KeyLaws.{lt→le, lt-le-trans, bits-lt}
use Rattle.gf.proofs.Units.{same_bits}
use Rattle.definitions.specs.Lists.{keep, sort_by}
use Rattle.definitions.specs.Doubles.{FiniteDouble}
use Rattle.definitions.specs.StageSamples.{drop_equal, dedup}
use Rattle.laws.specs.list.Every.{Every}
use Rattle.laws.proofs.list.Sorting.{every-sort, sort-every}
use Rattle.laws.proofs.list.Every.{every_map, every-zip, every-keep, kept-pass}
use Rattle.laws.proofs.list.InOrder.{total-le, key-lt, key-eq, eq-key, apart-lt, Rising, sorted-rising, every-dedup}
use Rattle.laws.specs.list.Places.{Fits}
use Rattle.window.specs.Bounds.{In}
use Rattle.window.proofs.BoundsLaws.{every_in, in-every}
use Rattle.stage.specs.Ordered.{after}

-- ---- lists

keep_all : (p : Float → Bool) (l : List Float) → Every (λ (x : Float). T (p x)) l → keep p l ≡ l
keep_all p [] h = refl
keep_all p (x ∷ l) h = go (p x) h.0 (keep_all p l h.1)
  where
    go : (b : Bool) → T b → keep p l ≡ l → cond b (x ∷ keep p l) (keep p l) ≡ x ∷ l
    go true t e = ap (λ (k : List Float). x ∷ k) e
    go false t e = absurd t

keep-none : (p : Float → Bool) (l : List Float) → Every (λ (x : Float). T (p x) → ⊥) l → keep p l ≡ []
keep-none p [] h = refl
keep-none p (x ∷ l) h = go (p x) h.0 (keep-none p l h.1)
  where
    go : (b : Bool) → (T b → ⊥) → keep p l ≡ [] → cond b (x ∷ keep p l) (keep p l) ≡ []
    go true f e = absurd (f tt)
    go false f e = e

-- a test that only times pass that pass an earlier one
keep-keep : (p q : Float → Bool) (l : List Float) → Every (λ (x : Float). T (q x) → T (p x)) l → keep q (keep p l) ≡ keep q l
keep-keep p q [] h = refl
keep-keep p q (x ∷ l) h = go (p x) (q x) refl h.0 (keep-keep p q l h.1)
  where
    go : (a b : Bool) → q x ≡ b → (T b → T a) → keep q (keep p l) ≡ keep q l → keep q (cond a (x ∷ keep p l) (keep p l)) ≡ cond b (x ∷ keep q l) (keep q l)
    go true b e f r = ap (λ (c : Bool). cond c (x ∷ keep q (keep p l)) (keep q (keep p l))) e ∙ ap (λ (k : List Float). cond b (x ∷ k) k) r
    go false true e f r = absurd (f tt)
    go false false e f r = r

pub in-keep : (p : Float → Bool) (x : Float) (l : List Float) → In x l → T (p x) → In x (keep p l)
in-keep p x [] i h = absurd i
in-keep p x (y ∷ l) (inl e) h = go (p y) (subst (λ (z : Float). T (p z)) e h)
  where
    go : (b : Bool) → T b → In x (cond b (y ∷ keep p l) (keep p l))
    go true t = inl e
    go false t = absurd t
in-keep p x (y ∷ l) (inr i) h = go (p y) (in-keep p x l i h)
  where
    go : (b : Bool) → In x (keep p l) → In x (cond b (y ∷ keep p l) (keep p l))
    go true r = inr r
    go false r = r

-- ---- tests

same_bool : (a b : Bool) → (T a → T b) → (T b → T a) → a ≡ b
same_bool true true f g = refl
same_bool true false f g = absurd (f tt)
same_bool false true f g = absurd (g tt)
same_bool false false f g = refl

is_false : (b : Bool) → (T b → ⊥) → b ≡ false
is_false true f = absurd (f tt)
is_false false f = refl

is_true : (b : Bool) → T b → b ≡ true
is_true true f = refl
is_true false f = absurd f

-- one number in the order of `total_cmp` is one double
same_key : (a b : ℕ) → a < 0x1_0000_0000_0000_0000 → b < 0x1_0000_0000_0000_0000 → (p q : Bool) → ltb a 0x8000_0000_0000_0000 ≡ p → ltb b 0x8000_0000_0000_0000 ≡ q
    → cond p (0x8000_0000_0000_0000 + a) (0xffff_ffff_ffff_ffff - a) ≡ cond q (0x8000_0000_0000_0000 + b) (0xffff_ffff_ffff_ffff - b) → a ≡ b
same_key a b la lb true true p q h = omega arith
same_key a b la lb true false p q h = let i = ltb-true a 0x8000_0000_0000_0000 p in let j = ltb-false b 0x8000_0000_0000_0000 q in absurd (omega arith)
same_key a b la lb false true p q h = let i = ltb-false a 0x8000_0000_0000_0000 p in let j = ltb-true b 0x8000_0000_0000_0000 q in absurd (omega arith)
same_key a b la lb false false p q h = omega arith

pub total-same : (x y : Float) → Fits x → Fits y → total_key x ≡ total_key y → x ≡ y
unfolding total_key
total-same x y p q h =
    same_bits binary64 x y p q
    (same_key (to_bits binary64 x) (to_bits binary64 y) (bits-lt x p) (bits-lt y q) (ltb (to_bits binary64 x) 0x8000_0000_0000_0000) (ltb (to_bits binary64 y) 0x8000_0000_0000_0000) refl refl h)

-- ---- a sorted list

rising-keep : (p : Float → Bool) (l : List Float) → Rising l → Rising (keep p l)
rising-keep p [] r = tt
rising-keep p (x ∷ l) r = go (p x) (rising-keep p l r.1)
  where
    go : (b : Bool) → Rising (keep p l) → Rising (cond b (x ∷ keep p l) (keep p l))
    go true k = (every-keep (λ (y : Float). total_key x ≤ total_key y) p l r.0, k)
    go false k = k

-- ---- equals dropped

module _ (h : Float) (fh : FiniteDouble h) where
  -- of one number the same equals are dropped
  drop-same : (y : Float) → FiniteDouble y → T (eq h y) → (l : List Float) → Every FiniteDouble l → drop_equal y l ≡ drop_equal h l
  unfolding drop_equal
  drop-same y fy e [] f = refl
  drop-same y fy e (z ∷ l) f =
      let k = key-eq h y fh fy e in
      ap (λ (b : Bool). cond b l (z ∷ l))
      (same_bool (eq y z) (eq h z) (λ u. eq-key h z fh f.0 (k ∙ key-eq y z fy f.0 u)) (λ u. eq-key y z fy f.0 (sym k ∙ key-eq h z fh f.0 u)))

  -- behind h stand the times above it
  behind : (l : List Float) → Every FiniteDouble l → Every (λ (y : Float). T (le h y)) l → Rising l → drop_equal h (dedup l) ≡ dedup (keep (λ (x : Float). lt h x) l)
  unfolding drop_equal dedup
  behind [] f m r = refl
  behind (y ∷ l) f m r = go (eq h y) refl (behind l f.1 m.1 r.1)
    where
      go : (b : Bool) → eq h y ≡ b → drop_equal h (dedup l) ≡ dedup (keep (λ (x : Float). lt h x) l) → cond (eq h y) (drop_equal y (dedup l)) (y ∷ drop_equal y (dedup l)) ≡ dedup (cond (lt h y) (y ∷ keep (λ (x : Float). lt h x) l) (keep (λ (x : Float). lt h x) l))
      go true e rest =
          let k = key-eq h y fh f.0 (subst T (sym e) tt) in
          let n : lt h y ≡ false = is_false (lt h y) (λ u. let q = key-lt h y fh f.0 u in omega arith) in
          ap (λ (b : Bool). cond b (drop_equal y (dedup l)) (y ∷ drop_equal y (dedup l))) e
          ∙ drop-same y f.0 (subst T (sym e) tt) (dedup l) (every-dedup FiniteDouble l f.1)
          ∙ rest
          ∙ ap (λ (b : Bool). dedup (cond b (y ∷ keep (λ (x : Float). lt h x) l) (keep (λ (x : Float). lt h x) l))) (sym n)
      go false e rest =
          let u : T (lt h y) = apart-lt h y fh f.0 m.0 (λ q. subst T e q) in
          let a : keep (λ (x : Float). lt h x) l ≡ l =
          keep_all (λ (x : Float). lt h x) l
          (every-zip FiniteDouble (λ (z : Float). total_key y ≤ total_key z) (λ (z : Float). T (lt h z))
          (λ z fz q. lt-le-trans h y z fh.fitting f.0.fitting fz.fitting u (total-le y z f.0 fz q)) l f.1 r.0) in
          ap (λ (b : Bool). cond b (drop_equal y (dedup l)) (y ∷ drop_equal y (dedup l))) e
          ∙ ap₂ (λ (b : Bool) (k : List Float). dedup (cond b (y ∷ k) k)) (sym (is_true (lt h y) u)) (sym a)

  -- the least of a sorted list is its first
  first-least : (l : List Float) → Every FiniteDouble l → Rising l → Every (λ (y : Float). total_key h ≤ total_key y) l → In h l → dedup l ≡ h ∷ dedup (keep (λ (x : Float). lt h x) l)
  unfolding dedup
  first-least [] f r m i = absurd i
  first-least (y ∷ l) f r m i =
      let e : y ≡ h = total-same y h f.0.fitting fh.fitting (same (total_key y) (total_key h) (least i) m.0) in
      ap (λ (z : Float). z ∷ drop_equal z (dedup l)) e
      ∙ ap (λ (k : List Float). h ∷ k) (behind l f.1 (every-zip FiniteDouble (λ (z : Float). total_key h ≤ total_key z) (λ (z : Float). T (le h z)) (λ z fz q. total-le h z fh fz q) l f.1 m.1) r.1 ∙ ap dedup (sym (skipped e)))
    where
      least : In h (y ∷ l) → total_key y ≤ total_key h
      least (inl e) = subst (λ (z : Float). total_key z ≤ total_key h) e (omega arith)
      least (inr j) = in-every (λ (z : Float). total_key y ≤ total_key z) h l r.0 j

      same : (a b : ℕ) → a ≤ b → b ≤ a → a ≡ b
      same a b p q = omega arith

      skipped : y ≡ h → cond (lt h y) (y ∷ keep (λ (x : Float). lt h x) l) (keep (λ (x : Float). lt h x) l) ≡ keep (λ (x : Float). lt h x) l
      skipped e =
          let n : lt h y ≡ false = is_false (lt h y) (λ u. let q = key-lt h y fh f.0 u in let k = ap key e in omega arith) in
          ap (λ (b : Bool). cond b (y ∷ keep (λ (x : Float). lt h x) l) (keep (λ (x : Float). lt h x) l)) n

-- ---- the times behind t

-- the first of the times above t in the order of `total_cmp`, or none is above it
abbrev pub NextIs : List Float → Float → Option Float → Type 0
NextIs l t (Some h) = In h l × T (lt t h) × Every (λ (x : Float). T (lt t x) → total_key h ≤ total_key x) l
NextIs l t None = Every (λ (x : Float). T (lt t x) → ⊥) l

module _ (l : List Float) (f : Every FiniteDouble l) where
  sorted-finite : Every FiniteDouble (sort_by total_key l)
  sorted-finite = every-sort total_key FiniteDouble l f

  -- from before all of them on
  pub after-all : (t : Float) → Every (λ (x : Float). T (lt t x)) l → after l t ≡ dedup (sort_by total_key l)
  unfolding after
  after-all t h = ap dedup (keep_all (λ (x : Float). lt t x) (sort_by total_key l) (every-sort total_key (λ (x : Float). T (lt t x)) l h))

  module _ (t : Float) (ft : Fits t) where
    pub after_none : NextIs l t None → after l t ≡ []
    unfolding after dedup
    after_none h = ap dedup (keep-none (λ (x : Float). lt t x) (sort_by total_key l) (every-sort total_key (λ (x : Float). T (lt t x) → ⊥) l h))

    pub after_next : (h : Float) → NextIs l t (Some h) → after l t ≡ h ∷ after l h
    unfolding after
    after_next h n =
        let fh = in-every FiniteDouble h l f n.0 in
        let s = sort_by total_key l in
        let k = keep (λ (x : Float). lt t x) s in
        first-least h fh k (every-keep FiniteDouble (λ (x : Float). lt t x) s sorted-finite) (rising-keep (λ (x : Float). lt t x) s (sorted-rising l))
        (every-zip (λ (x : Float). T (lt t x)) (λ (x : Float). T (lt t x) → total_key h ≤ total_key x) (λ (x : Float). total_key h ≤ total_key x) (λ x p q. q p) k (kept-pass (λ (x : Float). lt t x) s)
        (every-keep (λ (x : Float). T (lt t x) → total_key h ≤ total_key x) (λ (x : Float). lt t x) s (every-sort total_key (λ (x : Float). T (lt t x) → total_key h ≤ total_key x) l n.2)))
        (in-keep (λ (x : Float). lt t x) h s (in-every (λ (x : Float). In x s) h l (sort-every total_key (λ (x : Float). In x s) l (every_in s)) n.0) n.1)
        ∙ ap (λ (z : List Float). h ∷ dedup z)
        (keep-keep (λ (x : Float). lt t x) (λ (x : Float). lt h x) s
        (every_map FiniteDouble (λ (x : Float). T (lt h x) → T (lt t x)) (λ x q u. lt-le-trans t h x ft fh.fitting q.fitting n.1 (lt→le h x u)) s sorted-finite))

-- ---- each is above the one before

every-other : (P : Float → Type 0) (x : Float) (l : List Float) → Every P l → Every P (drop_equal x l)
unfolding drop_equal
every-other P x [] h = tt
every-other P x (y ∷ l) h = go (eq x y)
  where
    go : (b : Bool) → Every P (cond b l (y ∷ l))
    go true = h.1
    go false = h

every-once : (P : Float → Type 0) (l : List Float) → Every P l → Every P (dedup l)
unfolding dedup
every-once P [] h = tt
every-once P (x ∷ l) h = (h.0, every-other P x (dedup l) (every-once P l h.1))

pub after-rises : (l : List Float) (t h : Float) (r : List Float) → FiniteDouble t → FiniteDouble h → after l t ≡ h ∷ r → key t < key h
unfolding after
after-rises l t h r ft fh e =
    let above = kept-pass (λ (x : Float). lt t x) (sort_by total_key l) in
    key-lt t h ft fh (subst (Every (λ (x : Float). T (lt t x))) e (every-once (λ (x : Float). T (lt t x)) (keep (λ (x : Float). lt t x) (sort_by total_key l)) above)).0
