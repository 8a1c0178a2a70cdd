-- The runs of sorted places, found from the last place to the first: what the two lists hold at each place. Assumes nothing.
use mathlib.Core.Path.{◌≡◌, refl, sym, ap, ap₂, ◌∙◌, subst}
use mathlib.Core.Bool.{Bool, true, false, cond, true≢false}
use mathlib.Core.List.{List, [], ◌∷◌}
use Prim.Native.Nat.{ℕ, suc, ◌+◌, ◌-◌, ◌≤◌, ◌<◌}
use native.Mathlib.Nat.{add-zero}
use native.Mathlib.Omega.{arith}
use lib.ListN.{length, get_or, take, drop, set, length-drop, length-set}
use lib.Seq.{take_all, drop-length, drop-cons, drop-set-add, drop-set-lt, get_or-set_same}
use lib.Ieee.{Float, nan, eq}
use Rattle.laws.specs.list.Every.{Every}
use Rattle.laws.proofs.list.Every.{every_drop}
use Rattle.lists.specs.Placed.{Inside}
use Rattle.normal_form.specs.Runs.{Run, alone, meets, join, runs, firsts, lasts}

-- ---- lists

module _ {A : Type 0} where
  -- a part that reaches the end
  pub part-rest : (n : ℕ) (l : List A) → take (length l - n) (drop n l) ≡ drop n l
  part-rest n l = take_all (length l - n) (drop n l) (omega (arith, length-drop n l))

  -- a store at the front of a part, and one just before it
  pub front-set : (l : List A) (n : ℕ) (a : A) → drop n (set l n a) ≡ set (drop n l) 0 a
  front-set l n a = rw add-zero at (drop-set-add n l 0 a)

  pub before-set : (l : List A) (n m : ℕ) (a : A) → suc m ≡ n → m < length l → drop m (set l m a) ≡ a ∷ drop n l
  before-set l n m a e h =
      drop-cons (set l m a) m a (omega (arith, length-set l m a))
      ∙ ap₂ (λ (b : A) (r : List A). b ∷ r) (get_or-set_same l m a a h) (drop-set-lt (suc m) l m a (omega arith) ∙ ap (λ (i : ℕ). drop i l) e)

-- ---- one place more

module _ (times : List Float) where
  pub join-same : (i : ℕ) (rs : List Run) → meets times i (firsts rs) ≡ true
      → (0 < length rs) × (length (join times i rs) ≡ length rs) × (firsts (join times i rs) ≡ set (firsts rs) 0 i) × (lasts (join times i rs) ≡ lasts rs)
  unfolding join
  join-same i [] e = absurd (true≢false (sym e))
  join-same i (r ∷ rs) e = (omega arith, rw e, rw e, rw e)

  pub join_apart : (i : ℕ) (rs : List Run) → meets times i (firsts rs) ≡ false → join times i rs ≡ alone i ∷ rs
  unfolding join
  join_apart i [] e = refl
  join_apart i (r ∷ rs) e = rw e

  module _ (P : ℕ → Type 0) where
    join-every : (i : ℕ) (rs : List Run) → P i → Every P (firsts rs) → Every P (lasts rs) → Every P (firsts (join times i rs)) × Every P (lasts (join times i rs))
    unfolding join
    join-every i [] p e f = ((p, tt), (p, tt))
    join-every i (r ∷ rs) p e f = go (eq (get_or times i nan) (get_or times r.first nan))
      where
        go : (b : Bool)
            → Every P (firsts (cond b (record { first = i; last = r.last } ∷ rs) (alone i ∷ r ∷ rs))) × Every P (lasts (cond b (record { first = i; last = r.last } ∷ rs) (alone i ∷ r ∷ rs)))
        go true = ((p, e.1), f)
        go false = ((p, e), (p, f))

    -- the runs have no other places
    pub runs-every : (places : List ℕ) → Every P places → Every P (firsts (runs times places)) × Every P (lasts (runs times places))
    unfolding runs
    runs-every [] e = (tt, tt)
    runs-every (i ∷ places) e = let r = runs-every places e.1 in join-every i (runs times places) e.0 r.0 r.1

-- ---- the loop: the places from i on have been taken, and their runs stand from `at` on

module _ (times : List Float) (places : List ℕ) where
  pub record Standing (first last : List ℕ) (at i : ℕ) : Type 0 where
    pub within : i ≤ at
    pub count : at + length (runs times (drop i places)) ≡ length places
    pub firsts-are : drop at first ≡ firsts (runs times (drop i places))
    pub lasts_are : drop at last ≡ lasts (runs times (drop i places))
    pub first-long : length first ≡ length places
    pub last-long : length last ≡ length places

  none : (l : List ℕ) → length l ≡ length places → drop (length places) l ≡ []
  none l e = ap (λ (n : ℕ). drop n l) (sym e) ∙ drop-length l

  no-runs : runs times (drop (length places) places) ≡ []
  unfolding runs
  no-runs = rw (drop-length places)

  pub standing-start : (first last : List ℕ) → length first ≡ length places → length last ≡ length places → Standing first last (length places) (length places)
  standing-start first last e f = record {
    within = omega arith;
    count = rw no-runs (omega arith);
    firsts-are = none first e ∙ sym (ap firsts no-runs);
    lasts_are = none last f ∙ sym (ap lasts no-runs);
    first-long = e;
    last-long = f;
  }

  abbrev pub here : ℕ → ℕ
  here i = get_or places (i - 1) 0

  module _ (first last : List ℕ) (at i : ℕ) (s : Standing first last at i) (h : 0 < i) where
    R : List Run
    R = runs times (drop i places)

    more : runs times (drop (i - 1) places) ≡ join times (here i) R
    unfolding runs R
    more =
        ap (runs times) (drop-cons places (i - 1) 0 (omega (arith, s.within, s.count))
        ∙ ap (λ (n : ℕ). here i ∷ drop n places) (suc-pred i h))
      where
        suc-pred : (n : ℕ) → 0 < n → suc (n - 1) ≡ n
        suc-pred n h = omega arith

    met : (b : Bool) → meets times (here i) (drop at first) ≡ b → meets times (here i) (firsts R) ≡ b
    unfolding R
    met b e = ap (meets times (here i)) (sym s.firsts-are) ∙ e

    pub standing-same : meets times (here i) (drop at first) ≡ true → Standing (set first at (here i)) last at (i - 1)
    unfolding R
    standing-same e =
        let j = join-same times (here i) R (met true e) in
        record {
          within = omega (arith, s.within);
          count = rw more (omega (arith, j.1, s.count));
          firsts-are = front-set first at (here i) ∙ ap (λ (l : List ℕ). set l 0 (here i)) s.firsts-are ∙ sym (ap firsts more ∙ j.2);
          lasts_are = s.lasts_are ∙ sym (ap lasts more ∙ j.3);
          first-long = length-set first at (here i) ∙ s.first-long;
          last-long = s.last-long;
        }

    pub standing_apart : meets times (here i) (drop at first) ≡ false → Standing (set first (at - 1) (here i)) (set last (at - 1) (here i)) (at - 1) (i - 1)
    unfolding R
    standing_apart e =
        let j = more ∙ join_apart times (here i) R (met false e) in
        let back : suc (at - 1) ≡ at = omega (arith, s.within) in
        let room : at - 1 < length first = omega (arith, s.within, s.count, s.first-long) in
        record {
          within = omega (arith, s.within);
          count = rw j (omega (arith, s.count, s.within));
          firsts-are = before-set first at (at - 1) (here i) back room ∙ ap (λ (l : List ℕ). here i ∷ l) s.firsts-are ∙ sym (ap firsts j);
          lasts_are = before-set last at (at - 1) (here i) back (omega (arith, s.last-long, s.first-long)) ∙ ap (λ (l : List ℕ). here i ∷ l) s.lasts_are ∙ sym (ap lasts j);
          first-long = length-set first (at - 1) (here i) ∙ s.first-long;
          last-long = length-set last (at - 1) (here i) ∙ s.last-long;
        }

  pub standing-inside : (first last : List ℕ) (at i : ℕ) → Standing first last at i → Every (Inside times) places → Every (Inside times) (take (length first - at) (drop at first))
  standing-inside first last at i s e =
      subst (λ (l : List ℕ). Every (Inside times) l) (sym (part-rest at first ∙ s.firsts-are)) (runs-every times (Inside times) (drop i places) (every_drop (Inside times) i places e)).0
