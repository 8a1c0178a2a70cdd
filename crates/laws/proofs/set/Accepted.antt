-- What the lent samples are where none of 1, 2 and 9 applies. Assumes nothing.
use mathlib.Core.Path.{◌≡◌, refl, sym, ap, ◌∙◌, subst}
use Prim.Native.Nat.{ℕ, zero, suc, ◌-◌, ◌≤◌, ◌<◌}
use native.Mathlib.Nat.{not-suc-le-zero, le_of_suc-le-suc, le_trans, le_of_eq}
use native.Mathlib.Omega.{arith}
use native.Mathlib.Decide.{dec_le}
use mathlib.Core.Bool.{Bool, true, false, not, ◌&&◌}
use mathlib.Core.List.{List, [], ◌∷◌, ◌++◌}
use lib.Dec.{T, leb, ltb, eqb, lit<, eqb→eq, leb→le}
use lib.ListN.{length, get_or, drop}
use lib.Ieee.{Float, is_nan}
use lib.Ieee.Fits.{and_l, and_r, eq→eqb}
use borrow.Author.Tests.{ltb-false}
use Rattle.definitions.specs.Lists.{any, all, zip_with, below}
use Rattle.definitions.specs.Doubles.{ascending}
use Rattle.definitions.specs.ClipSet.{ClipSet, max_samples, mark_value, mark_block, any_unstorable}
use Rattle.definitions.specs.Samples.{Samples, clip_begin, clip_end, clip_times, unlike_lengths, samples1, nan_value, samples2, bad_marks, closes, samples9, samples_number}
use Rattle.laws.proofs.list.Tests.{or-false, and-false, not-false, passed}
use Rattle.laws.specs.list.Every.{Every}
use Rattle.laws.proofs.list.Every.{every_map, every-at, every_take, every_drop, any-every, zip-at}
use Rattle.laws.specs.list.Places.{Fits, Ascending}
use Rattle.laws.specs.set.Stored.{Stored}
use Rattle.laws.proofs.set.Stored.{all-stored, ascending-strict, strict-weak, stored-ascending}
use Rattle.laws.specs.set.Accepted.{Accepted}

-- ---- the parts: by `closes`, each clip's part lies inside the list, and the last ends it

-- where clip i begins, if the first begins at e
abbrev begin_from : ℕ → List ℕ → ℕ → ℕ
begin_from e ends zero = e
begin_from e ends (suc i) = get_or ends i 0

begins : (ends : List ℕ) (i : ℕ) → clip_begin ends i ≡ begin_from 0 ends i
unfolding clip_begin
begins ends zero = refl
begins ends (suc i) = refl

closed-below : (e : ℕ) (ends : List ℕ) (len : ℕ) → T (closes e ends len) → e ≤ len
unfolding closes
closed-below e [] len h = le_of_eq (eqb→eq e len h)
closed-below e (d ∷ ends) len h =
    le_trans (leb→le e d (and_l (leb e d) (closes d ends len) h)) (closed-below d ends len (and_r (leb e d) (closes d ends len) h))

closed-part : (e : ℕ) (ends : List ℕ) (len : ℕ) → T (closes e ends len) → (i : ℕ) → i < length ends → (begin_from e ends i ≤ get_or ends i 0) × (get_or ends i 0 ≤ len)
unfolding closes
closed-part e [] len h i l = absurd (not-suc-le-zero l)
closed-part e (d ∷ ends) len h zero l = (leb→le e d (and_l (leb e d) (closes d ends len) h), closed-below d ends len (and_r (leb e d) (closes d ends len) h))
closed-part e (d ∷ ends) len h (suc zero) l = closed-part d ends len (and_r (leb e d) (closes d ends len) h) zero (le_of_suc-le-suc l)
closed-part e (d ∷ ends) len h (suc (suc i)) l = closed-part d ends len (and_r (leb e d) (closes d ends len) h) (suc i) (le_of_suc-le-suc l)

-- ---- a test of each of 0, 1, .., n - 1

all_append : (p : ℕ → Bool) (xs ys : List ℕ) → T (all p (xs ++ ys)) → T (all p xs) × T (all p ys)
all_append p [] ys h = (tt, h)
all_append p (x ∷ xs) ys h = go (p x) h (all_append p xs ys)
  where
    go : (b : Bool) → T (b && all p (xs ++ ys)) → (T (all p (xs ++ ys)) → T (all p xs) × T (all p ys)) → T (b && all p xs) × T (all p ys)
    go true h f = f h
    go false h f = absurd h

all-below : (p : ℕ → Bool) (n : ℕ) → T (all p (below n)) → (i : ℕ) → i < n → T (p i)
all-below p zero h i l = absurd (not-suc-le-zero l)
all-below p (suc n) h i l =
    let a = all_append p (below n) (n ∷ []) h in
    elim (dec_le (suc i) n) [ yes k ↦ all-below p n a.0 i k | no k ↦ subst (λ (j : ℕ). T (p j)) (same n i l k) (and_l (p n) true a.1) ]
  where
    same : (n i : ℕ) → i < suc n → ¬ (suc i ≤ n) → n ≡ i
    same n i l k = omega arith

-- ---- the tests that failed

module _ (set : ClipSet) (s : Samples) where
  pub record Lengths : Type 0 where
    pub few : length s.times ≤ max_samples
    pub values : length s.values ≡ length s.times
    pub marks : length s.marks ≡ length s.times
    pub ends : length s.ends ≡ set.clips

  lengths : samples1 set s ≡ false → Lengths
  unfolding samples1 unlike_lengths
  lengths e =
      let n = or-false _ (not (eqb (length s.ends) set.clips)) e in
      let m = or-false _ (not (eqb (length s.marks) (length s.times))) n.0 in
      let v = or-false (ltb max_samples (length s.times)) (not (eqb (length s.values) (length s.times))) m.0 in
      record {
        few = ltb-false max_samples (length s.times) v.0;
        values = eqb→eq (length s.values) (length s.times) (not-false (eqb (length s.values) (length s.times)) v.1);
        marks = eqb→eq (length s.marks) (length s.times) (not-false (eqb (length s.marks) (length s.times)) m.1);
        ends = eqb→eq (length s.ends) set.clips (not-false (eqb (length s.ends) set.clips) n.1);
      }

numbers : (vs : List Float) (ms : List ℕ) (n : ℕ) → length vs ≡ n → length ms ≡ n → any (λ (b : Bool). b) (zip_with nan_value vs ms) ≡ false
    → (i : ℕ) (d : Float) (m : ℕ) → i < n → get_or ms i m ≡ mark_value → is_nan (get_or vs i d) ≡ false
numbers vs ms n p q e i d m l z =
    let a : i < length vs = omega arith in
    let b : i < length ms = omega arith in
    let h : i < length (zip_with nan_value vs ms) = rw (length_both vs ms (p ∙ sym q)) a in
    and-false (eqb (get_or ms i m) mark_value) (is_nan (get_or vs i d))
    (sym (zip-at nan_value vs ms i d m false a b) ∙ every-at (λ (b : Bool). b ≡ false) (zip_with nan_value vs ms) i false (any-every (λ (b : Bool). b) (zip_with nan_value vs ms) e) h)
    (eq→eqb z)
  where
    length_both : (vs : List Float) (ms : List ℕ) → length vs ≡ length ms → length (zip_with nan_value vs ms) ≡ length vs
    length_both [] ms e = refl
    length_both (v ∷ vs) [] e = absurd (omega arith)
    length_both (v ∷ vs) (m ∷ ms) e = ap suc (length_both vs ms (omega arith))

marks-low : (marks : List ℕ) → bad_marks marks ≡ false → Every (λ (m : ℕ). m ≤ mark_block) marks
unfolding bad_marks
marks-low marks e =
    every_map (λ (m : ℕ). ltb mark_block m ≡ false) (λ (m : ℕ). m ≤ mark_block) (λ m h. ltb-false mark_block m h) marks (any-every (λ (m : ℕ). ltb mark_block m) marks e)

pub record SamplesPass (set : ClipSet) (s : Samples) : Type 0 where
  pub not1 : samples1 set s ≡ false
  pub storable : any_unstorable s.times ≡ false
  pub numbers : any (λ (b : Bool). b) (zip_with nan_value s.values s.marks) ≡ false
  pub marks : bad_marks s.marks ≡ false
  pub closing : T (closes 0 s.ends (length s.times))
  pub strictly : T (all (λ (i : ℕ). ascending (clip_times s i)) (below (length s.ends)))

pub samples-pass : (set : ClipSet) (s : Samples) → samples_number set s ≡ 0 → SamplesPass set s
unfolding samples_number samples2 samples9
samples-pass set s e =
    let p1 = passed 1 (samples1 set s) _ (lit< tt) e in
    let p2 = passed 2 (samples2 s.times s.values s.marks) _ (lit< tt) p1.1 in
    let p9 = passed 9 (samples9 s) _ (lit< tt) p2.1 in
    let n = or-false (any_unstorable s.times) (any (λ (b : Bool). b) (zip_with nan_value s.values s.marks)) p2.0 in
    let a = or-false _ (not (all (λ (i : ℕ). ascending (clip_times s i)) (below (length s.ends)))) p9.0 in
    let m = or-false (bad_marks s.marks) (not (closes 0 s.ends (length s.times))) a.0 in
    record {
      not1 = p1.0;
      storable = n.0;
      numbers = n.1;
      marks = m.0;
      closing = not-false (closes 0 s.ends (length s.times)) m.1;
      strictly = not-false (all (λ (i : ℕ). ascending (clip_times s i)) (below (length s.ends))) a.1;
    }

pub accepted : (set : ClipSet) (s : Samples) → Every Fits s.times → samples_number set s ≡ 0 → Accepted set s
accepted set s f e =
    let p = samples-pass set s e in
    let l = lengths set s p.not1 in
    let part : (i : ℕ) → i < set.clips → (clip_begin s.ends i ≤ clip_end s.ends i) × (clip_end s.ends i ≤ length s.times) =
    λ i h. rw (begins s.ends i) (unfold clip_end in closed-part 0 s.ends (length s.times) p.closing i (omega (arith, l.ends))) in
    record {
      few = l.few;
      values = l.values;
      marks = l.marks;
      ends = l.ends;
      stored = all-stored s.times f p.storable;
      marked = marks-low s.marks p.marks;
      number = numbers s.values s.marks (length s.times) l.values l.marks p.numbers;
      from = λ i h. (part i h).0;
      inside = λ i h. (part i h).1;
      strictly = λ i h. ascending-strict (clip_times s i) (all-below (λ (i : ℕ). ascending (clip_times s i)) (length s.ends) p.strictly i (omega (arith, l.ends)));
    }

-- for the held reading's search
pub clip-stored : (s : Samples) (i : ℕ) → Every Stored s.times → Every Stored (clip_times s i)
unfolding clip_times
clip-stored s i h = every_take Stored (clip_end s.ends i - clip_begin s.ends i) (drop (clip_begin s.ends i) s.times) (every_drop Stored (clip_begin s.ends i) s.times h)

pub clip-ascending : (set : ClipSet) (s : Samples) → Accepted set s → (i : ℕ) → i < set.clips → Ascending (clip_times s i)
clip-ascending set s a i h =
    let c = clip-stored s i a.stored in
    stored-ascending (clip_times s i) c (strict-weak (clip_times s i) c (a.strictly i h))
