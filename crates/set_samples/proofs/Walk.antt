-- The walk over the sets: each set's own samples lie within the lists, and are what is found there. Assumes nothing.
use Prim.Native.Nat.{ℕ, suc, ◌+◌, ◌-◌, ◌≤◌, ◌<◌}
use native.Mathlib.Omega.{arith}
use mathlib.Core.Path.{◌≡◌, refl, sym, ap, ◌∙◌}
use mathlib.Core.Bool.{Bool, true, false}
use mathlib.Core.List.{List, [], ◌∷◌}
use lib.Dec.{eqb, ltb}
use lib.ListN.{length, get_or, take, drop, length-drop, drop_of_length-le}
use lib.Seq.{drop-cons, drop-drop, length-take-le}
use borrow.Author.Tests.{eq-eqb}
use Rattle.laws.proofs.list.Every.{any-every, every-at}
use Rattle.definitions.specs.Lists.{◌if◌else◌}
use Rattle.definitions.specs.ClipSet.{ClipSet, max_samples}
use Rattle.definitions.specs.Samples.{Samples, unlike_lengths, samples1, samples2, samples9, samples_number}
use Rattle.dispatch.specs.SetSamples.{SetSamples, sum, own_of, left_of, first_count, own_samples}
use Rattle.set_samples.specs.declared.Own.{Own}
use Rattle.set_samples.specs.Parting.{between}
use Rattle.set_samples.proofs.Misshapen.{Parts}

-- what is left of all samples from the i-th set on, where a samples and e ends are of the sets before it
abbrev after : SetSamples → (i a e : ℕ) → SetSamples
after s i a e = record { counts = drop i s.counts; ends = drop e s.ends; times = drop a s.times; values = drop a s.values; marks = drop a s.marks }

module _ (clips : List ℕ) (s : SetSamples) where
  pub record Before (i a e : ℕ) : Type 0 where
    pub parts : Parts clips s
    pub within : i ≤ length clips
    pub samples-left : a + sum (drop i s.counts) ≡ length s.times
    pub ends-left : e + sum (drop i clips) ≡ length s.ends
    pub left : drop i (own_samples clips s) ≡ own_samples (drop i clips) (after s i a e)

  pub before-all : Parts clips s → Before 0 0 0
  before-all p = record { parts = p; within = omega arith; samples-left = omega (arith, p.samples-are); ends-left = omega (arith, p.ends-are); left = refl }

  pub none_left : (i a e : ℕ) → Before i a e → length clips ≤ i → drop i (own_samples clips s) ≡ []
  unfolding own_samples
  none_left i a e b h = b.left ∙ ap (λ (l : List ℕ). own_samples l (after s i a e)) (drop_of_length-le clips h)

  -- where the i-th set's own samples are
  abbrev pub own_in : (i a e : ℕ) → Own
  own_in i a e = record { begin = a; end = a + get_or s.counts i 0; first = e; last = e + get_or clips i 0 }

  module _ (i a e : ℕ) (b : Before i a e) (h : i < length clips) where
    counts-next : drop i s.counts ≡ get_or s.counts i 0 ∷ drop (suc i) s.counts
    counts-next = drop-cons s.counts i 0 (omega (arith, b.parts.counts-are))

    clips-next : drop i clips ≡ get_or clips i 0 ∷ drop (suc i) clips
    clips-next = drop-cons clips i 0 h

    pub samples-room : a + get_or s.counts i 0 ≤ length s.times
    samples-room = omega (arith, b.samples-left, ap sum counts-next)

    pub ends-room : e + get_or clips i 0 ≤ length s.ends
    ends-room = omega (arith, b.ends-left, ap sum clips-next)

    -- ---- the set's own samples

    abbrev own : Samples
    own = own_of (get_or s.counts i 0) (get_or clips i 0) (after s i a e)

    own-there : own ≡ between s (own_in i a e)
    own-there = λ k. record {
      times = part-to a (get_or s.counts i 0) s.times k;
      values = part-to a (get_or s.counts i 0) s.values k;
      marks = part-to a (get_or s.counts i 0) s.marks k;
      ends = part-to e (get_or clips i 0) s.ends k;
    }
      where
        part-to : {A : Type 0} (n m : ℕ) (l : List A) → take m (drop n l) ≡ take (n + m - n) (drop n l)
        part-to n m l = let z : m ≡ n + m - n = omega arith in ap (λ (j : ℕ). take j (drop n l)) z

    left_is : left_of (get_or s.counts i 0) (get_or clips i 0) (after s i a e) ≡ after s (i + 1) (a + get_or s.counts i 0) (e + get_or clips i 0)
    left_is = λ k. record {
      counts = drop-drop 1 i s.counts k;
      ends = drop-drop (get_or clips i 0) e s.ends k;
      times = drop-drop (get_or s.counts i 0) a s.times k;
      values = drop-drop (get_or s.counts i 0) a s.values k;
      marks = drop-drop (get_or s.counts i 0) a s.marks k;
    }

    own-left : drop i (own_samples clips s) ≡ own ∷ own_samples (drop (suc i) clips) (after s (i + 1) (a + get_or s.counts i 0) (e + get_or clips i 0))
    unfolding own_samples
    own-left =
        b.left
        ∙ ap (λ (l : List ℕ). own_samples l (after s i a e)) clips-next
        ∙ ap (λ (c : ℕ). own_of c (get_or clips i 0) (after s i a e) ∷ own_samples (drop (suc i) clips) (left_of c (get_or clips i 0) (after s i a e))) (ap first_count counts-next)
        ∙ ap (λ (x : SetSamples). own ∷ own_samples (drop (suc i) clips) x) left_is

    behind : drop (i + 1) (own_samples clips s) ≡ own_samples (drop (suc i) clips) (after s (i + 1) (a + get_or s.counts i 0) (e + get_or clips i 0))
    behind = sym (drop-drop 1 i (own_samples clips s)) ∙ ap (drop 1) own-left

    pub own-next : drop i (own_samples clips s) ≡ between s (own_in i a e) ∷ drop (i + 1) (own_samples clips s)
    own-next = own-left ∙ ap (λ (l : List Samples). own ∷ l) (sym behind) ∙ ap (λ (o : Samples). o ∷ drop (i + 1) (own_samples clips s)) own-there

    pub before-next : Before (i + 1) (a + get_or s.counts i 0) (e + get_or clips i 0)
    before-next =
        let one : i + 1 ≡ suc i = omega arith in
        record {
          parts = b.parts;
          within = omega arith;
          samples-left = rw one (omega (arith, b.samples-left, ap sum counts-next));
          ends-left = rw one (omega (arith, b.ends-left, ap sum clips-next));
          left = behind ∙ ap (λ (n : ℕ). own_samples (drop n clips) (after s (i + 1) (a + get_or s.counts i 0) (e + get_or clips i 0))) (sym one);
        }

    -- ---- their number

    part_count : {A : Type 0} (n m : ℕ) (l : List A) → n + m ≤ length l → length (take m (drop n l)) ≡ m
    part_count n m l g = length-take-le m (drop n l) (omega (arith, length-drop n l))

    -- 1 does not apply to them
    own-not1 : (set : ClipSet) → set.clips ≡ get_or clips i 0 → samples1 set own ≡ false
    unfolding samples1 unlike_lengths
    own-not1 set q =
        let c = get_or s.counts i 0 in
        let t = part_count a c s.times samples-room in
        let v = part_count a c s.values (omega (arith, samples-room, b.parts.values-alike)) in
        let m = part_count a c s.marks (omega (arith, samples-room, b.parts.marks-alike)) in
        let k = part_count e (get_or clips i 0) s.ends ends-room in
        let f = every-at (λ (n : ℕ). ltb max_samples n ≡ false) s.counts i 0 (any-every (λ (n : ℕ). ltb max_samples n) s.counts b.parts.few) (omega (arith, b.parts.counts-are)) in
        rw (t, v, m, k, q, f, is_same c, is_same (get_or clips i 0)) refl
      where
        is_same : (n : ℕ) → eqb n n ≡ true
        is_same n = eq-eqb n n refl

    abbrev number_of : Samples → ℕ
    number_of o = 2 if samples2 o.times o.values o.marks else 9 if samples9 o else 0

    pub own-number : (set : ClipSet) → set.clips ≡ get_or clips i 0 → samples_number set (between s (own_in i a e)) ≡ number_of (between s (own_in i a e))
    unfolding samples_number
    own-number set q = ap (λ (x : Bool). 1 if x else number_of (between s (own_in i a e))) (ap (samples1 set) (sym own-there) ∙ own-not1 set q)
