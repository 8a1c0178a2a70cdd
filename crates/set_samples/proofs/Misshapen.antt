-- The six tests of 1 for the samples of all sets: what they leave, and the number where one fails. Assumes nothing.
use Prim.Native.Nat.{ℕ}
use mathlib.Core.Path.{◌≡◌, refl, ap}
use mathlib.Core.Bool.{Bool, true, false, not}
use mathlib.Core.List.{List}
use lib.Dec.{eqb, ltb, eqb→eq}
use lib.ListN.{length}
use borrow.Author.Tests.{eq-eqb}
use Rattle.laws.proofs.list.Tests.{or-false, not-false}
use Rattle.definitions.specs.Lists.{◌if◌else◌, any}
use Rattle.definitions.specs.ClipSet.{max_samples}
use Rattle.definitions.specs.Samples.{Samples, samples2, samples9}
use Rattle.dispatch.specs.SetSamples.{SetSamples, sum, own_samples, sets1, set_samples_number}

module _ (clips : List ℕ) (s : SetSamples) where
  -- no test of 1 holds
  pub record Parts : Type 0 where
    pub values-alike : length s.values ≡ length s.times
    pub marks-alike : length s.marks ≡ length s.times
    pub counts-are : length s.counts ≡ length clips
    pub few : any (λ (c : ℕ). ltb max_samples c) s.counts ≡ false
    pub samples-are : sum s.counts ≡ length s.times
    pub ends-are : length s.ends ≡ sum clips

  alike : (m n : ℕ) → not (eqb m n) ≡ false → m ≡ n
  alike m n e = eqb→eq m n (not-false (eqb m n) e)

  like : (m n : ℕ) → m ≡ n → not (eqb m n) ≡ false
  like m n h = ap not (eq-eqb m n h)

  pub parts : sets1 clips s ≡ false → Parts
  unfolding sets1
  parts p =
      let f = or-false _ (not (eqb (length s.ends) (sum clips))) p in
      let d = or-false _ (not (eqb (sum s.counts) (length s.times))) f.0 in
      let m = or-false _ (any (λ (c : ℕ). ltb max_samples c) s.counts) d.0 in
      let l = or-false _ (not (eqb (length s.counts) (length clips))) m.0 in
      let k = or-false (not (eqb (length s.values) (length s.times))) (not (eqb (length s.marks) (length s.times))) l.0 in
      record {
        values-alike = alike (length s.values) (length s.times) k.0;
        marks-alike = alike (length s.marks) (length s.times) k.1;
        counts-are = alike (length s.counts) (length clips) l.1;
        few = m.1;
        samples-are = alike (sum s.counts) (length s.times) d.1;
        ends-are = alike (length s.ends) (sum clips) f.1;
      }

  pub parted : Parts → sets1 clips s ≡ false
  unfolding sets1
  parted p =
      rw (
        like (length s.values) (length s.times) p.values-alike,
        like (length s.marks) (length s.times) p.marks-alike,
        like (length s.counts) (length clips) p.counts-are,
        p.few,
        like (sum s.counts) (length s.times) p.samples-are,
        like (length s.ends) (sum clips) p.ends-are,
      ) refl

  abbrev other : ℕ
  other = 2 if any (λ (own : Samples). samples2 own.times own.values own.marks) (own_samples clips s) else 9 if any samples9 (own_samples clips s) else 0

  pub refused : (Parts → ⊥) → 1 ≡ set_samples_number clips s
  unfolding set_samples_number
  refused h = go (sets1 clips s) (λ e. h (parts e))
    where
      go : (b : Bool) → (b ≡ false → ⊥) → 1 ≡ (1 if b else other)
      go true k = refl
      go false k = absurd (k refl)
