-- The numbers of the sets' own samples, one after the other, are the number of all; and where that is 0, so is each. Assumes nothing.
use Prim.Native.Nat.{ℕ, zero, suc, ◌+◌, ◌≤◌, ◌<◌}
use native.Mathlib.Omega.{arith}
use mathlib.Core.Path.{◌≡◌, refl, sym, ap, ◌∙◌, subst}
use mathlib.Core.Bool.{Bool, true, false, ◌||◌, cond}
use mathlib.Core.List.{List, [], ◌∷◌}
use mathlib.Core.Option.{some}
use lib.Dec.{eqb}
use lib.ListN.{length, get_or, drop, get_elem?}
use lib.Ieee.{nan}
use Rattle.laws.specs.list.Every.{Every}
use Rattle.laws.proofs.list.Tests.{passed}
use Rattle.laws.proofs.list.Every.{any-every, every_drop}
use Rattle.definitions.specs.Lists.{◌if◌else◌, any}
use Rattle.definitions.specs.ClipSet.{ClipSet, mark_none}
use Rattle.definitions.specs.Samples.{Samples, samples2, samples9, samples_number}
use Rattle.dispatch.specs.SetSamples.{SetSamples, own_samples, samples_or, sets1, set_samples_number}
use Rattle.set_samples.specs.Parting.{earlier, between, OwnAt}
use Rattle.set_samples.proofs.Misshapen.{parts}
use Rattle.set_samples.proofs.Walk.{Before, before-all, before-next, none_left, own_in, own-next, own-number, samples-room, ends-room}

abbrev unstorable : Samples → Bool
unstorable own = samples2 own.times own.values own.marks

-- the number of these samples, where w was found before them
abbrev number_after : ℕ → List Samples → ℕ
number_after w l = 2 if eqb w 2 || any unstorable l else 9 if eqb w 9 || any samples9 l else 0

-- w found before, b and c the next part's tests, r and q those of the rest
fold : (u v b c r q : Bool) → (2 if u || (b || r) else 9 if v || (c || q) else 0)
    ≡ (2 if eqb (earlier u v (2 if b else 9 if c else 0)) 2 || r else 9 if eqb (earlier u v (2 if b else 9 if c else 0)) 9 || q else 0)
fold true v b c r q = refl
fold false v true c r q = refl
fold false true false true true q = refl
fold false true false true false q = refl
fold false true false false true q = refl
fold false true false false false q = refl
fold false false false true true q = refl
fold false false false true false q = refl
fold false false false false true q = refl
fold false false false false false q = refl

-- a number that is 2, 9 or 0
abbrev Plain : ℕ → Type 0
Plain w = w ≡ (2 if eqb w 2 else 9 if eqb w 9 else 0)

earlier-plain : (u v : Bool) (n : ℕ) → Plain (earlier u v n)
earlier-plain true v n = refl
earlier-plain false v n = go (eqb n 2) v (eqb n 9)
  where
    go : (p q r : Bool) → Plain (cond p 2 (cond q 9 (cond r 9 0)))
    go true q r = refl
    go false true r = refl
    go false false true = refl
    go false false false = refl

nothing_left : (w : ℕ) → Plain w → w ≡ number_after w []
nothing_left w e = e ∙ go (eqb w 2) (eqb w 9)
  where
    go : (p q : Bool) → (2 if p else 9 if q else 0) ≡ (2 if p || false else 9 if q || false else 0)
    go true q = refl
    go false true = refl
    go false false = refl

-- a set with so many clips
abbrev bare : ℕ → ClipSet
bare n = record { clips = n; active = []; knots = []; blocks = []; default = record { mark = mark_none; value = nan }; interpolate_missing = false }

-- the entry that what is left begins with
elem-drop : {A : Type 0} (l r : List A) (k : ℕ) (x : A) → drop k l ≡ x ∷ r → get_elem? l k ≡ some x
elem-drop {A = A} l r k x e = at l k ∙ ap (λ (m : List A). get_elem? m 0) e
  where
    at : (l : List A) (k : ℕ) → get_elem? l k ≡ get_elem? (drop k l) 0
    at [] zero = refl
    at [] (suc k) = refl
    at (x ∷ l) zero = refl
    at (x ∷ l) (suc k) = at l k

module _ (clips : List ℕ) (s : SetSamples) where
  -- before the i-th set: a samples and e ends are judged, w is what was found
  pub record Judging (i a e w : ℕ) : Type 0 where
    pub before : Before clips s i a e
    pub plain : Plain w
    pub number : set_samples_number clips s ≡ number_after w (drop i (own_samples clips s))

  pub begins : sets1 clips s ≡ false → Judging 0 0 0 0
  unfolding set_samples_number
  begins p = record {
    before = before-all clips s (parts clips s p);
    plain = refl;
    number = ap (λ (b : Bool). 1 if b else number_after 0 (own_samples clips s)) p;
  }

  pub ended : (i a e w : ℕ) → length clips ≤ i → Judging i a e w → w ≡ set_samples_number clips s
  ended i a e w h j = nothing_left w j.plain ∙ sym (j.number ∙ ap (number_after w) (none_left clips s i a e j.before h))

  pub next : (i a e w : ℕ) → Judging i a e w → i < length clips → (r v : ℕ)
      → ((set : ClipSet) → set.clips ≡ get_or clips i 0 → r ≡ samples_number set (between s (own_in clips s i a e)))
      → v ≡ earlier (eqb w 2) (eqb w 9) r → Judging (i + 1) (a + get_or s.counts i 0) (e + get_or clips i 0) v
  next i a e w j h r v q f =
      let own = between s (own_in clips s i a e) in
      let r-is : r ≡ (2 if unstorable own else 9 if samples9 own else 0) = q (bare (get_or clips i 0)) refl ∙ own-number clips s i a e j.before h (bare (get_or clips i 0)) refl in
      record {
        before = before-next clips s i a e j.before h;
        plain = subst Plain (sym f) (earlier-plain (eqb w 2) (eqb w 9) r);
        number = j.number ∙ ap (number_after w) (own-next clips s i a e j.before h)
            ∙ fold (eqb w 2) (eqb w 9) (unstorable own) (samples9 own) (any unstorable (drop (i + 1) (own_samples clips s))) (any samples9 (drop (i + 1) (own_samples clips s)))
            ∙ ap (λ (m : ℕ). number_after m (drop (i + 1) (own_samples clips s))) (ap (earlier (eqb w 2) (eqb w 9)) (sym r-is) ∙ sym f);
      }

  -- ---- of samples that are accepted for every set

  module _ (z : set_samples_number clips s ≡ 0) where
    told : (sets1 clips s ≡ false) × (any unstorable (own_samples clips s) ≡ false) × (any samples9 (own_samples clips s) ≡ false)
    unfolding set_samples_number
    told =
        let one = passed 1 (sets1 clips s) _ (omega arith) z in
        let two = passed 2 (any unstorable (own_samples clips s)) _ (omega arith) one.1 in
        (one.0, two.0, (passed 9 (any samples9 (own_samples clips s)) _ (omega arith) two.1).0)

    pub starts : Before clips s 0 0 0
    starts = before-all clips s (parts clips s told.0)

    pub found : (k a e : ℕ) → Before clips s k a e → k < length clips → OwnAt clips s k (own_in clips s k a e)
    found k a e b h =
        let own = between s (own_in clips s k a e) in
        let room = samples-room clips s k a e b h in
        let not2 : unstorable own ≡ false = of-own (λ (o : Samples). unstorable o) told.1 in
        let not9 : samples9 own ≡ false = of-own samples9 told.2 in
        record {
          forward = omega arith;
          in-times = room;
          in-values = omega (arith, room, b.parts.values-alike);
          in-marks = omega (arith, room, b.parts.marks-alike);
          ends-forward = omega arith;
          in-ends = ends-room clips s k a e b h;
          is = ap samples_or (elem-drop (own_samples clips s) _ k own (own-next clips s k a e b h));
          accepted = λ set q. own-number clips s k a e b h set q ∙ rw (not2, not9) refl;
        }
      where
        of-own : (p : Samples → Bool) → any p (own_samples clips s) ≡ false → p (between s (own_in clips s k a e)) ≡ false
        of-own p t = (subst (Every (λ (o : Samples). p o ≡ false)) (own-next clips s k a e b h) (every_drop (λ (o : Samples). p o ≡ false) k (own_samples clips s) (any-every p (own_samples clips s) t))).0
