-- The track of the value over keys, written out, is the track of the definitions (`TrackOf`); so there is one, and it is the only one. Assumes nothing.
use mathlib.Core.Path.{◌≡◌, refl, sym, ap, ap₂, ◌∙◌, subst}
use mathlib.Core.Logic.{inl, inr, ⊎_elim}
use mathlib.Core.Bool.{Bool, true, false, not, cond}
use mathlib.Core.List.Memᴰ
use mathlib.Core.List.{List, [], ◌∷◌, map, Memᴰ}
use Prim.Native.Nat.{ℕ, ◌-◌, ◌≤◌, ◌<◌}
use native.Mathlib.Nat.{le_of_eq}
use native.Mathlib.Omega.{arith}
use lib.Dec.{T, T_not, not_T, leb, lit≤}
use lib.Ieee.{Float, is_nan, eq, lt, le}
use Rattle.gf.specs.Doubles.{key, of_key, least, most}
use Rattle.gf.proofs.KeyLaws.{key-of_key, of_key-fits, of_key-finite, of_key-no-nan, finite→key, finite-no-nan, le_is, key→lt, lt→key, key→eq, eq→key}
use Rattle.definitions.specs.declared.Answer.{Answer}
use Rattle.definitions.specs.declared.StageTime.{StageTime}
use Rattle.definitions.specs.Lists.{any, all, pairs_from}
use Rattle.definitions.specs.Doubles.{lowest, next_lower, FiniteDouble, ascending}
use Rattle.definitions.specs.ClipSet.{ClipSet, stage}
use Rattle.definitions.specs.Samples.{Samples}
use Rattle.definitions.specs.Value.{value_in_set}
use Rattle.definitions.specs.Track.{Entry, entry_of, alike, Change, Track, change_times, read_track, read_from, value_at, written_at, differs, change_at, IsChange, TrackOf}
use Rattle.definitions.proofs.Written.{alike-one, one_alike, written-alike, reading-one}
use Rattle.laws.specs.track.Track as steps
use Rattle.laws.proofs.track.Track as steps-laws
use Rattle.laws.proofs.track.Laws.{held_low, held-rest, rising-has, track-of, track-unique}
use Rattle.laws.specs.list.Every.{Every}
use Rattle.laws.proofs.list.Tests.{both, both_l, both_r, or_l, or_r, or_split}
use Rattle.laws.proofs.cell.Direct.{SoundSet, SoundSamples}
use Rattle.laws.proofs.cell.Numbers.{SoundValues, value-numeric}
use Rattle.laws.specs.cell.Keys.{entry_at_key}
use Rattle.laws.proofs.cell.Keys.{entry-of-key}
use Rattle.laws.specs.cell.Tracks.{entry-same, written_change, written_track}

-- ---- written out

-- the keys are of finite doubles, none of them the lowest
abbrev Ranged : List (steps.Change Entry) → Type 0
Ranged cs = Every (λ (c : steps.Change Entry). (least < c.key) × (c.key ≤ most)) cs

ranged : (low : ℕ) (cs : List (steps.Change Entry)) → least ≤ low → steps-laws.Rising low cs → steps-laws.UpTo most cs → Ranged cs
ranged low [] l r u = tt
ranged low (c ∷ cs) l r u = ((omega arith, u.0), ranged c.key cs (omega arith) r.1 u.1)

number : (k : ℕ) → least < k → k ≤ most → T (not (is_nan (of_key k)))
number k a b = of_key-no-nan k (omega arith) b

key-is : (k : ℕ) → least < k → k ≤ most → key (of_key k) ≡ k
key-is k a b = key-of_key k (omega arith) b

-- read held, the written changes read as the changes do
written_read : (h : Entry) (cs : List (steps.Change Entry)) (t : Float) → FiniteDouble t → Ranged cs → read_from h (map written_change cs) t ≡ steps-laws.held_at h cs (key t)
unfolding read_from steps-laws.held_at
written_read h [] t f r = refl
written_read h (c ∷ cs) t f r =
    ap (λ (b : Bool). read_from (cond b (record { value = c.value.value; mark = c.value.mark }) h) (map written_change cs) t)
    (le_is (of_key c.key) t (of_key-fits c.key) f.fitting (number c.key r.0.0 r.0.1) (finite-no-nan t f.finitely) ∙ ap (λ (k : ℕ). leb k (key t)) (key-is c.key r.0.0 r.0.1))
    ∙ ap (λ (e : Entry). read_from e (map written_change cs) t) (picked (leb c.key (key t)))
    ∙ written_read (steps-laws.pick (leb c.key (key t)) c.value h) cs t f r.1
  where
    picked : (b : Bool) → cond b (record { value = c.value.value; mark = c.value.mark }) h ≡ steps-laws.pick b c.value h
    picked true = refl
    picked false = refl

written_from : (c : steps.Change Entry) (cs : List (steps.Change Entry)) → (least < c.key) × (c.key ≤ most) → steps-laws.Rising c.key cs → Ranged cs
    → T (all (λ (p : Float × Float). lt p.0 p.1) (pairs_from (of_key c.key) (change_times (map written_change cs))))
written_from c [] p r u = tt
written_from c (d ∷ cs) p r u =
    let a = key-is c.key p.0 p.1 in
    let b = key-is d.key u.0.0 u.0.1 in
    both (lt (of_key c.key) (of_key d.key)) (all (λ (q : Float × Float). lt q.0 q.1) (pairs_from (of_key d.key) (change_times (map written_change cs))))
    (key→lt (of_key c.key) (of_key d.key) (of_key-fits c.key) (of_key-fits d.key) (number c.key p.0 p.1) (number d.key u.0.0 u.0.1) (omega arith))
    (written_from d cs u.0 r.1 u.1)

written-ascends : (low : ℕ) (cs : List (steps.Change Entry)) → steps-laws.Rising low cs → Ranged cs → T (ascending (change_times (map written_change cs)))
written-ascends low [] r u = tt
written-ascends low (c ∷ cs) r u = written_from c cs u.0 r.1 u.1

-- a key that the changes have is a written time
written_has : (cs : List (steps.Change Entry)) (t : Float) → FiniteDouble t → Ranged cs → steps-laws.HasKey (key t) cs → T (any (λ (c : Change). eq c.time t) (map written_change cs))
written_has [] t f r m = absurd m
written_has (c ∷ cs) t f r m = elim m [
  | inl e ↦ or_l (eq (of_key c.key) t) (any (λ (d : Change). eq d.time t) (map written_change cs))
      (key→eq (of_key c.key) t (of_key-fits c.key) f.fitting (number c.key r.0.0 r.0.1) (finite-no-nan t f.finitely) (key-is c.key r.0.0 r.0.1 ∙ e))
  | inr n ↦ or_r (eq (of_key c.key) t) (any (λ (d : Change). eq d.time t) (map written_change cs)) (written_has cs t f r.1 n)
]

-- a change's key reads its value
own_value : (low : ℕ) (h : Entry) (cs : List (steps.Change Entry)) → steps-laws.Rising low cs → Every (λ (c : steps.Change Entry). steps-laws.HasKey c.key cs × (steps-laws.held_at h cs c.key ≡ c.value)) cs
own_value low h [] r = tt
own_value low h (c ∷ cs) r = ((inl refl, held-rest h c cs c.key (le_of_eq refl) ∙ held_low c.value cs c.key c.key r.1 (le_of_eq refl)), later cs r.1 (own_value c.key c.value cs r.1))
  where
    step : (d : steps.Change Entry) → c.key < d.key → steps-laws.HasKey d.key cs × (steps-laws.held_at c.value cs d.key ≡ d.value) → steps-laws.HasKey d.key (c ∷ cs) × (steps-laws.held_at h (c ∷ cs) d.key ≡ d.value)
    step d l p = (inr p.0, held-rest h c cs d.key (omega arith) ∙ p.1)

    later : (ds : List (steps.Change Entry)) → steps-laws.Rising c.key cs → Every (λ (d : steps.Change Entry). steps-laws.HasKey d.key cs × (steps-laws.held_at c.value cs d.key ≡ d.value)) ds
        → Every (λ (d : steps.Change Entry). steps-laws.HasKey d.key (c ∷ cs) × (steps-laws.held_at h (c ∷ cs) d.key ≡ d.value)) ds
    later [] q e = tt
    later (d ∷ ds) q e = (step d (rising-has cs q e.0.0) e.0, later ds q e.1)

written-each : (P : Change → Type 0) (cs : List (steps.Change Entry)) → Every (λ (c : steps.Change Entry). P (written_change c)) cs → (c : Change) → Memᴰ c (map written_change cs) → P c
written-each P [] h c m = absurd (Memᴰ.not-nil m)
written-each P (d ∷ cs) h c m = ⊎_elim (λ e. subst P (sym e) h.0) (λ n. written-each P cs h.1 c n) (Memᴰ.cases_cons m)

-- ---- the two are one

module _ (set : ClipSet) (s : Samples) (S : SoundSet set) (A : SoundSamples s) (F : SoundValues set s) where
  abbrev v : StageTime → Answer
  v = value_in_set set s

  -- where the value differs, at a finite double, there is a change at its key
  pub differs-changes : (t : Float) → FiniteDouble t → T (differs (value_in_set set s) t) → steps-laws.ChangesAt (entry_at_key set s) (key t)
  unfolding differs next_lower
  differs-changes t f d e =
      let low = of_key (key t - 1) in
      T_not (alike (value_at v t) (value_at v low)) d (one_alike (v (stage t)) (v (stage low)) (value-numeric set s F (stage t)) (value-numeric set s F (stage low)) (entry-of-key set s S A t f ∙ e))

  pub changes-differs : (k : ℕ) → least < k → k ≤ most → steps-laws.ChangesAt (entry_at_key set s) k → T (differs (value_in_set set s) (of_key k))
  unfolding differs next_lower
  changes-differs k a b c =
      let here = stage (of_key k) in
      let low = stage (of_key (k - 1)) in
      rw (key-is k a b) (not_T (alike (entry_of (v here)) (entry_of (v low))) (λ h. c (alike-one (v here) (v low) (value-numeric set s F here) (value-numeric set s F low) h)))

  lowest-key : (k : ℕ) → least < k → k ≤ most → T (lt lowest (of_key k))
  unfolding lowest
  lowest-key k a b =
      let l = key-of_key least (le_of_eq refl) (lit≤ tt) in
      let w = key-is k a b in
      key→lt (of_key least) (of_key k) (of_key-fits least) (of_key-fits k) (of_key-no-nan least (le_of_eq refl) (lit≤ tt)) (number k a b) (omega arith)

  above-lowest : (t : Float) → FiniteDouble t → T (lt lowest t) → least < key t
  unfolding lowest
  above-lowest t f h =
      let l = key-of_key least (le_of_eq refl) (lit≤ tt) in
      let g = lt→key (of_key least) t (of_key-fits least) f.fitting (of_key-no-nan least (le_of_eq refl) (lit≤ tt)) (finite-no-nan t f.finitely) h in
      omega arith

  module _ (h : Entry) (cs : List (steps.Change Entry)) (t : steps-laws.TrackOf least most (entry_at_key set s) h cs) where
    rng : Ranged cs
    rng = ranged least cs (le_of_eq refl) t.rising t.inside

    one : (c : steps.Change Entry) → (least < c.key) × (c.key ≤ most) → steps-laws.HasKey c.key cs × (steps-laws.held_at h cs c.key ≡ c.value) → IsChange (value_in_set set s) (written_change c)
    unfolding change_at
    one c r p =
        let v : c.value ≡ entry_at_key set s c.key = sym p.1 ∙ t.exact c.key (omega arith) r.1 in
        record {
          finitely = record { fitting = of_key-fits c.key; finitely = of_key-finite c.key (omega arith) r.1 };
          above = lowest-key c.key r.0 r.1;
          changed = changes-differs c.key r.0 r.1 ((t.places c.key r.0 r.1).0 p.0);
          written = written_as (key-is c.key r.0 r.1) v;
        }
      where
        written_as : key (of_key c.key) ≡ c.key → c.value ≡ entry_at_key set s c.key
            → ◌≡◌ {A = Change} (written_change c) (record { time = of_key (key (of_key c.key)); value = (entry_at_key set s c.key).value; mark = (entry_at_key set s c.key).mark })
        written_as e v = λ i. record { time = of_key (sym e i); value = (v i).value; mark = (v i).mark }

    ones : (ds : List (steps.Change Entry)) → Ranged ds → Every (λ (c : steps.Change Entry). steps-laws.HasKey c.key cs × (steps-laws.held_at h cs c.key ≡ c.value)) ds → Every (λ (c : steps.Change Entry). IsChange (value_in_set set s) (written_change c)) ds
    ones [] r p = tt
    ones (d ∷ ds) r p = (one d r.0 p.0, ones ds r.1 p.1)

    -- the track over keys, written out, is the value's track
    pub track-written : TrackOf (value_in_set set s) (written_track h cs)
    unfolding lowest read_track
    track-written = record {
      initial-is = t.begins;
      ascends = written-ascends least cs t.rising rng;
      each = written-each (IsChange (value_in_set set s)) cs (ones cs rng (own_value least h cs t.rising));
      complete = λ x f l d. written_has cs x f rng ((t.places (key x) (above-lowest x f l) (finite→key x f.fitting f.finitely).1).1 (differs-changes x f d));
      gives = λ x f. rw (written_read h cs x f rng ∙ t.exact (key x) (finite→key x f.fitting f.finitely).0 (finite→key x f.fitting f.finitely).1 ∙ sym (entry-of-key set s S A x f)) (written-alike (v (stage x)) (value-numeric set s F (stage x)));
    }

  -- Every set and samples have a track: the changes over all keys, written out
  pub track-is : TrackOf (value_in_set set s) (written_track (entry_at_key set s least) (steps.changes_to entry-same (entry_at_key set s) least most))
  track-is = track-written (entry_at_key set s least) (steps.changes_to entry-same (entry_at_key set s) least most) (track-of entry-same (entry_at_key set s) least most (lit≤ tt))

-- ---- there is no other

abbrev keyed_change : Change → steps.Change Entry
keyed_change c = record { key = key c.time; value = record { value = c.value; mark = c.mark } }

keyed-written : (c : Change) → c.time ≡ of_key (key c.time) → written_change (keyed_change c) ≡ c
keyed-written c e = λ i. record { time = sym e i; value = c.value; mark = c.mark }

module _ (set : ClipSet) (s : Samples) (S : SoundSet set) (A : SoundSamples s) (F : SoundValues set s) where
  abbrev Changed : Change → Type 0
  Changed c = IsChange (value_in_set set s) c

  every-mem : (cs : List Change) → ((c : Change) → Memᴰ c cs → Changed c) → Every Changed cs
  every-mem [] f = tt
  every-mem (c ∷ cs) f = (f c (Memᴰ.head refl), every-mem cs (λ d m. f d (Memᴰ.tail m)))

  changed-key : (c : Change) → Changed c → (least < key c.time) × (key c.time ≤ most)
  changed-key c p = (above-lowest set s S A F c.time p.finitely p.above, (finite→key c.time p.finitely.fitting p.finitely.finitely).1)

  changed-value : (c : Change) → Changed c → (keyed_change c).value ≡ written_at (value_in_set set s) c.time
  unfolding change_at
  changed-value c p = λ i. record { value = (p.written i).value; mark = (p.written i).mark }

  changed-time : (c : Change) → Changed c → c.time ≡ of_key (key c.time)
  unfolding change_at
  changed-time c p = ap (λ (d : Change). d.time) p.written

  -- over keys: rising, within the range, and the changes are written so
  keyed-rising : (c : Change) (cs : List Change) → Every Changed (c ∷ cs) → T (all (λ (p : Float × Float). lt p.0 p.1) (pairs_from c.time (change_times cs))) → steps-laws.Rising (key c.time) (map keyed_change cs)
  keyed-rising c [] p a = tt
  keyed-rising c (d ∷ cs) p a =
      let l = both_l (lt c.time d.time) (all (λ (q : Float × Float). lt q.0 q.1) (pairs_from d.time (change_times cs))) a in
      let r = both_r (lt c.time d.time) (all (λ (q : Float × Float). lt q.0 q.1) (pairs_from d.time (change_times cs))) a in
      let f = p.0.finitely in
      let g = p.1.0.finitely in
      (lt→key c.time d.time f.fitting g.fitting (finite-no-nan c.time f.finitely) (finite-no-nan d.time g.finitely) l, keyed-rising d cs p.1 r)

  keyed-all : (cs : List Change) → Every Changed cs → T (ascending (change_times cs)) → steps-laws.Rising least (map keyed_change cs)
  keyed-all [] p a = tt
  keyed-all (c ∷ cs) p a = ((changed-key c p.0).0, keyed-rising c cs p a)

  keyed-upto : (cs : List Change) → Every Changed cs → steps-laws.UpTo most (map keyed_change cs)
  keyed-upto [] p = tt
  keyed-upto (c ∷ cs) p = ((changed-key c p.0).1, keyed-upto cs p.1)

  keyed-back : (cs : List Change) → Every Changed cs → map written_change (map keyed_change cs) ≡ cs
  keyed-back [] p = refl
  keyed-back (c ∷ cs) p = ap₂ {C = List Change} (λ (d : Change) (ds : List Change). d ∷ ds) (keyed-written c (changed-time c p.0)) (keyed-back cs p.1)

  keyed-changes : (k : ℕ) (cs : List Change) → Every Changed cs → steps-laws.HasKey k (map keyed_change cs) → steps-laws.ChangesAt (entry_at_key set s) k
  keyed-changes k [] p m = absurd m
  keyed-changes k (c ∷ cs) p m = elim m [
    | inl e ↦ subst (λ (j : ℕ). steps-laws.ChangesAt (entry_at_key set s) j) e (differs-changes set s S A F c.time p.0.finitely p.0.changed)
    | inr n ↦ keyed-changes k cs p.1 n
  ]

  keyed-has : (t : Float) → FiniteDouble t → (cs : List Change) → Every Changed cs → T (any (λ (c : Change). eq c.time t) cs) → steps-laws.HasKey (key t) (map keyed_change cs)
  keyed-has t f [] p h = absurd h
  keyed-has t f (c ∷ cs) p h = elim (or_split (eq c.time t) (any (λ (d : Change). eq d.time t) cs) h) [
    | inl e ↦ inl (eq→key c.time t p.0.finitely.fitting f.fitting (finite-no-nan c.time p.0.finitely.finitely) (finite-no-nan t f.finitely) e)
    | inr n ↦ inr (keyed-has t f cs p.1 n)
  ]

  -- what a track reads is the value somewhere
  reads-value : (e : Entry) (cs : List Change) (t : Float) → (x : Float) → e ≡ written_at (value_in_set set s) x → Every Changed cs → (y : Float) × (read_from e cs t ≡ written_at (value_in_set set s) y)
  unfolding read_from
  reads-value e [] t x q p = (x, q)
  reads-value e (c ∷ cs) t x q p = go (le c.time t) (λ e' x' q'. reads-value e' cs t x' q' p.1)
    where
      go : (b : Bool) → ((e' : Entry) (x' : Float) → e' ≡ written_at (value_in_set set s) x' → (y : Float) × (read_from e' cs t ≡ written_at (value_in_set set s) y))
          → (y : Float) × (read_from (cond b (record { value = c.value; mark = c.mark }) e) cs t ≡ written_at (value_in_set set s) y)
      go true r = r (record { value = c.value; mark = c.mark }) c.time (changed-value c p.0)
      go false r = r e x q

  module _ (track : Track) (t : TrackOf (value_in_set set s) track) where
    each-changed : Every Changed track.changes
    each-changed = every-mem track.changes t.each

    abbrev keyed : List (steps.Change Entry)
    keyed = map keyed_change track.changes

    exactly : (k : ℕ) → least ≤ k → k ≤ most → steps-laws.held_at track.initial keyed k ≡ entry_at_key set s k
    unfolding read_track
    exactly k a b =
        let f : FiniteDouble (of_key k) = record { fitting = of_key-fits k; finitely = of_key-finite k a b } in
        let y = reads-value track.initial track.changes (of_key k) lowest t.initial-is each-changed in
        ap (steps-laws.held_at track.initial keyed) (sym (key-of_key k a b))
        ∙ sym (written_read track.initial keyed (of_key k) f (ranged least keyed (le_of_eq refl) (keyed-all track.changes each-changed t.ascends) (keyed-upto track.changes each-changed)))
        ∙ ap (λ (cs : List Change). read_from track.initial cs (of_key k)) (keyed-back track.changes each-changed)
        ∙ y.1
        ∙ reading-one (value_in_set set s (stage y.0)) (value_in_set set s (stage (of_key k))) (value-numeric set s F (stage y.0)) (value-numeric set s F (stage (of_key k)))
        (subst (λ (e : Entry). T (alike e (value_at (value_in_set set s) (of_key k)))) y.1 (t.gives (of_key k) f))

    -- the value's track, by its keys, is the track over keys
    pub track-keyed : steps-laws.TrackOf least most (entry_at_key set s) track.initial keyed
    unfolding lowest
    track-keyed = record {
      rising = keyed-all track.changes each-changed t.ascends;
      inside = keyed-upto track.changes each-changed;
      begins = t.initial-is;
      exact = exactly;
      places = λ k a b. (keyed-changes k track.changes each-changed, λ c. back k a b c);
    }
      where
        back : (k : ℕ) → least < k → k ≤ most → steps-laws.ChangesAt (entry_at_key set s) k → steps-laws.HasKey k keyed
        back k a b c =
            let f : FiniteDouble (of_key k) = record { fitting = of_key-fits k; finitely = of_key-finite k (omega arith) b } in
            subst (λ (j : ℕ). steps-laws.HasKey j keyed) (key-is k a b)
            (keyed-has (of_key k) f track.changes each-changed (t.complete (of_key k) f (lowest-key set s S A F k a b) (changes-differs set s S A F k a b c)))

    pub track-back : written_track track.initial keyed ≡ track
    track-back = λ i. record { initial = track.initial; changes = keyed-back track.changes each-changed i }

  -- A value has one track
  pub track-only : (a b : Track) → TrackOf (value_in_set set s) a → TrackOf (value_in_set set s) b → a ≡ b
  track-only a b p q =
      let u = track-unique (track-keyed a p) (track-keyed b q) in
      sym (track-back a p) ∙ ap₂ written_track u.0 u.1 ∙ track-back b q
