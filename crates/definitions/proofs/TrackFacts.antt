-- The number of a track's changes is that of the doubles at which the value changes; the written lists, read, give the value. So demand 3 holds in the caller's words.
-- Assumes nothing.
use Prim.Native.Nat.{ℕ, zero, suc, ◌+◌, ◌-◌, ◌≤◌, ◌<◌}
use native.Mathlib.Omega.{arith}
use mathlib.Core.Path.{◌≡◌, refl, sym, ap, ◌∙◌, subst}
use mathlib.Core.Logic.{◌⊎◌, inl, inr, ⊎_elim}
use mathlib.Core.Bool.{Bool, true, false, ◌||◌, cond}
use mathlib.Core.List.{List, [], ◌∷◌, map, Memᴰ}
use lib.Dec.{T}
use lib.ListN.{length, take, drop}
use lib.Seq.{take_at}
use lib.Ieee.{Float, binary64, fits, eq, lt}
use lib.Ieee.Fits.{and_l, and_r}
use Rattle.gf.specs.Doubles.{key, of_key, least, most}
use Rattle.gf.proofs.KeyLaws.{key-of_key, finite→key, lt→key, eq→key}
use Rattle.definitions.specs.declared.StageTime.{StageTime}
use Rattle.definitions.specs.declared.Answer.{Answer}
use Rattle.definitions.specs.Lists.{any, all, pairs_from, written_over, count_from}
use Rattle.definitions.specs.Doubles.{lowest, FiniteDouble, ascending}
use Rattle.definitions.specs.ClipSet.{Model}
use Rattle.definitions.specs.Samples.{Samples}
use Rattle.definitions.specs.Value.{value_in_set}
use Rattle.definitions.specs.Track.{Entry, alike, Change, Track, Outputs, change_times, write_track, value_at, differs, change_at, IsChange, TrackOf, slots}
use Rattle.definitions.specs.Reading.{changes_of_lists, read_by_halves}
use Rattle.definitions.specs.Questions.{Reply}
use Rattle.definitions.specs.WholeList.{GivesTrack}
use Rattle.definitions.specs.Calls.{Call, Baked, baked_of, after, Due, WholeList}
use Rattle.definitions.specs.TrackFacts.{OneTrack, change_count, handed_track, ReadsBack, GivesValues, DueValues, WholeListValues}
use Rattle.definitions.proofs.Tracks.{both-i, no_nan, of-key, lowest-finite, lowest-key, key-lt, high-enough}
use Rattle.definitions.proofs.Reading.{reads_held}

-- ---- a list of ascending numbers is as long as the count of those that it has

-- each above the one before, the first k or above
abbrev Rising : ℕ → List ℕ → Type 0
Rising k [] = Unit {0}
Rising k (j ∷ js) = (k ≤ j) × Rising (suc j) js

abbrev Has : ℕ → List ℕ → Type 0
Has i [] = ⊥
Has i (j ∷ js) = (j ≡ i) ⊎ Has i js

has-from : (k i : ℕ) (js : List ℕ) → Rising k js → Has i js → k ≤ i
has-from k i [] r h = absurd h
has-from k i (j ∷ js) r h = ⊎_elim (λ e. omega arith) (λ m. let l = has-from (suc j) i js r.1 m in omega arith) h

rising-above : (k : ℕ) (js : List ℕ) → Rising k js → (Has k js → ⊥) → Rising (suc k) js
rising-above k [] r n = tt
rising-above k (j ∷ js) r n = let d : (j ≡ k → ⊥) = λ e. n (inl e) in (omega arith, r.1)

module _ (test : ℕ → Bool) where
  -- the numbers are those of the n from k on that pass
  record Passing (n k : ℕ) (js : List ℕ) : Type 0 where
    rising : Rising k js
    below : (i : ℕ) → Has i js → i < k + n
    pass : (i : ℕ) → Has i js → T (test i)
    all_of : (i : ℕ) → k ≤ i → i < k + n → T (test i) → Has i js

  -- k is none of them
  without : {n k : ℕ} {js : List ℕ} → Passing (suc n) k js → test k ≡ false → Passing n (suc k) js
  without {n} {k} {js} p e =
      let none : (Has k js → ⊥) = λ h. subst T e (p.pass k h) in
      record {
        rising = rising-above k js p.rising none;
        below = λ i h. let b = p.below i h in omega arith;
        pass = p.pass;
        all_of = λ i l b t. p.all_of i (omega arith) (omega arith) t;
      }

  -- k is the first of them
  first-is : {n k j : ℕ} {js : List ℕ} → Passing (suc n) k (j ∷ js) → T (test k) → j ≡ k
  first-is {n} {k} {j} {js} p t = ⊎_elim (λ e. e) (λ h. let l = has-from (suc j) k js p.rising.1 h in let r = p.rising.0 in absurd (omega arith)) (p.all_of k (omega arith) (omega arith) t)

  behind : {n k j : ℕ} {js : List ℕ} → Passing (suc n) k (j ∷ js) → j ≡ k → Passing n (suc k) js
  behind {n} {k} {j} {js} p e = record {
    rising = subst (λ (m : ℕ). Rising (suc m) js) e p.rising.1;
    below = λ i h. let b = p.below i (inr h) in omega arith;
    pass = λ i h. p.pass i (inr h);
    all_of = λ i l b t. ⊎_elim (λ f. absurd (omega arith)) (λ h. h) (p.all_of i (omega arith) (omega arith) t);
  }

  counted : (n k : ℕ) (js : List ℕ) → Passing n k js → length js ≡ count_from test k n
  unfolding count_from
  counted zero k [] p = refl
  counted zero k (j ∷ js) p = let b = p.below j (inl refl) in let r = p.rising.0 in absurd (omega arith)
  counted (suc n) k js p = go (test k) refl js p (counted n (suc k))
    where
      go : (b : Bool) → test k ≡ b → (js : List ℕ) → Passing (suc n) k js → ((l : List ℕ) → Passing n (suc k) l → length l ≡ count_from test (suc k) n) → length js ≡ cond b 1 0 + count_from test (suc k) n
      go false e js p q = q js (without p e) ∙ omega arith
      go true e [] p q = absurd (p.all_of k (omega arith) (omega arith) (subst T (sym e) tt))
      go true e (j ∷ js) p q = let l = q js (behind p (first-is p (subst T (sym e) tt))) in omega arith

  -- two such lists are one
  same : (n k : ℕ) (is js : List ℕ) → Passing n k is → Passing n k js → is ≡ js
  same zero k [] [] p q = refl
  same zero k (i ∷ is) js p q = let b = p.below i (inl refl) in let r = p.rising.0 in absurd (omega arith)
  same zero k [] (j ∷ js) p q = let b = q.below j (inl refl) in let r = q.rising.0 in absurd (omega arith)
  same (suc n) k is js p q = go (test k) refl is js p q (same n (suc k))
    where
      go : (b : Bool) → test k ≡ b → (is js : List ℕ) → Passing (suc n) k is → Passing (suc n) k js → ((l m : List ℕ) → Passing n (suc k) l → Passing n (suc k) m → l ≡ m) → is ≡ js
      go false e is js p q h = h is js (without p e) (without q e)
      go true e [] js p q h = absurd (p.all_of k (omega arith) (omega arith) (subst T (sym e) tt))
      go true e (i ∷ is) [] p q h = absurd (q.all_of k (omega arith) (omega arith) (subst T (sym e) tt))
      go true e (i ∷ is) (j ∷ js) p q h =
          let first = first-is p (subst T (sym e) tt) in
          let second = first-is q (subst T (sym e) tt) in
          let rest = h is js (behind p first) (behind q second) in
          let heads : i ≡ j = first ∙ sym second in
          λ x. heads x ∷ rest x

-- ---- the changes of a track, by their keys

abbrev keys_of : List Change → List ℕ
keys_of changes = map (λ (c : Change). key c.time) changes

-- a number that they have is a change's key
change-of : (i : ℕ) (cs : List Change) → Has i (keys_of cs) → (c : Change) × Memᴰ c cs × (key c.time ≡ i)
change-of i [] h = absurd h
change-of i (c ∷ cs) h = ⊎_elim (λ e. (c, Memᴰ.head refl, e)) (λ m. let d = change-of i cs m in (d.0, Memᴰ.tail d.1, d.2)) h

module _ {A : Type 0} (f : Change → A) where
  mapped-long : (cs : List Change) → length (map f cs) ≡ length cs
  mapped-long [] = refl
  mapped-long (c ∷ cs) = ap suc (mapped-long cs)

abbrev Finitely : List Change → Type 0
Finitely cs = (c : Change) → Memᴰ c cs → FiniteDouble c.time

has-time : (t : Float) → FiniteDouble t → (cs : List Change) → Finitely cs → T (any (λ (c : Change). eq c.time t) cs) → Has (key t) (keys_of cs)
has-time t f [] g h = absurd h
has-time t f (c ∷ cs) g h = go (eq c.time t) (λ e. eq→key c.time t (g c (Memᴰ.head refl)).fitting f.fitting (no_nan c.time (g c (Memᴰ.head refl))) (no_nan t f) e) h (has-time t f cs (λ d m. g d (Memᴰ.tail m)))
  where
    go : (b : Bool) → (T b → key c.time ≡ key t) → T (b || any (λ (d : Change). eq d.time t) cs) → (T (any (λ (d : Change). eq d.time t) cs) → Has (key t) (keys_of cs)) → Has (key t) (keys_of (c ∷ cs))
    go true e h r = inl (e tt)
    go false e h r = inr (r h)

rising-keys : (k : ℕ) (c : Change) (cs : List Change) → Finitely (c ∷ cs) → k ≤ key c.time → T (ascending (change_times (c ∷ cs))) → Rising k (keys_of (c ∷ cs))
rising-keys k c [] g h a = (h, tt)
rising-keys k c (d ∷ cs) g h a =
    let f = g c (Memᴰ.head refl) in
    let n = g d (Memᴰ.tail (Memᴰ.head refl)) in
    let rest = all (λ (p : Float × Float). lt p.0 p.1) (pairs_from d.time (change_times cs)) in
    (h, rising-keys (suc (key c.time)) d cs (λ e m. g e (Memᴰ.tail m)) (lt→key c.time d.time f.fitting n.fitting (no_nan c.time f) (no_nan d.time n) (and_l (lt c.time d.time) rest a)) (and_r (lt c.time d.time) rest a))

module _ (v : StageTime → Answer) (track : Track) (is : TrackOf v track) where
  finitely : Finitely track.changes
  finitely c m = (is.each c m).finitely

  abbrev changed : ℕ → Bool
  changed k = differs v (of_key k)

  all-rising : (cs : List Change) → ((c : Change) → Memᴰ c cs → IsChange v c) → T (ascending (change_times cs)) → Rising (suc least) (keys_of cs)
  all-rising [] e a = tt
  all-rising (c ∷ cs) e a = let i = e c (Memᴰ.head refl) in rising-keys (suc least) c cs (λ d m. (e d m).finitely) (high-enough c.time i.finitely i.above) a

  pass-at : (i : ℕ) → Has i (keys_of track.changes) → T (changed i)
  unfolding change_at
  pass-at i h =
      let d = change-of i track.changes h in
      let c = is.each d.0 d.1 in
      subst (λ (k : ℕ). T (changed k)) d.2 (subst (λ (t : Float). T (differs v t)) (ap (λ (x : Change). x.time) c.written) c.changed)

  below-most : (i : ℕ) → Has i (keys_of track.changes) → i ≤ most
  below-most i h =
      let d = change-of i track.changes h in
      let f = finitely d.0 d.1 in
      subst (λ (k : ℕ). k ≤ most) d.2 (finite→key d.0.time f.fitting f.finitely).1

  none-missing : (i : ℕ) → suc least ≤ i → i ≤ most → T (changed i) → Has i (keys_of track.changes)
  none-missing i l h t =
      let f = of-key i (omega arith) h in
      let k = key-of_key i (omega arith) h in
      let low = lowest-key in
      subst (λ (j : ℕ). Has j (keys_of track.changes)) k
      (has-time (of_key i) f track.changes finitely (is.complete (of_key i) f (key-lt lowest (of_key i) lowest-finite f (omega arith)) t))

  passing : Passing changed (most - least) (suc least) (keys_of track.changes)
  passing = record {
    rising = all-rising track.changes is.each is.ascends;
    below = λ i h. let b = below-most i h in omega arith;
    pass = pass-at;
    all_of = λ i l b t. none-missing i l (omega arith) t;
  }

  pub count-is : length track.changes ≡ change_count v
  unfolding change_count
  count-is = sym (mapped-long (λ (c : Change). key c.time) track.changes) ∙ counted changed (most - least) (suc least) (keys_of track.changes) passing

  -- each change is told by its key
  by_key : (c : Change) → IsChange v c → c ≡ change_at v (of_key (key c.time))
  unfolding change_at
  by_key c i = i.written ∙ ap (λ (t : Float). change_at v t) (ap (λ (x : Change). x.time) i.written)

  by-keys : (cs : List Change) → ((c : Change) → Memᴰ c cs → IsChange v c) → cs ≡ map (λ (k : ℕ). change_at v (of_key k)) (keys_of cs)
  by-keys [] e = refl
  by-keys (c ∷ cs) e =
      let head = by_key c (e c (Memᴰ.head refl)) in
      let rest = by-keys cs (λ d m. e d (Memᴰ.tail m)) in
      λ x. head x ∷ rest x

pub one-track : OneTrack
one-track v a b p q =
    let keys = same (λ (k : ℕ). differs v (of_key k)) (most - least) (suc least) (keys_of a.changes) (keys_of b.changes) (passing v a p) (passing v b q) in
    let changes = by-keys v a p a.changes p.each ∙ ap (map (λ (k : ℕ). change_at v (of_key k))) keys ∙ sym (by-keys v b q b.changes q.each) in
    let initial = p.initial-is ∙ sym q.initial-is in
    λ x. record { initial = initial x; changes = changes x }

-- ---- the written lists

module _ {A : Type 0} (f : Change → A) where
  -- the front of a list that the changes were written to
  front : (cs : List Change) (old : List A) → take (length cs) (written_over (map f cs) old) ≡ map f cs
  front cs old = take_at (map f cs) (drop (length (map f cs)) old) (length cs) (mapped-long f cs)

apart : (cs : List Change) → changes_of_lists (change_times cs) (map (λ (c : Change). c.value) cs) (map (λ (c : Change). c.mark) cs) ≡ cs
apart [] = refl
apart (c ∷ cs) = ap {B = List Change} (λ (l : List Change). c ∷ l) (apart cs)

handed-is : (track : Track) (o : Outputs) → handed_track (baked_of track) (write_track track o) ≡ track
unfolding write_track
handed-is track o =
    let cs = track.changes in
    let times = front (λ (c : Change). c.time) cs o.times in
    let values = front (λ (c : Change). c.value) cs o.values in
    let marks = front (λ (c : Change). c.mark) cs o.marks in
    (λ i. record { initial = track.initial; changes = changes_of_lists (times i) (values i) (marks i) })
    ∙ (λ i. record { initial = track.initial; changes = apart cs i })

module _ (v : StageTime → Answer) (track : Track) (is : TrackOf v track) where
  doubles : (cs : List Change) → Finitely cs → T (all (fits binary64) (change_times cs))
  doubles [] g = tt
  doubles (c ∷ cs) g = both-i (fits binary64 c.time) (all (fits binary64) (change_times cs)) (g c (Memᴰ.head refl)).fitting (doubles cs (λ d m. g d (Memᴰ.tail m)))

  reads-back : (o : Outputs) → ReadsBack v (baked_of track) (write_track track o)
  reads-back o = record {
    count = count-is v track is;
    gives = λ t f.
        let e = reads_held track t (both-i (fits binary64 t) (all (fits binary64) (change_times track.changes)) f.fitting (doubles track.changes (finitely v track is))) is.ascends in
        subst (λ (x : Entry). T (alike x (value_at v t))) (sym (ap (λ (x : Track). read_by_halves x t) (handed-is track o) ∙ e)) (is.gives t f);
  }

-- ---- demand 3

gives-values : (v : StageTime → Answer) (o : Outputs) (r : Reply Baked) (p : Outputs) → GivesTrack baked_of v o r p → GivesValues v o r p
gives-values v o r p (track, is, enough, short) = (
  λ h. let w = enough (subst (λ (n : ℕ). n ≤ slots o) (sym (count-is v track is)) h) in (baked_of track, w.0, subst (ReadsBack v (baked_of track)) (sym w.1) (reads-back v track is o)),
  λ h. short (subst (λ (n : ℕ). slots o < n) (sym (count-is v track is)) h),
)

due-values : (m : Model) (s : Samples) (o : Outputs) (r : Reply Baked) (p : Outputs) → Due m s o r p → DueValues m s o r p
due-values m s o r p d set e z = gives-values (value_in_set set s) o r p (d set e z)

pub whole-list-values : {State : Type 0} (fresh : State) (Moves : Call → State → State → Type 0) (Replies : State → Samples → Outputs → Reply Baked → Outputs → Type 0)
    → WholeList fresh Moves Replies → WholeListValues fresh Moves Replies
whole-list-values fresh Moves Replies claim calls d l s o r p q = due-values (after calls) s o r p (claim calls d l s o r p q)
