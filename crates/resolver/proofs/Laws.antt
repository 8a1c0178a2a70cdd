-- What stands after a call, by its number; one law for each return of an operation. Assumes nothing.
use Rattle.std.specs.Prelude.{None, Some}
use Prim.Native.Nat.{ℕ, zero, suc, min}
use mathlib.Core.Path.{◌≡◌, refl, sym, ap, ap₂, ◌∙◌, subst}
use mathlib.Core.Bool.{Bool, true, false, not, cond}
use native.Mathlib.Omega.{arith}
use mathlib.Core.List.{List, [], ◌∷◌, map}
use lib.ListN.{length, take, drop}
use lib.Seq.{length-take-le, take-append_seam}
use lib.Dec.{ltb}
use mathlib.Core.Option.{Option, none, some}
use lib.Ieee.{Float}
use lib.Ieee.Scale.{finite}
use Rattle.definitions.specs.declared.LayerOffset.{LayerOffset}
use Rattle.definitions.specs.ClipSet.{ClipSet, Model, no_set, standing}
use Rattle.definitions.specs.Explicit.{ExplicitFields}
use Rattle.definitions.specs.Template.{TemplateFields}
use Rattle.definitions.specs.Retime.{moved_number, retime_number, retime_stage_times}
use Rattle.definitions.specs.Lists.{◌if◌else◌, ◌then◌, written_over}
use Rattle.definitions.specs.StageSamples.{StageSample, stage_sample_times}
use Rattle.definitions.specs.Facts.{StageSampleTimesAre}
use Rattle.definitions.specs.Samples.{Samples, samples_number}
use Rattle.sdf.specs.Judged.{Judged}
use Rattle.sdf.proofs.Judged.{judged-accepted}
use Rattle.definitions.specs.declared.StageTime.{StageTime}
use Rattle.std.specs.Prelude as Prelude
use Rattle.std.specs.Prelude.{Result, Ok, Err, IfOk}
use Rattle.definitions.specs.declared.refusal.Refusal.{Refusal}
use Rattle.definitions.specs.Refusals.{number_of}
use Rattle.definitions.specs.Questions as Questions
use Rattle.definitions.specs.Questions.{Reply, refused, replied, reply, of_set, stage_time_number, room_number, ask_stage_sample_times, ask_stage_samples}
use Rattle.gf.specs.Doubles.{0·0}
use Rattle.definitions.specs.Value.{value_in_set}
use Rattle.definitions.specs.Track.{Track, TrackOf, Outputs, slots, bake_number}
use Rattle.laws.specs.cell.Lent.{set_of, samples_of}
use Rattle.laws.proofs.cell.Lent.{active-times, knot-times, sound-set, sound-samples}
use Rattle.laws.proofs.cell.Numbers.{sound-values}
use Rattle.laws.proofs.cell.Tracks.{track-is}
use Rattle.laws.proofs.cell.StageTimes.{stage-sample-times}
use Rattle.track.specs.declared.bake.Baked.{Baked}
use Rattle.track.specs.Bakes.{track_of, baked_reply, BakeIs}
use Rattle.track.proofs.Bakes.{same-standing, bakes}
use Rattle.definitions.specs.Examining.{Fields, explicitly, by_template, empty_set, fields_number, Examined, examine, acceptance}
use Rattle.definitions.proofs.Traces.{in_a_row}
use Rattle.definitions.specs.Calls.{step, accepted, retimed, baked_of, outputs_after, Bakes, CountsChanges}
use Rattle.laws.specs.list.Places.{Ascending}
use Rattle.laws.specs.set.Sound.{Sound, SoundModel}
use Rattle.laws.proofs.set.Sound.{sound-active, sound-knots}
use Rattle.laws.specs.set.Accepted.{Accepted as AcceptedSamples}
use Rattle.clip.specs.declared.ClipSet as clip
use Rattle.std.specs.Prelude.{Result, Ok, Err}
use Rattle.definitions.specs.declared.refusal.Refusal.{Refusal}
use Rattle.definitions.specs.declared.refusal.Refusal.TheVariants.{NoSet}
use Rattle.definitions.specs.Refusals.{number_of, number_in}
use Rattle.clip.specs.Retiming as sets
use Rattle.clip.specs.Holding.{Room, clip_set_of, manifest_of}
use Rattle.clip.specs.Preparing.{MadeSet, set_after, Examines}
use Rattle.clip.proofs.Preparing.{is-kept, made-is}
use Rattle.resolver.specs.declared.Resolver.{Resolver}
use Rattle.standing.specs.declared.StandingSet.{StandingSet}
use Rattle.standing.specs.declared.Counts.{Counts}
use Rattle.standing.specs.Standing.{set_in, Installed, Unpacked, Packed, Asked, lent_set, answered}
use Rattle.sdf.specs.Counted.{counted, listed, itself}
use Rattle.standing.specs.Lists.{time_of, mark_in, ListsTimes, ListsSamples}
use Rattle.resolver.specs.State.{model, Made, lent_state}
use Rattle.resolver.specs.Promises.{Kept, Accepts, Expands, Retimes, BakesTrack, TellsTimes, TellsSamples, clip_reply, Installs}

-- ---- installing

accepted-granted : (n : ℕ) (before after : Model) → n ≡ 0 → after ≡ accepted n before after
accepted-granted n b a e = ap (λ (k : ℕ). accepted k b a) (sym e)

-- the same number, and the same set where it is 0
accepted-same : (n m : ℕ) (before a b : Model) → n ≡ m → (n ≡ 0 → a ≡ b) → accepted n before a ≡ accepted m before b
accepted-same zero m c a b e h = h refl ∙ accepted-granted m c b (sym e)
accepted-same (suc n) m c a b e h = ap (λ (k : ℕ). accepted k c b) e

pub installs : (d : Resolver) (p : clip.ClipSet) (set : StandingSet) → MadeSet p → Installed p set → Installs d p (record { stands = true; set = set })
unfolding step
installs d p set m q = record { after = ap standing q.is; made = record { whole = q.whole; sound = subst Sound (sym q.is) m.sound } }

pub unpacks : (d : Resolver) (p : clip.ClipSet) {c : Counts} {starts : List Float} {numbers : List ℕ} {xs ys blocks : List Float} → MadeSet p → Unpacked p c starts numbers xs ys blocks
    → Installs d p (lent_state (record { stands = true; clips = p.clips; counts = c; manifest = manifest_of p }) starts numbers xs ys blocks)
unpacks d p m u = installs d p _ m (record { whole = u.whole; is = u.is })

-- what stands after a preparation whose set is installed
abbrev stands_after : Model → Result clip.ClipSet Refusal → Model
stands_after m (Ok s) = standing (clip_set_of s)
stands_after m (Err r) = m

stands-after-is : (m : Model) (kept : ClipSet) (p : Result clip.ClipSet Refusal) → stands_after m p ≡ accepted (number_in p) m (standing (set_after kept p))
stands-after-is m kept (Ok s) = refl
stands-after-is m kept (Err r) = is-kept m (standing kept) r (number_of r) refl

-- a prepared set is installed, or what stood still stands
record Settles (d : Resolver) (p : Result clip.ClipSet Refusal) (n : ℕ) (e : Resolver) : Type 0 where
  number : n ≡ number_in p
  kept : Kept d n e
  after : model e ≡ stands_after (model d) p
  made : Made e

settles-not : (d : Resolver) (r : Refusal) → Made d → Settles d (Err r) (number_of r) d
settles-not d r m = record { number = refl; kept = λ n. refl; after = refl; made = m }

settles : (d : Resolver) (s : clip.ClipSet) (e : Resolver) → Installs d s e → Settles d (Ok s) 0 e
unfolding step
settles d s e i = record { number = refl; kept = λ n. absurd (n refl); after = i.after; made = i.made }

-- ---- acceptance: examining and installing in a row

module _ (d : Resolver) (f : Fields) (p : Result clip.ClipSet Refusal) (q : Examines f p) (n : ℕ) (e : Resolver) (i : Settles d p n e) where
  settled-number : n ≡ fields_number f
  unfolding examine
  settled-number = i.number ∙ ap (λ (x : Examined). x.number) q.reply

  settled-after : model e ≡ step (model d) (acceptance f)
  unfolding step
  settled-after = i.after ∙ stands-after-is (model d) empty_set p ∙ ap (λ (x : Examined). accepted x.number (model d) (standing x.set)) q.reply ∙ sym (in_a_row (model d) f)

module _ (d : Resolver) (f : ExplicitFields) where
  settled-accepts : (p : Result clip.ClipSet Refusal) (n : ℕ) (e : Resolver) → Examines (explicitly f) p → Settles d p n e → Accepts d f n e
  settled-accepts p n e q i = record { number = settled-number d (explicitly f) p q n e i; kept = i.kept; after = settled-after d (explicitly f) p q n e i; made = i.made }

  pub accepts-not : (r : Refusal) → Made d → Examines (explicitly f) (Err r) → Accepts d f (number_of r) d
  accepts-not r m q = settled-accepts (Err r) (number_of r) d q (settles-not d r m)

  pub accepts : (s : clip.ClipSet) (e : Resolver) → Examines (explicitly f) (Ok s) → Installs d s e → Accepts d f 0 e
  accepts s e q i = settled-accepts (Ok s) 0 e q (settles d s e i)

module _ (d : Resolver) (f : TemplateFields) where
  settled-expands : (p : Result clip.ClipSet Refusal) (n : ℕ) (e : Resolver) → Examines (by_template f) p → Settles d p n e → Expands d f n e
  settled-expands p n e q i = record { number = settled-number d (by_template f) p q n e i; kept = i.kept; after = settled-after d (by_template f) p q n e i; made = i.made }

  pub expands-not : (r : Refusal) → Made d → Examines (by_template f) (Err r) → Expands d f (number_of r) d
  expands-not r m q = settled-expands (Err r) (number_of r) d q (settles-not d r m)

  pub expands : (s : clip.ClipSet) (e : Resolver) → Examines (by_template f) (Ok s) → Installs d s e → Expands d f 0 e
  expands s e q i = settled-expands (Ok s) 0 e q (settles d s e i)

-- ---- retiming

-- what stands, by the flags
none-stands : (d : Resolver) → d.stands ≡ false → model d ≡ no_set
none-stands d e = ap (λ (b : Bool). cond b (standing (set_in d.set)) no_set) e

stands-as : (d : Resolver) → d.stands ≡ true → model d ≡ standing (set_in d.set)
stands-as d e = ap (λ (x : Bool). cond x (standing (set_in d.set)) no_set) e

pub stands-sound : (d : Resolver) → Made d → d.stands ≡ true → Sound (set_in d.set)
stands-sound d m e = subst SoundModel (stands-as d e) m.sound

-- what the searches ask of the starts and the knots
paired : {A B : Type 0} {most k : ℕ} {l : List A} {r : List B} → Room most l k → Room most r k → length (take k l) ≡ length (take k r)
paired {k = k} {l = l} {r = r} p q = length-take-le k l (omega (arith, p.long, p.few)) ∙ sym (length-take-le k r (omega (arith, q.long, q.few)))

pub starts-ascend : (d : Resolver) → Made d → d.stands ≡ true → Ascending (take d.set.counts.starts d.set.starts)
starts-ascend d m e =
    subst Ascending (active-times (take d.set.counts.starts d.set.starts) (take d.set.counts.starts d.set.numbers) (paired m.whole.in-starts m.whole.in-numbers))
    (unfold set_of in sound-active (set_in d.set) (stands-sound d m e))

pub knots-ascend : (d : Resolver) → Made d → d.stands ≡ true → Ascending (take d.set.counts.knots d.set.xs)
knots-ascend d m e =
    subst Ascending (knot-times (take d.set.counts.knots d.set.xs) (take d.set.counts.knots d.set.ys) (paired m.whole.in-xs m.whole.in_ys))
    (unfold set_of in sound-knots (set_in d.set) (stands-sound d m e))

pub retimes-20 : (d : Resolver) (o : LayerOffset) → Made d → d.stands ≡ false → Retimes d o 20 d
unfolding step retime_number
retimes-20 d o m e =
    let n : 20 ≡ retime_number (model d) o = sym (ap (λ (x : Model). retime_number x o) (none-stands d e)) in
    record { number = n; kept = λ n. refl; after = is-kept (model d) (retimed o (model d)) NoSet (retime_number (model d) o) n; made = m }

module _ (d : Resolver) (o : LayerOffset) (set : clip.ClipSet) (h : d.stands ≡ true) (k : Packed (set_in d.set) set) where
  settled-retimes : (p : Result clip.ClipSet Refusal) (n : ℕ) (e : Resolver) → sets.Retimes set o p → Settles d p n e → Retimes d o n e
  unfolding step retime_number
  settled-retimes p n e q i =
      let m : number_in p ≡ retime_number (model d) o = q.reply.number ∙ ap (λ (x : ClipSet). moved_number x o) k.is ∙ sym (ap (λ (x : Model). retime_number x o) (stands-as d h)) in
      record {
        number = i.number ∙ m;
        kept = i.kept;
        after = i.after ∙ stands-after-is (model d) (clip_set_of set) p ∙ accepted-same (number_in p) (retime_number (model d) o) (model d) (standing (set_after (clip_set_of set) p)) (retimed o (model d)) m
            (λ z. ap standing (made-is (clip_set_of set) (retime_stage_times o (clip_set_of set)) p (moved_number (clip_set_of set) o) q z ∙ ap (retime_stage_times o) k.is) ∙ sym (ap (retimed o) (stands-as d h)));
        made = i.made;
      }

  pub retimes-not : (r : Refusal) → Made d → sets.Retimes set o (Err r) → Retimes d o (number_of r) d
  retimes-not r m q = settled-retimes (Err r) (number_of r) d q (settles-not d r m)

  pub retimes : (s : clip.ClipSet) (e : Resolver) → sets.Retimes set o (Ok s) → Installs d s e → Retimes d o 0 e
  retimes s e q i = settled-retimes (Ok s) 0 e q (settles d s e i)

-- ---- questions

module _ {A : Type 0} (f : ClipSet → Reply A) (d : Resolver) where
  pub asked-20 : d.stands ≡ false → refused 20 ≡ of_set (model d) f
  asked-20 e = sym (ap (λ (m : Model). of_set m f) (none-stands d e))

  pub asked : d.stands ≡ true → f (set_in d.set) ≡ of_set (model d) f
  asked e = sym (ap (λ (m : Model). of_set m f) (stands-as d e))

module _ {A : Type 0} (t : StageTime) (a : A) where
  pub not_finite : finite t.0 ≡ false → refused 10 ≡ reply (stage_time_number t) a
  not_finite e = ap (λ (b : Bool). reply (10 if not b else 0) a) (sym e)

  pub is_finite : finite t.0 ≡ true → replied a ≡ reply (stage_time_number t) a
  is_finite e = ap (λ (b : Bool). reply (10 if not b else 0) a) (sym e)

-- ---- questions with samples

refused-then : {A : Type 0} (n k : ℕ) (a : A) → (n ≡ 0 → ⊥) → refused n ≡ reply (n then k) a
refused-then zero k a h = absurd (h refl)
refused-then (suc n) k a h = refl

module _ {A : Type 0} (s : Samples) (k : ClipSet → ℕ) (a : ClipSet → A) (d : Resolver) (e : d.stands ≡ true) where
  abbrev asking : ClipSet → Reply A
  asking set = reply (samples_number set s then k set) (a set)

  -- the samples are refused
  pub samples-refused : (n : ℕ) → n ≡ samples_number (set_in d.set) s → (n ≡ 0 → ⊥) → refused n ≡ of_set (model d) asking
  samples-refused n q h = refused-then n (k (set_in d.set)) (a (set_in d.set)) h ∙ ap (λ (m : ℕ). reply (m then k (set_in d.set)) (a (set_in d.set))) q ∙ asked asking d e

  pub samples-passed : samples_number (set_in d.set) s ≡ 0 → reply (k (set_in d.set)) (a (set_in d.set)) ≡ of_set (model d) asking
  samples-passed z = ap (λ (m : ℕ). reply (m then k (set_in d.set)) (a (set_in d.set))) (sym z) ∙ asked asking d e

-- a question for whose samples alone it may be refused
module _ {A : Type 0} (s : Samples) (a : ClipSet → A) (d : Resolver) (e : d.stands ≡ true) where
  abbrev plainly : ClipSet → Reply A
  plainly set = reply (samples_number set s) (a set)

  pub plainly-refused : (n : ℕ) → n ≡ samples_number (set_in d.set) s → (n ≡ 0 → ⊥) → refused n ≡ of_set (model d) plainly
  plainly-refused n q h = refuses n h ∙ ap (λ (m : ℕ). reply m (a (set_in d.set))) q ∙ asked plainly d e
    where
      refuses : (m : ℕ) → (m ≡ 0 → ⊥) → refused m ≡ reply m (a (set_in d.set))
      refuses zero g = absurd (g refl)
      refuses (suc m) g = refl

  pub plainly-replied : samples_number (set_in d.set) s ≡ 0 → replied (a (set_in d.set)) ≡ of_set (model d) plainly
  plainly-replied z = ap (λ (m : ℕ). reply m (a (set_in d.set))) (sym z) ∙ asked plainly d e

pub judged-number : (d : Resolver) {times values : List Float} {marks ends : List ℕ} {n : ℕ} → Judged d.set.clips times values marks ends n → n ≡ samples_number (set_in d.set) (samples_of times values marks ends)
judged-number d j = j.number (set_in d.set) (unfold set_of in refl)

-- what the operation has shown, where the samples are accepted
module _ (d : Resolver) {times values : List Float} {marks ends : List ℕ} {n : ℕ} (m : Made d) (e : d.stands ≡ true) (j : Judged d.set.clips times values marks ends n) (z : n ≡ 0) where
  is-accepted : AcceptedSamples (set_in d.set) (samples_of times values marks ends)
  is-accepted = judged-accepted j z (set_in d.set) (unfold set_of in refl)

  -- the entries that are lent are the standing set, with as many clips as there are ends
  pub lent-is : lent_set (length ends) d.set.counts d.set.starts d.set.numbers d.set.xs d.set.ys d.set.blocks d.set.manifest ≡ set_in d.set
  lent-is =
      ap (λ (k : ℕ). lent_set k d.set.counts d.set.starts d.set.numbers d.set.xs d.set.ys d.set.blocks d.set.manifest)
      (is-accepted.ends ∙ (unfold set_of in refl))

  pub is-asked : Asked d.set.counts d.set.starts d.set.numbers d.set.xs d.set.ys d.set.blocks d.set.manifest times values marks ends
  is-asked = record {
    arrays = m.whole;
    ready = record {
      starts-paired = paired m.whole.in-starts m.whole.in-numbers;
      knots-paired = paired m.whole.in-xs m.whole.in_ys;
      sound = subst Sound (sym lent-is) (stands-sound d m e);
      accepted = subst (λ (x : ClipSet). AcceptedSamples x (samples_of times values marks ends)) (sym lent-is) is-accepted;
      numbers = j.values-fit;
    };
  }

  -- "Stage sample times are finite, strictly ascending, every start among them."
  pub times-are-so : StageSampleTimesAre (set_in d.set) (stage_sample_times (set_in d.set) (samples_of times values marks ends))
  times-are-so = stage-sample-times (set_in d.set) (samples_of times values marks ends) (record { sound = stands-sound d m e; doubles = j.times-fit; accepted = sym (judged-number d j) ∙ z })

  pub bakes-set : (before after : Outputs) (r : Result Baked Refusal)
      → BakeIs (lent_set (length ends) d.set.counts d.set.starts d.set.numbers d.set.xs d.set.ys d.set.blocks d.set.manifest) (samples_of times values marks ends) before after r
      → BakesTrack d (samples_of times values marks ends) before r after
  bakes-set before after r p =
      let s = samples_of times values marks ends in
      let sound = stands-sound d m e in
      let q = subst (λ (x : ClipSet). BakeIs x s before after r) lent-is p in
      subst (λ (x : Model). Bakes x s before (baked_reply r) after) (sym (stands-as d e))
      (bakes (set_in d.set) s (sound-set (set_in d.set) sound) (sound-samples (set_in d.set) s is-accepted)
      (sound-values (set_in d.set) s sound is-accepted j.values-fit) (sym (judged-number d j) ∙ z) before after r q)

  pub counts-set : (n : ℕ) → n ≡ length (track_of (lent_set (length ends) d.set.counts d.set.starts d.set.numbers d.set.xs d.set.ys d.set.blocks d.set.manifest) (samples_of times values marks ends)).changes
      → CountsChanges (model d) (samples_of times values marks ends) (replied n)
  counts-set n q =
      let s = samples_of times values marks ends in
      let sound = stands-sound d m e in
      let track = track_of (set_in d.set) s in
      subst (λ (x : Model). CountsChanges x s (replied n)) (sym (stands-as d e)) (record {
        track = track;
        is = λ set p k. subst (λ (x : ClipSet). TrackOf (value_in_set x s) (track_of (set_in d.set) s)) (same-standing (set_in d.set) set p)
            (track-is (set_in d.set) s (sound-set (set_in d.set) sound) (sound-samples (set_in d.set) s is-accepted) (sound-values (set_in d.set) s sound is-accepted j.values-fit));
        replies = ap replied (q ∙ ap (λ (x : ClipSet). length (track_of x s).changes) lent-is) ∙ ap (λ (k : ℕ). reply k (length (track_of (set_in d.set) s).changes)) (sym (sym (judged-number d j) ∙ z));
      })

-- ---- the active clip

pub clip-told : (o : Option ℕ) (r : Prelude.Option ℕ) → r ≡ answered o → clip_reply (Ok r) ≡ replied o
clip-told o r e = ap (λ (x : Prelude.Option ℕ). clip_reply (Ok x)) e ∙ told o
  where
    told : (o : Option ℕ) → clip_reply (Ok (answered o)) ≡ replied o
    told none = refl
    told (some x) = refl

-- ---- the bake

other : {A : Type 0} → ◌≡◌ {A = ℕ} 0 1 → A
other e = absurd (omega arith)

-- a track that nobody asks for
abbrev no_track : Track
no_track = record { initial = record { value = 0·0; mark = 0 }; changes = [] }

pub bakes-20 : (d : Resolver) (s : Samples) (o : Outputs) → d.stands ≡ false → Bakes (model d) s o (refused 20) o
bakes-20 d s o e = subst (λ (m : Model). Bakes m s o (refused 20) o) (sym (none-stands d e)) (record {
  track = no_track;
  is = λ set q. other (cc);
  replies = unfold bake_number in refl;
  writes = unfold bake_number in refl;
})

pub bakes-refused : (d : Resolver) (s : Samples) (o : Outputs) (n : ℕ) → d.stands ≡ true → n ≡ samples_number (set_in d.set) s → (n ≡ 0 → ⊥) → Bakes (model d) s o (refused n) o
bakes-refused d s o n e q h = subst (λ (m : Model). Bakes m s o (refused n) o) (sym (stands-as d e)) (record {
  track = no_track;
  is = λ set p z. absurd (h (q ∙ ap (λ (x : ClipSet). samples_number x s) (same-standing (set_in d.set) set p) ∙ z));
  replies = refuses n h ∙ ap (λ (m : ℕ). reply m (baked_of no_track)) number_is;
  writes = keeps n h ∙ ap (λ (m : ℕ). outputs_after m no_track o) number_is;
})
  where
    kept : (m k : ℕ) → (m ≡ 0 → ⊥) → m ≡ (m then k)
    kept zero k g = absurd (g refl)
    kept (suc m) k g = refl

    number_is : n ≡ bake_number (standing (set_in d.set)) s (slots o) 0
    number_is = unfold bake_number in kept n (22 if ltb (slots o) 0 else 0) h ∙ ap (λ (m : ℕ). m then 22 if ltb (slots o) 0 else 0) q

    refuses : (m : ℕ) → (m ≡ 0 → ⊥) → refused m ≡ reply m (baked_of no_track)
    refuses zero g = absurd (g refl)
    refuses (suc m) g = refl

    keeps : (m : ℕ) → (m ≡ 0 → ⊥) → o ≡ outputs_after m no_track o
    keeps zero g = absurd (g refl)
    keeps (suc m) g = refl

-- ---- the count of the changes, where it is refused

pub counts-20 : (d : Resolver) (s : Samples) → d.stands ≡ false → CountsChanges (model d) s (refused 20)
counts-20 d s e = subst (λ (m : Model). CountsChanges m s (refused 20)) (sym (none-stands d e)) (record { track = no_track; is = λ set q. other (cc); replies = refl })

pub counts-refused : (d : Resolver) (s : Samples) (n : ℕ) → d.stands ≡ true → n ≡ samples_number (set_in d.set) s → (n ≡ 0 → ⊥) → CountsChanges (model d) s (refused n)
counts-refused d s n e q h = record {
  track = no_track;
  is = λ set p z. absurd (h (q ∙ ap (λ (x : ClipSet). samples_number x s) (same-standing (set_in d.set) set (sym (stands-as d e) ∙ p)) ∙ z));
  replies = plainly-refused s (λ (x : ClipSet). 0) d e n q h;
}

-- ---- the questions whose reply is a list, by their replies

pub times-refused : (d : Resolver) (s : Samples) (before : List Float) (r : Refusal) → refused (number_of r) ≡ ask_stage_sample_times (model d) s (length before) → TellsTimes d s before before (Err r)
times-refused d s before r q = record {
  count = ap counted q;
  times = ap (λ (x : Reply (List Float)). listed itself x before) q;
  are = λ set p. tt;
}

-- where it is replied to, the list stands at the front
list_written : (l before after : List Float) (n : ℕ) → ListsTimes l before after (Ok n) → take n after ≡ l
list_written l before after n p = go (room_number (length before) (length l)) p.count p.times
  where
    themselves : (l : List Float) → map itself l ≡ l
    themselves [] = refl
    themselves (x ∷ l) = ap (λ (k : List Float). x ∷ k) (themselves l)

    count : Reply ℕ → ℕ
    count (refused k) = 0
    count (replied k) = k

    go : (k : ℕ) → replied n ≡ counted (reply k l) → after ≡ listed itself (reply k l) before → take n after ≡ l
    go zero c t = ap₂ take (ap count c) (t ∙ ap (λ (k : List Float). written_over k before) (themselves l)) ∙ take-append_seam l (drop (length l) before)
    go (suc k) c t = absurd (omega (arith, ap Questions.number_of c))

pub times-replied : (d : Resolver) (s : Samples) (l l' before after : List Float) (r : Result ℕ Refusal) → l ≡ l' → ListsTimes l before after r → reply (room_number (length before) (length l')) l' ≡ ask_stage_sample_times (model d) s (length before)
    → d.stands ≡ true → StageSampleTimesAre (set_in d.set) l' → TellsTimes d s before after r
times-replied d s l l' before after r e p q b are =
    let k = subst (λ (x : List Float). ListsTimes x before after r) e p in
    record {
      count = k.count ∙ ap counted q;
      times = k.times ∙ ap (λ (x : Reply (List Float)). listed itself x before) q;
      are = λ set m. subst (λ (x : ClipSet). IfOk r (λ (n : ℕ). StageSampleTimesAre x (take n after))) (same-standing (set_in d.set) set (sym (stands-as d b) ∙ m)) (go r k);
    }
  where
    go : (r : Result ℕ Refusal) → ListsTimes l' before after r → IfOk r (λ (n : ℕ). StageSampleTimesAre (set_in d.set) (take n after))
    go (Ok n) k = subst (StageSampleTimesAre (set_in d.set)) (sym (list_written l' before after n k)) are
    go (Err x) k = tt

pub list-refused : (d : Resolver) (s : Samples) (ts : List Float) (ms : List ℕ) (r : Refusal) → refused (number_of r) ≡ ask_stage_samples (model d) s (min (length ts) (length ms)) → TellsSamples d s ts ts ms ms (Err r)
list-refused d s ts ms r q = record {
  count = ap counted q;
  written-times = ap (λ (x : Reply (List StageSample)). listed time_of x ts) q;
  written-marks = ap (λ (x : Reply (List StageSample)). listed mark_in x ms) q;
}

pub list-replied : (d : Resolver) (s : Samples) (l l' : List StageSample) (ts ts' : List Float) (ms ms' : List ℕ) (r : Result ℕ Refusal) → l ≡ l' → ListsSamples l ts ts' ms ms' r
    → reply (room_number (min (length ts) (length ms)) (length l')) l' ≡ ask_stage_samples (model d) s (min (length ts) (length ms)) → TellsSamples d s ts ts' ms ms' r
list-replied d s l l' ts ts' ms ms' r e p q =
    let k = subst (λ (x : List StageSample). ListsSamples x ts ts' ms ms' r) e p in
    record {
      count = k.count ∙ ap counted q;
      written-times = k.written-times ∙ ap (λ (x : Reply (List StageSample)). listed time_of x ts) q;
      written-marks = k.written-marks ∙ ap (λ (x : Reply (List StageSample)). listed mark_in x ms) q;
    }
