-- Acceptance is examining and installing in a row; each operation's reply is settled by what stands, so examinings leave no trace. Assumes nothing.
use Prim.Native.Nat.{ℕ, zero, suc, min}
use mathlib.Core.Path.{◌≡◌, refl, sym, ap, ◌∙◌, subst}
use mathlib.Core.List.{List}
use lib.ListN.{length}
use lib.Ieee.{Float}
use Rattle.definitions.specs.ClipSet.{ClipSet, Model, no_set, standing}
use Rattle.definitions.specs.Samples.{Samples, samples_number}
use Rattle.definitions.specs.StageSamples.{StageSample}
use Rattle.definitions.specs.Value.{value_in_set}
use Rattle.definitions.specs.Track.{Track, Outputs, slots, bake_number}
use Rattle.definitions.specs.Refusals.{reply_of}
use Rattle.definitions.specs.Questions.{Reply, reply, ask_active_clip, ask_clip_time, ask_value, ask_untimed, ask_stage_sample_times, ask_stage_samples, ask_stage_sample_count}
use Rattle.definitions.specs.Calls.{explicit, template, install, retime, bake, step, accepted, Baked, baked_of, outputs_after, Bakes, CountsChanges}
use Rattle.definitions.specs.Explicit.{explicit_number}
use Rattle.definitions.specs.Template.{template_number}
use Rattle.definitions.specs.Retime.{retime_number}
use Rattle.definitions.specs.Examining.{Fields, explicitly, by_template, Examined, examine, acceptance}
use Rattle.definitions.proofs.TrackFacts.{one-track}
use Rattle.definitions.proofs.Traces as traces
use Rattle.definitions.proofs.Traces.{in_a_row, no-trace}
use Rattle.sdf.specs.Counted.{counted, listed as listing, itself}
use Rattle.standing.specs.Lists.{time_of, mark_in}
use Rattle.std.specs.Prelude.{Result, Ok, Err, IfOk}
use Rattle.definitions.specs.declared.refusal.Refusal.{Refusal}
use Rattle.definitions.specs.Refusals.{number_of, number_in}
use Rattle.definitions.specs.Examining.{empty_set}
use Rattle.clip.specs.declared.ClipSet as clip
use Rattle.clip.specs.Preparing.{set_after, Examines}
use Rattle.clip.proofs.Preparing.{is-kept}
use Rattle.resolver.specs.declared.Resolver.{Resolver}
use Rattle.resolver.specs.State.{model, Made}
use Rattle.resolver.specs.Promises.{Installs}
use Rattle.resolver.specs.Examinings.{AcceptsFields, AsTheTwo, AcceptanceInARow, Operation, listed, active-clip, clip-time, value, untimed, stage-sample-times, stage-samples, stage-sample-count, change-count, Told, Does, Looks, NoTrace}

-- ---- acceptance

pub acceptance-in-a-row : AcceptanceInARow
unfolding step examine
acceptance-in-a-row d f p e n a x i h = go f x h
  where
    installed : (p : Result clip.ClipSet Refusal) → IfOk p (λ (s : clip.ClipSet). Installs d s e)
        → accepted (number_in p) (model d) (standing (set_after empty_set p)) ≡ accepted (number_in p) (model d) (model e)
    installed (Ok s) i = sym i.after
    installed (Err r) i = sym (is-kept (model d) (standing empty_set) r (number_of r) refl) ∙ is-kept (model d) (model e) r (number_of r) refl

    stands : (f : Fields) → Examines f p → model a ≡ step (model d) (acceptance f) → model a ≡ accepted (number_in p) (model d) (model e)
    stands f x q =
        q ∙ in_a_row (model d) f ∙ ap (λ (y : Examined). accepted y.number (model d) (standing y.set)) (sym x.reply) ∙ installed p i

    number-of : (f : Fields) → Examines f p → (examine f).number ≡ number_in p
    number-of f x = ap (λ (y : Examined). y.number) (sym x.reply)

    go : (f : Fields) → Examines f p → AcceptsFields d f n a → AsTheTwo d p e n a
    go (explicitly f) x h =
        let q : n ≡ number_in p = h.number ∙ number-of (explicitly f) x in
        record { number = q; kept = λ k. h.kept (λ z. k (sym q ∙ z)); stands = stands (explicitly f) x h.after }
    go (by_template f) x h =
        let q : n ≡ number_in p = h.number ∙ number-of (by_template f) x in
        record { number = q; kept = λ k. h.kept (λ z. k (sym q ∙ z)); stands = stands (by_template f) x h.after }

-- ---- one reply

-- a bake's: where the samples are accepted there is one track, and else none is needed
bakes-once : (m : Model) (s : Samples) (o : Outputs) (r r' : Reply Baked) (p p' : Outputs) → Bakes m s o r p → Bakes m s o r' p' → (r ≡ r') × (p ≡ p')
unfolding bake_number
bakes-once no_set s o r r' p p' k k' = (k.replies ∙ sym k'.replies, k.writes ∙ sym k'.writes)
bakes-once (standing set) s o r r' p p' k k' = go (samples_number set s) refl
  where
    number : Track → ℕ
    number t = bake_number (standing set) s (slots o) (length t.changes)

    by-track : k.track ≡ k'.track → (r ≡ r') × (p ≡ p')
    by-track e = (
      k.replies ∙ ap (λ (t : Track). reply (number t) (baked_of t)) e ∙ sym k'.replies,
      k.writes ∙ ap (λ (t : Track). outputs_after (number t) t o) e ∙ sym k'.writes,
    )

    by_number : (n : ℕ) → ((t : Track) → number t ≡ suc n) → (r ≡ r') × (p ≡ p')
    by_number n e = (
      k.replies ∙ ap (λ (i : ℕ). reply i (baked_of k.track)) (e k.track) ∙ ap (λ (i : ℕ). reply i (baked_of k'.track)) (sym (e k'.track)) ∙ sym k'.replies,
      k.writes ∙ ap (λ (i : ℕ). outputs_after i k.track o) (e k.track) ∙ ap (λ (i : ℕ). outputs_after i k'.track o) (sym (e k'.track)) ∙ sym k'.writes,
    )

    go : (n : ℕ) → samples_number set s ≡ n → (r ≡ r') × (p ≡ p')
    go zero z = by-track (one-track (value_in_set set s) k.track k'.track (k.is set refl z) (k'.is set refl z))
    go (suc n) z = by_number n (λ t. rw z)

-- the count's
counts-once : (m : Model) (s : Samples) (r r' : Reply ℕ) → CountsChanges m s r → CountsChanges m s r' → r ≡ r'
counts-once no_set s r r' k k' = k.replies ∙ sym k'.replies
counts-once (standing set) s r r' k k' = go (samples_number set s) refl
  where
    go : (n : ℕ) → samples_number set s ≡ n → r ≡ r'
    go zero z =
        k.replies
        ∙ ap (λ (t : Track). reply (samples_number set s) (length t.changes)) (one-track (value_in_set set s) k.track k'.track (k.is set refl z) (k'.is set refl z))
        ∙ sym k'.replies
    go (suc n) z =
        k.replies
        ∙ ap (λ (i : ℕ). reply i (length k.track.changes)) z
        ∙ ap (λ (i : ℕ). reply i (length k'.track.changes)) (sym z)
        ∙ sym k'.replies

-- ---- no trace

abbrev Settled : (c : Operation) → Told c → Told c → Resolver → Resolver → Type 0
Settled c r r' e e' = traces.Settled Told Does Looks model Made c r r' e e'

-- a call of whose number and of the resolver after it the model says what they are
by-step : (c : Operation) {r r' : Told c} (d d' e e' : Resolver) (n : Model → Told c) (after : Model → Model) → model d ≡ model d'
    → r ≡ n (model d) → r' ≡ n (model d') → model e ≡ after (model d) → model e' ≡ after (model d') → Made e → Made e' → Settled c r r' e e'
by-step c d d' e e' n after q a a' b b' m m' = record { reply = a ∙ ap n q ∙ sym a'; stands = b ∙ ap after q ∙ sym b'; made = m; made' = m' }

-- a question
asked : (c : Operation) {r r' : Told c} (d d' e e' : Resolver) → model d ≡ model d' → r ≡ r' → d ≡ e → d' ≡ e' → Made d → Made d' → Settled c r r' e e'
asked c d d' e e' q a l l' m m' = record { reply = a; stands = ap model (sym l) ∙ q ∙ ap model l'; made = subst Made l m; made' = subst Made l' m' }

settles : (c : Operation) (d d' e e' : Resolver) (r r' : Told c) → Made d → Made d' → model d ≡ model d' → Does c d r e → Does c d' r' e' → Settled c r r' e e'
settles (listed (explicit f)) d d' e e' n n' m m' q p p' =
    by-step (listed (explicit f)) d d' e e' (λ (x : Model). explicit_number f) (λ (x : Model). step x (explicit f)) q (p m).number (p' m').number (p m).after (p' m').after (p m).made (p' m').made
settles (listed (template f)) d d' e e' n n' m m' q p p' =
    by-step (listed (template f)) d d' e e' (λ (x : Model). template_number f) (λ (x : Model). step x (template f)) q (p m).number (p' m').number (p m).after (p' m').after (p m).made (p' m').made
settles (listed (install set)) d d' e e' n n' m m' q (p, k, c, i) (p', k', c', i') =
    by-step (listed (install set)) d d' e e' (λ (x : Model). tt) (λ (x : Model). step x (install set)) q refl refl
    ((i m k).after ∙ ap (λ (x : ClipSet). step (model d) (install x)) c) ((i' m' k').after ∙ ap (λ (x : ClipSet). step (model d') (install x)) c') (i m k).made (i' m' k').made
settles (listed (retime o)) d d' e e' n n' m m' q p p' =
    by-step (listed (retime o)) d d' e e' (λ (x : Model). retime_number x o) (λ (x : Model). step x (retime o)) q (p m).number (p' m').number (p m).after (p' m').after (p m).made (p' m').made
settles (listed (bake s o)) d d' e e' (r, p) (r', p') m m' q ((b, k, a), l) ((b', k', a'), l') =
    let first : Bakes (model d') s o r p = subst (λ (x : Model). Bakes x s o r p) q (subst (λ (x : Reply Baked). Bakes (model d) s o x p) a (k m)) in
    let second : Bakes (model d') s o r' p' = subst (λ (x : Reply Baked). Bakes (model d') s o x p') a' (k' m') in
    let same = bakes-once (model d') s o r r' p p' first second in
    asked (listed (bake s o)) d d' e e' q (λ i. (same.0 i, same.1 i)) l l' m m'
settles (active-clip t) d d' e e' r r' m m' q (a, p, b, l) (a', p', b', l') =
    asked (active-clip t) d d' e e' q (sym b ∙ p m ∙ ap (λ (x : Model). ask_active_clip x t) q ∙ sym (p' m') ∙ b') l l' m m'
settles (clip-time t) d d' e e' r r' m m' q (a, p, b, l) (a', p', b', l') =
    asked (clip-time t) d d' e e' q (sym b ∙ p m ∙ ap (λ (x : Model). ask_clip_time x t) q ∙ sym (p' m') ∙ b') l l' m m'
settles (value s t) d d' e e' r r' m m' q (a, p, b, l) (a', p', b', l') =
    asked (value s t) d d' e e' q (sym b ∙ p m ∙ ap (λ (x : Model). ask_value x s t) q ∙ sym (p' m') ∙ b') l l' m m'
settles (untimed s) d d' e e' r r' m m' q (a, p, b, l) (a', p', b', l') =
    asked (untimed s) d d' e e' q (sym b ∙ p m ∙ ap (λ (x : Model). ask_untimed x s) q ∙ sym (p' m') ∙ b') l l' m m'
settles (stage-sample-times s times) d d' e e' (r, t) (r', t') m m' q (a, p, b, l) (a', p', b', l') =
    let ask = ap (λ (x : Model). ask_stage_sample_times x s (length times)) q in
    let same = sym b ∙ (p m).count ∙ ap counted ask ∙ sym (p' m').count ∙ b' in
    let written = (p m).times ∙ ap (λ (x : Reply (List Float)). listing itself x times) ask ∙ sym (p' m').times in
    asked (stage-sample-times s times) d d' e e' q (λ i. (same i, written i)) l l' m m'
settles (stage-samples s times marks) d d' e e' (r, t, k) (r', t', k') m m' q (a, p, b, l) (a', p', b', l') =
    let ask = ap (λ (x : Model). ask_stage_samples x s (min (length times) (length marks))) q in
    let same = sym b ∙ (p m).count ∙ ap counted ask ∙ sym (p' m').count ∙ b' in
    let first = (p m).written-times ∙ ap (λ (x : Reply (List StageSample)). listing time_of x times) ask ∙ sym (p' m').written-times in
    let second = (p m).written-marks ∙ ap (λ (x : Reply (List StageSample)). listing mark_in x marks) ask ∙ sym (p' m').written-marks in
    asked (stage-samples s times marks) d d' e e' q (λ i. (same i, first i, second i)) l l' m m'
settles (stage-sample-count s) d d' e e' r r' m m' q (a, p, b, l) (a', p', b', l') =
    asked (stage-sample-count s) d d' e e' q (sym b ∙ p m ∙ ap (λ (x : Model). ask_stage_sample_count x s) q ∙ sym (p' m') ∙ b') l l' m m'
settles (change-count s) d d' e e' r r' m m' q (a, p, b, l) (a', p', b', l') =
    let first = subst (λ (x : Model). CountsChanges x s (reply_of a)) q (p m) in
    asked (change-count s) d d' e e' q (sym b ∙ counts-once (model d') s (reply_of a) (reply_of a') first (p' m') ∙ b') l l' m m'

pub examinings-leave-no-trace : NoTrace
examinings-leave-no-trace = no-trace Told Does Looks model Made settles
