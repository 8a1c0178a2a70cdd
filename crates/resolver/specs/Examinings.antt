-- Examining and installing for this resolver: acceptance is the two in a row, and examinings leave no trace, by the very promises that the operations' `ensures` cite.
-- Assumes nothing.
use Rattle.std.specs.Prelude as Prelude
use Rattle.std.specs.Prelude.{ℕ, ◌≡◌, List, Float, Result, IfOk}
use Rattle.std.proofs.Math.Option.{Option}
use Rattle.definitions.specs.declared.StageTime.{StageTime}
use Rattle.definitions.specs.declared.ClipTime.{ClipTime}
use Rattle.definitions.specs.declared.ValueRead.{ValueRead}
use Rattle.definitions.specs.declared.ValueState.{ValueState}
use Rattle.definitions.specs.Samples.{Samples}
use Rattle.definitions.specs.Track.{Outputs}
use Rattle.definitions.specs.declared.refusal.Refusal.{Refusal}
use Rattle.definitions.specs.Refusals.{number_in, reply_of}
use Rattle.definitions.specs.Questions.{Reply}
use Rattle.definitions.specs.Calls.{Call, explicit, template, install, retime, bake, accepted, Baked}
use Rattle.definitions.specs.Examining.{Fields, explicitly, by_template, Examined}
use Rattle.definitions.specs.Traces as traces
use Rattle.clip.specs.declared.ClipSet as clip
use Rattle.clip.specs.Preparing.{Examines, examined_of}
use Rattle.resolver.specs.declared.Resolver.{Resolver}
use Rattle.resolver.specs.State.{model, Made}
use Rattle.resolver.specs.Promises.{Accepts, Expands, Installs, Retimes, clip_reply, TellsClip, TellsTime, TellsValue, TellsUntimed, TellsTimes, TellsSamples, TellsSampleCount, TellsChangeCount}
use Rattle.resolver.specs.WholeList.{Moves, Replies}

-- ---- "Acceptance is the two in a row."

-- what an acceptance of the fields promises
abbrev pub AcceptsFields : Resolver → Fields → ℕ → Resolver → Type 0
AcceptsFields d (explicitly f) n e = Accepts d f n e
AcceptsFields d (by_template f) n e = Expands d f n e

-- the number is examining's; where it is 0 what stands is what installing leaves, and else the resolver is the one that went in
pub record AsTheTwo (d : Resolver) (p : Result clip.ClipSet Refusal) (e : Resolver) (n : ℕ) (a : Resolver) : Type 0 where
  pub number : n ≡ number_in p
  pub kept : (number_in p ≡ 0 → ⊥) → a ≡ d
  pub stands : model a ≡ accepted (number_in p) (model d) (model e)

-- e is left by an installing of the set that examining hands back; where it hands back none, e may be any
abbrev pub AcceptanceInARow : Type 0
AcceptanceInARow =
    (d : Resolver) (f : Fields) (p : Result clip.ClipSet Refusal) (e : Resolver) (n : ℕ) (a : Resolver)
    → Examines f p → IfOk p (λ (s : clip.ClipSet). Installs d s e) → AcceptsFields d f n a → AsTheTwo d p e n a

-- ---- "Every desk's replies are those to the same calls without the examinings."

-- every operation on a resolver, with its arguments, the lists for its output too
pub data Operation : Type 0 where
  listed : Call → Operation
  active-clip : StageTime → Operation
  clip-time : StageTime → Operation
  value : Samples → StageTime → Operation
  untimed : Samples → Operation
  stage-sample-times : Samples → List Float → Operation
  stage-samples : Samples → List Float → List ℕ → Operation
  stage-sample-count : Samples → Operation
  change-count : Samples → Operation

-- what it replies: a number or an answer, and the lists after it
abbrev pub Told : Operation → Type 0
Told (listed (explicit f)) = ℕ
Told (listed (template f)) = ℕ
Told (listed (install set)) = Unit {0}
Told (listed (retime o)) = ℕ
Told (listed (bake s o)) = Reply Baked × Outputs
Told (active-clip t) = Reply (Option ℕ)
Told (clip-time t) = Reply ClipTime
Told (value s t) = Reply ValueRead
Told (untimed s) = Reply ValueState
Told (stage-sample-times s times) = Reply ℕ × List Float
Told (stage-samples s times marks) = Reply ℕ × List Float × List ℕ
Told (stage-sample-count s) = Reply ℕ
Told (change-count s) = Reply ℕ

-- by its `ensures`, where its `requires` holds. A question leaves d.
abbrev pub Does : (c : Operation) → Resolver → Told c → Resolver → Type 0
Does (listed (explicit f)) d n e = Made d → Accepts d f n e
Does (listed (template f)) d n e = Made d → Expands d f n e
Does (listed (install set)) d n e = Moves (install set) d e
Does (listed (retime o)) d n e = Made d → Retimes d o n e
Does (listed (bake s o)) d (r, p) e = Replies d s o r p × (d ≡ e)
Does (active-clip t) d r e = (a : Result (Prelude.Option ℕ) Refusal) × (Made d → TellsClip d t a) × (clip_reply a ≡ r) × (d ≡ e)
Does (clip-time t) d r e = (a : Result ClipTime Refusal) × (Made d → TellsTime d t a) × (reply_of a ≡ r) × (d ≡ e)
Does (value s t) d r e = (a : Result ValueRead Refusal) × (Made d → TellsValue d s t a) × (reply_of a ≡ r) × (d ≡ e)
Does (untimed s) d r e = (a : Result ValueState Refusal) × (Made d → TellsUntimed d s a) × (reply_of a ≡ r) × (d ≡ e)
Does (stage-sample-times s times) d (r, times') e = (a : Result ℕ Refusal) × (Made d → TellsTimes d s times times' a) × (reply_of a ≡ r) × (d ≡ e)
Does (stage-samples s times marks) d (r, times', marks') e = (a : Result ℕ Refusal) × (Made d → TellsSamples d s times times' marks marks' a) × (reply_of a ≡ r) × (d ≡ e)
Does (stage-sample-count s) d r e = (a : Result ℕ Refusal) × (Made d → TellsSampleCount d s a) × (reply_of a ≡ r) × (d ≡ e)
Does (change-count s) d r e = (a : Result ℕ Refusal) × (Made d → TellsChangeCount d s a) × (reply_of a ≡ r) × (d ≡ e)

-- an examining is given no resolver
abbrev pub Looks : Fields → Examined → Type 0
Looks f x = (p : Result clip.ClipSet Refusal) × Examines f p × (examined_of p ≡ x)

abbrev pub NoTrace : Type 0
NoTrace = traces.NoTrace Told Does Looks model Made
