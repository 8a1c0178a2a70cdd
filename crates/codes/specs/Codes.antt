-- The numbers that stand for a reply's cases, and each question's promise in them: a code is right if some reply that the operation promises has it.
-- Assumes nothing.
use Rattle.std.specs.Prelude.{ℕ, ◌≡◌, true, false, List, Float, Option, Some, None, Result, Ok, Err}
use Rattle.std.proofs.Math.Option as Math
use Rattle.definitions.specs.declared.refusal.Refusal.{Refusal}
use Rattle.definitions.specs.declared.TemplateTimes.{TemplateTimes}
use Rattle.definitions.specs.declared.ValueRead.{ValueRead}
use Rattle.definitions.specs.Refusals.{number_of}
use Rattle.definitions.specs.Track.{Outputs}
use Rattle.gf.specs.Doubles.{0·0}
use Rattle.definitions.specs.declared.Answer.{Answer}
use Rattle.definitions.specs.declared.Answer.TheVariants as answer
use Rattle.definitions.specs.Value.{SampleRead}
use Rattle.definitions.specs.declared.StageTime.{StageTime}
use Rattle.definitions.specs.declared.ClipTime.{ClipTime}
use Rattle.definitions.specs.ClipSet.{mark_value, mark_block, mark_none}
use Rattle.definitions.specs.ClipSet as sets
use Rattle.definitions.specs.Samples.{Samples}
use Rattle.names.specs.Named.{Names}
use Rattle.definitions.specs.declared.ValueState.{ValueState}
use Rattle.definitions.specs.declared.ValueState.TheVariants as state
use Rattle.resolver.specs.declared.Resolver.{Resolver}
use Rattle.track.specs.declared.bake.Baked.{Baked}
use Rattle.template.specs.Expanding as expanding
use Rattle.normal_form.specs.Normalizes as normalizes
use Rattle.resolver.specs.Promises as promises
use Rattle.codes.specs.declared.ClipCode.{ClipCode}
use Rattle.codes.specs.declared.TimeCode.{TimeCode}
use Rattle.codes.specs.declared.ValueCode.{ValueCode}
use Rattle.codes.specs.declared.UntimedCode.{UntimedCode}
use Rattle.codes.specs.declared.Counted.{Counted}
use Rattle.codes.specs.declared.BakedCode.{BakedCode}

-- ---- the codes

abbrev pub clip_code : Result (Option ℕ) Refusal → ClipCode
clip_code (Ok (Some c)) = record { number = 0; found = true; clip = c }
clip_code (Ok None) = record { number = 0; found = false; clip = 0 }
clip_code (Err r) = record { number = number_of r; found = false; clip = 0 }

abbrev pub time_code : Result ClipTime Refusal → TimeCode
time_code (Ok t) = record { number = 0; time = t }
time_code (Err r) = record { number = number_of r; time = sets.clip 0·0 }

-- "clip and place: those of the sample read, .. else none": a yes or no of their own, and 0 where there are none
abbrev pub sample_code : (mark : ℕ) → Float → SampleRead → ValueCode
sample_code mark v (Some (c, i)) = record { number = 0; mark = mark; sampled = true; value = v; clip = c; place = i }
sample_code mark v None = record { number = 0; mark = mark; sampled = false; value = v; clip = 0; place = 0 }

-- "a number has mark 0, a blocked value 1, an absent one 2". A number has the bits that the question gives, whatever a track would write; where there is none stands 0.0.
abbrev pub answer_code : Answer → SampleRead → ValueCode
answer_code (answer.Value v) = sample_code mark_value v
answer_code answer.Blocked = sample_code mark_block 0·0
answer_code answer.Absent = sample_code mark_none 0·0

abbrev pub value_code : Result ValueRead Refusal → ValueCode
value_code (Ok x) = answer_code x.answer x.sample
value_code (Err r) = record { number = number_of r; mark = 0; sampled = false; value = 0·0; clip = 0; place = 0 }

abbrev pub state_code : ValueState → ℕ
state_code state.Present = 0
state_code state.Blocked = 1
state_code state.Absent = 2

abbrev pub untimed_code : Result ValueState Refusal → UntimedCode
untimed_code (Ok s) = record { number = 0; state = state_code s }
untimed_code (Err r) = record { number = number_of r; state = 0 }

-- a name's length, or how many entries there are
abbrev pub count_code : Result ℕ Refusal → Counted
count_code (Ok n) = record { number = 0; count = n }
count_code (Err r) = record { number = number_of r; count = 0 }

abbrev pub bake_code : Result Baked Refusal → BakedCode
bake_code (Ok b) = record { number = 0; mark = b.mark; value = b.value; count = b.count }
bake_code (Err r) = record { number = number_of r; mark = 0; value = 0·0; count = 0 }

-- ---- the promises

-- a code whose reply is one that the operation promises
pub record CodeOf {A B : Type 0} (code_of : A → B) (Promised : A → Type 0) (b : B) : Type 0 where
  pub reply : A
  pub told : Promised reply
  pub code : b ≡ code_of reply

abbrev pub TellsClip : Resolver → StageTime → ClipCode → Type 0
TellsClip d t a = CodeOf clip_code (promises.TellsClip d t) a

abbrev pub TellsTime : Resolver → StageTime → TimeCode → Type 0
TellsTime d t a = CodeOf time_code (promises.TellsTime d t) a

abbrev pub TellsValue : Resolver → Samples → StageTime → ValueCode → Type 0
TellsValue d s t a = CodeOf value_code (promises.TellsValue d s t) a

abbrev pub TellsUntimed : Resolver → Samples → UntimedCode → Type 0
TellsUntimed d s a = CodeOf untimed_code (promises.TellsUntimed d s) a

abbrev pub TellsTimes : Resolver → Samples → (before after : List Float) → Counted → Type 0
TellsTimes d s before after a = CodeOf count_code (promises.TellsTimes d s before after) a

abbrev pub TellsSamples : Resolver → Samples → (times times' : List Float) → (marks marks' : List ℕ) → Counted → Type 0
TellsSamples d s times times' marks marks' a = CodeOf count_code (promises.TellsSamples d s times times' marks marks') a

abbrev pub TellsSampleCount : Resolver → Samples → Counted → Type 0
TellsSampleCount d s a = CodeOf count_code (promises.TellsSampleCount d s) a

abbrev pub TellsChangeCount : Resolver → Samples → Counted → Type 0
TellsChangeCount d s a = CodeOf count_code (promises.TellsChangeCount d s) a

abbrev pub BakesTrack : Resolver → Samples → Outputs → BakedCode → Outputs → Type 0
BakesTrack d s before a now = CodeOf bake_code (λ (r : Result Baked Refusal). promises.BakesTrack d s before r now) a

abbrev pub SaysName : (template : List ℕ) → ClipTime → (before after : List ℕ) → Counted → Type 0
SaysName template t before after a = CodeOf count_code (Names template t before after) a

abbrev pub SaysClipTimes : TemplateTimes → Math.Option Float → (before after : List Float) → Counted → Type 0
SaysClipTimes x o before after a = CodeOf count_code (expanding.SaysClipTimes x o before after) a

abbrev pub Normalizes : (times values : List Float) → (marks : List ℕ) → (before after : Outputs) → Counted → Type 0
Normalizes times values marks before after a = CodeOf count_code (normalizes.Normalizes times values marks before after) a
