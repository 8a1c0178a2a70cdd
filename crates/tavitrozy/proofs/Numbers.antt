-- A number that no operation is given is replied by no call: each code carries its operation's number. Assumes nothing.
use Prim.Native.Nat.{ℕ, zero, suc, min}
use mathlib.Core.Path.{◌≡◌, refl, sym, ap, ◌∙◌}
use mathlib.Core.List.{List}
use lib.ListN.{length}
use lib.Ieee.{Float}
use Rattle.gf.specs.Doubles.{0·0}
use Rattle.definitions.specs.Examining.{Fields, explicitly, by_template, Examined, examine}
use Rattle.definitions.specs.Questions.{Reply, refused, replied, reply, number_of, ask_stage_sample_times, ask_stage_samples, ask_clip_times}
use Rattle.definitions.specs.Track.{slots, bake_number}
use Rattle.definitions.specs.Calls.{baked_of}
use Rattle.definitions.specs.Names.{name, name_number}
use Rattle.definitions.specs.Refusals.{number_in, reply_of}
use Rattle.definitions.specs.declared.refusal.Refusal.{Refusal}
use Rattle.definitions.specs.declared.ClipTime.{ClipTime}
use Rattle.definitions.specs.declared.ValueRead.{ValueRead}
use Rattle.definitions.specs.declared.ValueState.{ValueState}
use Rattle.std.specs.Prelude as Prelude
use Rattle.std.specs.Prelude.{Result, Ok, Err}
use Rattle.definitions.specs.Numbers.{GivenByNone}
use Rattle.definitions.proofs.Orders.{twenty-one-is-gone}
use Rattle.sdf.specs.Counted.{counted}
use Rattle.definitions.specs.declared.Answer.{Answer}
use Rattle.definitions.specs.declared.Answer.TheVariants as answer
use Rattle.std.specs.Prelude.{Some, None}
use Rattle.definitions.specs.Value.{SampleRead}
use Rattle.track.specs.declared.bake.Baked.{Baked}
use Rattle.track.specs.Bakes.{baked_reply}
use Rattle.resolver.specs.State.{model}
use Rattle.resolver.specs.Promises.{clip_reply}
use Rattle.codes.specs.declared.ClipCode.{ClipCode}
use Rattle.codes.specs.declared.TimeCode.{TimeCode}
use Rattle.codes.specs.declared.ValueCode.{ValueCode}
use Rattle.codes.specs.declared.UntimedCode.{UntimedCode}
use Rattle.codes.specs.declared.Counted.{Counted}
use Rattle.codes.specs.declared.BakedCode.{BakedCode}
use Rattle.codes.specs.Codes.{clip_code, time_code, sample_code, answer_code, value_code, untimed_code, count_code, bake_code}
use Rattle.tavitrozy.specs.Numbers.{RepliedByNone, TwentyOneIsNotReplied}

-- ---- the number in a code is the reply's

clip-number : (r : Result (Prelude.Option ℕ) Refusal) → number_of (clip_reply r) ≡ (clip_code r).number
clip-number (Ok (Prelude.Some c)) = refl
clip-number (Ok Prelude.None) = refl
clip-number (Err r) = refl

time-number : (r : Result ClipTime Refusal) → number_of (reply_of r) ≡ (time_code r).number
time-number (Ok t) = refl
time-number (Err r) = refl

sample-number : (mark : ℕ) (v : Float) (x : SampleRead) → 0 ≡ (sample_code mark v x).number
sample-number mark v (Some x) = refl
sample-number mark v None = refl

pub answer-number : (a : Answer) (x : SampleRead) → 0 ≡ (answer_code a x).number
answer-number (answer.Value v) x = sample-number 0 v x
answer-number answer.Blocked x = sample-number 1 0·0 x
answer-number answer.Absent x = sample-number 2 0·0 x

value-number : (r : Result ValueRead Refusal) → number_of (reply_of r) ≡ (value_code r).number
value-number (Ok x) = answer-number x.answer x.sample
value-number (Err r) = refl

untimed-number : (r : Result ValueState Refusal) → number_of (reply_of r) ≡ (untimed_code r).number
untimed-number (Ok s) = refl
untimed-number (Err r) = refl

count-number : (r : Result ℕ Refusal) → number_of (reply_of r) ≡ (count_code r).number
count-number (Ok n) = refl
count-number (Err r) = refl

tested-number : (r : Result ℕ Refusal) → number_in r ≡ (count_code r).number
tested-number (Ok n) = refl
tested-number (Err r) = refl

bake-number : (r : Result Baked Refusal) → number_of (baked_reply r) ≡ (bake_code r).number
bake-number (Ok b) = refl
bake-number (Err r) = refl

-- and a reply's is the one that it is made by
pub reply-number : {A : Type 0} (n : ℕ) (a : A) → n ≡ number_of (reply n a)
reply-number zero a = refl
reply-number (suc n) a = refl

list-number : {A : Type 0} (r : Reply (List A)) → number_of r ≡ number_of (counted r)
list-number (refused n) = refl
list-number (replied l) = refl

-- ---- each call

abbrev number-of : Counted → ℕ
number-of r = r.number

carried : (c : Counted) (r : Result ℕ Refusal) → c ≡ count_code r → number_of (reply_of r) ≡ c.number
carried c r e = count-number r ∙ sym (ap number-of e)

-- an examining's number is its acceptance's
examining-is : (n : ℕ) → GivenByNone n → (f : Fields) → (examine f).number ≡ n → ⊥
unfolding examine
examining-is n g (explicitly f) = g.explicit f
examining-is n g (by_template f) = g.template f

pub replied-by-none : (n : ℕ) → GivenByNone n → RepliedByNone n
replied-by-none n g = record {
  accept = λ d f k e p h. g.explicit f (sym p.number ∙ h);
  accept-template = λ d f k e p h. g.template f (sym p.number ∙ h);
  examine = λ f r p e. examining-is n g f (sym (ap (λ (x : Examined). x.number) p.reply) ∙ e);
  retime = λ d o k e p h. g.retiming (model d) o (sym p.number ∙ h);
  active-clip = λ d t r p e. g.active-clip (model d) t (sym (ap number_of p.told) ∙ clip-number p.reply ∙ sym (ap (λ (c : ClipCode). c.number) p.code) ∙ e);
  clip-time = λ d t r p e. g.clip-time (model d) t (sym (ap number_of p.told) ∙ time-number p.reply ∙ sym (ap (λ (c : TimeCode). c.number) p.code) ∙ e);
  value = λ d s t r p e. g.value (model d) s t (sym (ap number_of p.told) ∙ value-number p.reply ∙ sym (ap (λ (c : ValueCode). c.number) p.code) ∙ e);
  untimed = λ d s r p e. g.untimed (model d) s (sym (ap number_of p.told) ∙ untimed-number p.reply ∙ sym (ap (λ (c : UntimedCode). c.number) p.code) ∙ e);
  stage-sample-times = λ d s before after r p e. g.stage-sample-times (model d) s (length before) (list-number (ask_stage_sample_times (model d) s (length before)) ∙ sym (ap number_of p.told.count) ∙ carried r p.reply p.code ∙ e);
  stage-samples = λ d s ts ts' ms ms' r p e. g.stage-samples (model d) s (min (length ts) (length ms)) (list-number (ask_stage_samples (model d) s (min (length ts) (length ms))) ∙ sym (ap number_of p.told.count) ∙ carried r p.reply p.code ∙ e);
  stage-sample-count = λ d s r p e. g.stage-sample-count (model d) s (sym (ap number_of p.told) ∙ carried r p.reply p.code ∙ e);
  bake = λ d s before after r p e.
      let changes = length p.told.track.changes in
      g.bake (model d) s (slots before) changes
      (reply-number (bake_number (model d) s (slots before) changes) (baked_of p.told.track) ∙ sym (ap number_of p.told.replies) ∙ bake-number p.reply ∙ sym (ap (λ (b : BakedCode). b.number) p.code) ∙ e);
  change-count = λ d s r p e. g.change-count (model d) s (reply_of p.reply) p.told (carried r p.reply p.code ∙ e);
  name = λ template t before after r p e. g.name template t (length before) (reply-number (name_number template t (length before)) (length (name template t)) ∙ sym (ap number_of p.told.reply) ∙ carried r p.reply p.code ∙ e);
  template-clip-times = λ x o before after r p e. g.clip-times x o (length before) (list-number (ask_clip_times x o (length before)) ∙ sym (ap number_of p.told.count) ∙ carried r p.reply p.code ∙ e);
  normalize = λ times values marks before after r p e. g.normalising times values marks (slots before) (sym p.told.number ∙ tested-number p.reply ∙ sym (ap number-of p.code) ∙ e);
}

pub twenty-one-is-not-replied : TwentyOneIsNotReplied
twenty-one-is-not-replied = replied-by-none 21 twenty-one-is-gone
