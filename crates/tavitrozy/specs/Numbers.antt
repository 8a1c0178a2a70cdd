-- docs/VALUE-CLIPS.md, "Numbers": a number that no call of the library replies, whatever it is lent. Assumes nothing.
use Rattle.std.specs.Prelude.{ℕ, ◌≡◌, List, Float}
use Rattle.std.proofs.Math.Option.{Option}
use Rattle.definitions.specs.declared.StageTime.{StageTime}
use Rattle.definitions.specs.declared.ClipTime.{ClipTime}
use Rattle.definitions.specs.declared.LayerOffset.{LayerOffset}
use Rattle.definitions.specs.declared.TemplateTimes.{TemplateTimes}
use Rattle.definitions.specs.Explicit.{ExplicitFields}
use Rattle.definitions.specs.Template.{TemplateFields}
use Rattle.definitions.specs.Examining.{Fields}
use Rattle.definitions.specs.Samples.{Samples}
use Rattle.definitions.specs.Track.{Outputs}
use Rattle.resolver.specs.declared.Resolver.{Resolver}
use Rattle.resolver.specs.Promises.{Accepts, Expands, Retimes}
use Rattle.codes.specs.declared.changed.Prepared.{Prepared}
use Rattle.codes.specs.Changed.{Examines}
use Rattle.codes.specs.declared.ClipCode.{ClipCode}
use Rattle.codes.specs.declared.TimeCode.{TimeCode}
use Rattle.codes.specs.declared.ValueCode.{ValueCode}
use Rattle.codes.specs.declared.UntimedCode.{UntimedCode}
use Rattle.codes.specs.declared.Counted.{Counted}
use Rattle.codes.specs.declared.BakedCode.{BakedCode}
use Rattle.codes.specs.Codes.{TellsClip, TellsTime, TellsValue, TellsUntimed, TellsTimes, TellsSamples, TellsSampleCount, TellsChangeCount, BakesTrack, SaysName, SaysClipTimes, Normalizes}

-- by the promise of each call that has a number, in the table's order
pub record RepliedByNone (n : ℕ) : Type 0 where
  pub accept : (d : Resolver) (f : ExplicitFields) (k : ℕ) (e : Resolver) → Accepts d f k e → k ≡ n → ⊥
  pub accept-template : (d : Resolver) (f : TemplateFields) (k : ℕ) (e : Resolver) → Expands d f k e → k ≡ n → ⊥
  pub examine : (f : Fields) (r : Prepared) → Examines f r → r.number ≡ n → ⊥
  pub retime : (d : Resolver) (o : LayerOffset) (k : ℕ) (e : Resolver) → Retimes d o k e → k ≡ n → ⊥
  pub active-clip : (d : Resolver) (t : StageTime) (r : ClipCode) → TellsClip d t r → r.number ≡ n → ⊥
  pub clip-time : (d : Resolver) (t : StageTime) (r : TimeCode) → TellsTime d t r → r.number ≡ n → ⊥
  pub value : (d : Resolver) (s : Samples) (t : StageTime) (r : ValueCode) → TellsValue d s t r → r.number ≡ n → ⊥
  pub untimed : (d : Resolver) (s : Samples) (r : UntimedCode) → TellsUntimed d s r → r.number ≡ n → ⊥
  pub stage-sample-times : (d : Resolver) (s : Samples) (before after : List Float) (r : Counted) → TellsTimes d s before after r → r.number ≡ n → ⊥
  pub stage-samples : (d : Resolver) (s : Samples) (ts ts' : List Float) (ms ms' : List ℕ) (r : Counted) → TellsSamples d s ts ts' ms ms' r → r.number ≡ n → ⊥
  pub stage-sample-count : (d : Resolver) (s : Samples) (r : Counted) → TellsSampleCount d s r → r.number ≡ n → ⊥
  pub bake : (d : Resolver) (s : Samples) (before after : Outputs) (r : BakedCode) → BakesTrack d s before r after → r.number ≡ n → ⊥
  pub change-count : (d : Resolver) (s : Samples) (r : Counted) → TellsChangeCount d s r → r.number ≡ n → ⊥
  pub name : (template : List ℕ) (t : ClipTime) (before after : List ℕ) (r : Counted) → SaysName template t before after r → r.number ≡ n → ⊥
  pub template-clip-times : (x : TemplateTimes) (o : Option Float) (before after : List Float) (r : Counted) → SaysClipTimes x o before after r → r.number ≡ n → ⊥
  pub normalize : (times values : List Float) (marks : List ℕ) (before after : Outputs) (r : Counted) → Normalizes times values marks before after r → r.number ≡ n → ⊥

-- "21 is given by no call"
abbrev pub TwentyOneIsNotReplied : Type 0
TwentyOneIsNotReplied = RepliedByNone 21
