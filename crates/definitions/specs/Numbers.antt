-- docs/VALUE-CLIPS.md, "Numbers": a number that no call is given, whatever its arguments and what stands. Assumes nothing.
use Rattle.std.specs.Prelude.{ℕ, ◌≡◌, List, Float}
use Rattle.std.proofs.Math.Option.{Option}
use Rattle.definitions.specs.declared.StageTime.{StageTime}
use Rattle.definitions.specs.declared.ClipTime.{ClipTime}
use Rattle.definitions.specs.declared.LayerOffset.{LayerOffset}
use Rattle.definitions.specs.declared.TemplateTimes.{TemplateTimes}
use Rattle.definitions.specs.ClipSet.{Model}
use Rattle.definitions.specs.Explicit.{ExplicitFields, explicit_number}
use Rattle.definitions.specs.Names.{name_number}
use Rattle.definitions.specs.Template.{TemplateFields, template_number}
use Rattle.definitions.specs.Retime.{retime_number}
use Rattle.definitions.specs.Samples.{Samples}
use Rattle.definitions.specs.Normalize.{normalize_number}
use Rattle.definitions.specs.Track.{bake_number}
use Rattle.definitions.specs.Questions.{Reply, number_of, ask_active_clip, ask_clip_time, ask_value, ask_untimed, ask_stage_sample_times, ask_stage_samples, ask_stage_sample_count, ask_clip_times}
use Rattle.definitions.specs.Calls.{CountsChanges}

-- each operation of the table, in its order; an examining has its acceptance's
pub record GivenByNone (n : ℕ) : Type 0 where
  pub explicit : (f : ExplicitFields) → explicit_number f ≡ n → ⊥
  pub template : (f : TemplateFields) → template_number f ≡ n → ⊥
  pub retiming : (m : Model) (o : LayerOffset) → retime_number m o ≡ n → ⊥
  pub active-clip : (m : Model) (t : StageTime) → number_of (ask_active_clip m t) ≡ n → ⊥
  pub clip-time : (m : Model) (t : StageTime) → number_of (ask_clip_time m t) ≡ n → ⊥
  pub value : (m : Model) (s : Samples) (t : StageTime) → number_of (ask_value m s t) ≡ n → ⊥
  pub untimed : (m : Model) (s : Samples) → number_of (ask_untimed m s) ≡ n → ⊥
  pub stage-sample-times : (m : Model) (s : Samples) (room : ℕ) → number_of (ask_stage_sample_times m s room) ≡ n → ⊥
  pub stage-samples : (m : Model) (s : Samples) (room : ℕ) → number_of (ask_stage_samples m s room) ≡ n → ⊥
  pub stage-sample-count : (m : Model) (s : Samples) → number_of (ask_stage_sample_count m s) ≡ n → ⊥
  pub bake : (m : Model) (s : Samples) (room count : ℕ) → bake_number m s room count ≡ n → ⊥
  pub change-count : (m : Model) (s : Samples) (r : Reply ℕ) → CountsChanges m s r → number_of r ≡ n → ⊥
  pub name : (template : List ℕ) (t : ClipTime) (room : ℕ) → name_number template t room ≡ n → ⊥
  pub clip-times : (x : TemplateTimes) (o : Option Float) (room : ℕ) → number_of (ask_clip_times x o room) ≡ n → ⊥
  pub normalising : (times values : List Float) (marks : List ℕ) (room : ℕ) → normalize_number times values marks room ≡ n → ⊥

-- "21 is given by no call"
abbrev pub TwentyOneIsGone : Type 0
TwentyOneIsGone = GivenByNone 21
