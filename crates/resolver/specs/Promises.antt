-- What each operation promises: its number for every argument, what stands after it, what it replies, and what every lent list holds. Assumes nothing.
use Rattle.std.specs.Prelude as Prelude
use Rattle.std.specs.Prelude.{◌≡◌, ℕ, min, List, length, take, Float, Result, Ok, Err, IfOk}
use Rattle.std.proofs.Math.Option.{Option, none, some}
use Rattle.definitions.specs.declared.LayerOffset.{LayerOffset}
use Rattle.definitions.specs.declared.StageTime.{StageTime}
use Rattle.definitions.specs.declared.ClipTime.{ClipTime}
use Rattle.definitions.specs.declared.refusal.Refusal.{Refusal}
use Rattle.definitions.specs.Refusals.{number_of, reply_of}
use Rattle.definitions.specs.Questions.{Reply, refused, replied, ask_active_clip, ask_clip_time, ask_value, ask_untimed, ask_stage_sample_times, ask_stage_samples, ask_stage_sample_count}
use Rattle.definitions.specs.declared.ValueRead.{ValueRead}
use Rattle.definitions.specs.ClipSet.{ClipSet, no_set, standing}
use Rattle.definitions.specs.Explicit.{ExplicitFields, explicit_number}
use Rattle.definitions.specs.Template.{TemplateFields, template_number}
use Rattle.definitions.specs.Retime.{retime_number}
use Rattle.definitions.specs.Samples.{Samples}
use Rattle.definitions.specs.Track.{Outputs}
use Rattle.definitions.specs.Facts.{StageSampleTimesAre}
use Rattle.definitions.specs.Calls as calls
use Rattle.definitions.specs.Calls.{explicit, template, install, retime, step}
use Rattle.definitions.specs.declared.ValueState.{ValueState}
use Rattle.clip.specs.declared.ClipSet as clip
use Rattle.track.specs.declared.bake.Baked.{Baked}
use Rattle.track.specs.Bakes.{baked_reply}
use Rattle.clip.specs.Holding.{clip_set_of}
use Rattle.resolver.specs.declared.Resolver.{Resolver}
use Rattle.resolver.specs.declared.Shape.{Shape}
use Rattle.standing.specs.Standing.{Lengths}
use Rattle.sdf.specs.Counted.{counted, listed, itself}
use Rattle.standing.specs.Lists.{time_of, mark_in}
use Rattle.resolver.specs.State.{model, Made, lent_state}

-- ---- calls that may change what stands

-- "a fresh desk": no set stands
pub record Begins (d : Resolver) : Type 0 where
  pub empty : model d ≡ no_set
  pub made : Made d

-- the same of a resolver that is lent, with whatever its lists hold
abbrev pub BeginsLent : Shape → Type 0
BeginsLent h = (starts : List Float) (numbers : List ℕ) (xs ys blocks : List Float) → Lengths starts numbers xs ys blocks → Begins (lent_state h starts numbers xs ys blocks)

-- each of the resolver before it, its number, 0 where none refuses it, and the resolver after it

-- "A refused call changes nothing": the very resolver that went in is left
abbrev pub Kept : Resolver → ℕ → Resolver → Type 0
Kept d n e = (n ≡ 0 → ⊥) → e ≡ d

pub record Accepts (d : Resolver) (f : ExplicitFields) (n : ℕ) (e : Resolver) : Type 0 where
  pub number : n ≡ explicit_number f
  pub kept : Kept d n e
  pub after : model e ≡ step (model d) (explicit f)
  pub made : Made e

pub record Expands (d : Resolver) (f : TemplateFields) (n : ℕ) (e : Resolver) : Type 0 where
  pub number : n ≡ template_number f
  pub kept : Kept d n e
  pub after : model e ≡ step (model d) (template f)
  pub made : Made e

-- "No number applies": it hands back the resolver alone
pub record Installs (d : Resolver) (set : clip.ClipSet) (e : Resolver) : Type 0 where
  pub after : model e ≡ step (model d) (install (clip_set_of set))
  pub made : Made e

pub record Retimes (d : Resolver) (o : LayerOffset) (n : ℕ) (e : Resolver) : Type 0 where
  pub number : n ≡ retime_number (model d) o
  pub kept : Kept d n e
  pub after : model e ≡ step (model d) (retime o)
  pub made : Made e

-- ---- questions: a Result is a number or an answer of the definitions

-- "none" in a set without starts
abbrev pub clip_reply : Result (Prelude.Option ℕ) Refusal → Reply (Option ℕ)
clip_reply (Ok (Prelude.Some c)) = replied (some c)
clip_reply (Ok Prelude.None) = replied none
clip_reply (Err r) = refused (number_of r)

abbrev pub TellsClip : Resolver → StageTime → Result (Prelude.Option ℕ) Refusal → Type 0
TellsClip d t r = clip_reply r ≡ ask_active_clip (model d) t

abbrev pub TellsTime : Resolver → StageTime → Result ClipTime Refusal → Type 0
TellsTime d t r = reply_of r ≡ ask_clip_time (model d) t

-- the value, and "clip and place" beside it
abbrev pub TellsValue : Resolver → Samples → StageTime → Result ValueRead Refusal → Type 0
TellsValue d s t r = reply_of r ≡ ask_value (model d) s t

abbrev pub TellsUntimed : Resolver → Samples → Result ValueState Refusal → Type 0
TellsUntimed d s r = reply_of r ≡ ask_untimed (model d) s

-- ---- questions whose reply is a list: the number or the count, and every lent list after it

pub record TellsTimes (d : Resolver) (s : Samples) (before after : List Float) (r : Result ℕ Refusal) : Type 0 where
  pub count : reply_of r ≡ counted (ask_stage_sample_times (model d) s (length before))
  pub times : after ≡ listed itself (ask_stage_sample_times (model d) s (length before)) before
  -- where it is replied to, those written are "finite, strictly ascending, every start among them"
  pub are : (set : ClipSet) → model d ≡ standing set → IfOk r (λ (n : ℕ). StageSampleTimesAre set (take n after))

pub record TellsSamples (d : Resolver) (s : Samples) (times times' : List Float) (marks marks' : List ℕ) (r : Result ℕ Refusal) : Type 0 where
  pub count : reply_of r ≡ counted (ask_stage_samples (model d) s (min (length times) (length marks)))
  pub written-times : times' ≡ listed time_of (ask_stage_samples (model d) s (min (length times) (length marks))) times
  pub written-marks : marks' ≡ listed mark_in (ask_stage_samples (model d) s (min (length times) (length marks))) marks

-- ---- questions whose reply is a count

abbrev pub TellsSampleCount : Resolver → Samples → Result ℕ Refusal → Type 0
TellsSampleCount d s r = reply_of r ≡ ask_stage_sample_count (model d) s

abbrev pub TellsChangeCount : Resolver → Samples → Result ℕ Refusal → Type 0
TellsChangeCount d s r = calls.CountsChanges (model d) s (reply_of r)

-- ---- the bake

-- "20, 1, 2, 9, 22", the head and the count, and every lent list after it: those of the one track of the standing set's value
abbrev pub BakesTrack : Resolver → Samples → Outputs → Result Baked Refusal → Outputs → Type 0
BakesTrack d s before r now = calls.Bakes (model d) s before (baked_reply r) now
