-- What docs/VALUE-CLIPS.md claims of the definitions, for every well-formed set and samples that are accepted for it. Assumes nothing.
use Rattle.std.specs.Prelude.{◌≡◌, Some, None, List, ℕ, ◌+◌, ◌<◌, T, length, get_or, Float}
use Rattle.std.proofs.Math.Option.{Option, none, some}
use Rattle.gf.specs.Doubles.{0·0}
use Rattle.definitions.specs.declared.StageTime.{StageTime}
use Rattle.definitions.specs.declared.Answer.{Answer}
use Rattle.definitions.specs.declared.Answer.TheVariants.{Value}
use Rattle.definitions.specs.Doubles.{FiniteDouble}
use Rattle.definitions.specs.ClipSet.{ClipSet, mark_value}
use Rattle.definitions.specs.Timing.{active_position}
use Rattle.definitions.specs.Samples.{Samples, clip_begin, clip_end, samples_number}
use Rattle.definitions.specs.Value.{SampleRead, lower_neighbour, upper_neighbour, value_in_set, value_read}
use Rattle.definitions.specs.StageSamples.{in_order, stage_sample_times}
use Rattle.definitions.specs.Facts.{StageSampleTimesAre, last_up_to, first_above, same_time, value_in_order}
use Rattle.laws.specs.list.Every.{Every}
use Rattle.laws.specs.list.Places.{Fits}
use Rattle.laws.specs.set.Sound.{Sound}

-- a set as calls make it, and samples to which none of 1, 2 and 9 applies: their times are doubles, as a program lends them
pub record Given (set : ClipSet) (s : Samples) : Type 0 where
  pub sound : Sound set
  pub doubles : Every Fits s.times
  pub accepted : samples_number set s ≡ 0

-- "Stage sample times are finite, strictly ascending, every start among them."
abbrev pub StageSampleTimes : Type 0
StageSampleTimes = (set : ClipSet) (s : Samples) → Given set s → StageSampleTimesAre set (stage_sample_times set s)

-- "Sorted, equals dropped.": of finite times the last ≤ t and the first > t are the greatest ≤ t and the least > t
abbrev pub NeighboursInOrder : Type 0
NeighboursInOrder = (times : List Float) → Every FiniteDouble times → (t : Float) → FiniteDouble t
    → T (same_time (last_up_to (in_order times) t) (lower_neighbour times t)) × T (same_time (first_above (in_order times) t) (upper_neighbour times t))

-- and so the value at every finite stage time is the one by the sorted list
abbrev pub ValueInOrder : Type 0
ValueInOrder = (set : ClipSet) (s : Samples) → Given set s → (t : StageTime) → FiniteDouble t.0 → value_in_set set s t ≡ value_in_order set s t

-- ---- the sample that was read

-- its clip
abbrev pub clip_read : SampleRead → Option ℕ
clip_read (Some (c, i)) = some c
clip_read None = none

-- the clip c has a sample at its place i, whose number is the answer
pub record Stands (s : Samples) (c i : ℕ) (a : Answer) : Type 0 where
  pub clip : c < length s.ends
  pub place : clip_begin s.ends c + i < clip_end s.ends c
  pub marked : get_or s.marks (clip_begin s.ends c + i) 0 ≡ mark_value
  pub number : a ≡ Value (get_or s.values (clip_begin s.ends c + i) 0·0)

-- "The sample stands in the lent lists at its clip's beginning and its place."
abbrev pub SampleStands : Type 0
SampleStands = (set : ClipSet) (s : Samples) → Given set s → (t : StageTime) (c i : ℕ) → (value_read set s t).sample ≡ Some (c, i) → Stands s c i (value_read set s t).answer

-- "From a start up to the next every number is read from one clip, or from none."
abbrev pub OneClip : Type 0
OneClip = (set : ClipSet) (s : Samples) → Given set s → (t u : StageTime) → FiniteDouble t.0 → FiniteDouble u.0 → active_position set.active t ≡ active_position set.active u
    → (v w : Float) → (value_read set s t).answer ≡ Value v → (value_read set s u).answer ≡ Value w → clip_read (value_read set s t).sample ≡ clip_read (value_read set s u).sample
