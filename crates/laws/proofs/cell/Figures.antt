-- A set whose cells differ by the number of starts and by a jump, computed, and that what is asked of sets and samples holds of it. Assumes nothing.
use mathlib.Core.Path.{◌≡◌, refl}
use mathlib.Core.Bool.{false}
use mathlib.Core.List.{List, [], ◌∷◌}
use mathlib.Core.Option.{some}
use Prim.Native.Nat.{ℕ}
use native.Mathlib.Omega.{arith}
use lib.Ieee.{Float, binary64, fits, round, add, sub, mul, div, neg, lt, le, eq, of_bits, is_nan}
use Rattle.gf.specs.Doubles.{within, lerp, share}
use Rattle.definitions.specs.declared.Knot.{Knot}
use Rattle.definitions.specs.declared.Start.{Start}
use Rattle.definitions.specs.ClipSet.{ClipSet, stage, nan_default, equal_knots}
use Rattle.definitions.specs.Timing.{last_at_most, active_position, on_segment, map_time, map_stage_to_clip}
use Rattle.definitions.specs.Samples.{Samples, clip_begin, clip_end, clip_times, held_place, unlike_lengths, samples1, samples2, bad_marks, closes, samples9, samples_number}
use Rattle.definitions.specs.declared.Source.TheVariants.{Sample as sample}
use Rattle.definitions.specs.Value.{says, blocked_at, contributes, read_clip, direct_source, window, stage_times_for_clip_time, window_sample_times, gathered, lower_neighbour, upper_neighbour, jump, reading_time, value_source, value_in_set, value_read}
use Rattle.definitions.specs.StageSamples.{stage_sample_times}
use Rattle.definitions.specs.Facts.{StageSampleTimesAre, value_in_order}
use Rattle.laws.specs.Facts.{Given, clip_read, Stands}
use Rattle.laws.specs.cell.Knots.{flat, segment, line_of}
use Rattle.laws.proofs.cell.Direct.{SoundSet, SoundSamples}
use Rattle.laws.specs.cell.Stretches.{held_from}
use Rattle.laws.specs.cell.Cells.{constant, reading, direct_cell, cell_of}
use Rattle.laws.proofs.set.Accepted.{accepted}
use Rattle.laws.proofs.cell.Numbers.{SoundValues, sound-values}
use Rattle.laws.proofs.cell.StageTimes.{stage-sample-times}
use Rattle.laws.proofs.cell.InOrder.{value-in-order}
use Rattle.laws.proofs.cell.Readings.{sample-stands, one-clip}

abbrev frac : ℕ → ℕ → Float
frac a b = round binary64 false a b

abbrev at : ℕ → ℕ → Knot
at x y = record { x = frac x 1; y = frac y 1 }

abbrev start : ℕ → Start
start t = record { time = frac t 1; clip = 0 }

-- knots (0,2) (3,10), and where they are to jump (3,0); clip 0 from 0 on, and again from 1000 on
abbrev set : List Start → List Knot → ClipSet
set active knots = record { clips = 1; active = active; knots = knots; blocks = []; default = record { mark = 2; value = frac 0 1 }; interpolate_missing = false }

abbrev one : List Start
one = start 0 ∷ []

abbrev two : List Start
two = start 0 ∷ start 1000 ∷ []

abbrev ramp : List Knot
ramp = at 0 2 ∷ at 3 10 ∷ []

abbrev saw : List Knot
saw = at 0 2 ∷ at 3 10 ∷ at 3 0 ∷ []

-- 2 → 1.0, 7.6 → 2.0
abbrev samples : Samples
samples = record { times = frac 2 1 ∷ frac 76 10 ∷ []; values = frac 1 1 ∷ frac 2 1 ∷ []; marks = 0 ∷ 0 ∷ []; ends = 2 ∷ [] }

-- ---- what is asked holds

sound : SoundSet (set two saw)
unfolding fits round within le lt eq neg
sound = record {
  starts = (record { fitting = tt; finitely = tt }, (record { fitting = tt; finitely = tt }, tt));
  ascends = tt;
  knots = (record { fx = tt; fy = tt; bx = tt; by = tt }, (record { fx = tt; fy = tt; bx = tt; by = tt }, (record { fx = tt; fy = tt; bx = tt; by = tt }, tt)));
}

sound-samples : SoundSamples samples
unfolding fits round
sound-samples = record { times = (tt, (tt, tt)) }

-- what the facts ask: a well-formed set, and samples that are accepted for it
given : Given (set two saw) samples
unfolding fits round within le lt eq neg is_nan equal_knots nan_default samples_number samples1 unlike_lengths samples2 samples9 bad_marks closes clip_begin clip_end clip_times
given = record {
  sound = record {
    few-clips = omega arith;
    few-active = omega arith;
    few-knots = omega arith;
    few-blocks = omega arith;
    times = (record { fitting = tt; inside = tt }, (record { fitting = tt; inside = tt }, tt));
    strictly = (tt, tt);
    named = (omega arith, (omega arith, tt));
    xs = (record { fitting = tt; inside = tt }, (record { fitting = tt; inside = tt }, (record { fitting = tt; inside = tt }, tt)));
    ys = (record { fitting = tt; inside = tt }, (record { fitting = tt; inside = tt }, (record { fitting = tt; inside = tt }, tt)));
    weakly = (tt, (tt, tt));
    no-three = refl;
    blocks = tt;
    default = record { mark = omega arith; number = refl; fitting = tt };
  };
  doubles = (tt, (tt, tt));
  accepted = refl;
}

numbers-so : SoundValues (set two saw) samples
unfolding fits round
numbers-so = sound-values (set two saw) samples given.sound (accepted (set two saw) samples given.doubles given.accepted) (tt, (tt, tt))

times-so : StageSampleTimesAre (set two saw) (stage_sample_times (set two saw) samples)
times-so = stage-sample-times (set two saw) samples given

value-so : value_in_set (set two saw) samples (stage (frac 5 2)) ≡ value_in_order (set two saw) samples (stage (frac 5 2))
unfolding fits round
value-so = value-in-order (set two saw) samples given (stage (frac 5 2)) (record { fitting = tt; finitely = tt })

-- at 2.5 the second sample is read, at 1 the first: they stand in the lent lists, and are of one clip
sample-so : Stands samples 0 1 (value_read (set two saw) samples (stage (frac 5 2))).answer
unfolding value_read value_in_set says value_source direct_source reading_time read_clip map_stage_to_clip map_time on_segment lerp share held_place active_position last_at_most gathered window_sample_times window stage_times_for_clip_time lower_neighbour upper_neighbour jump round add sub mul div neg of_bits eq lt le blocked_at contributes clip_begin clip_end clip_times
sample-so = sample-stands (set two saw) samples given (stage (frac 5 2)) 0 1 refl

clip-so : clip_read (value_read (set two saw) samples (stage (frac 5 2))).sample ≡ clip_read (value_read (set two saw) samples (stage (frac 1 1))).sample
unfolding value_read value_in_set says value_source direct_source reading_time read_clip map_stage_to_clip map_time on_segment lerp share held_place active_position last_at_most gathered window_sample_times window stage_times_for_clip_time lower_neighbour upper_neighbour jump round add sub mul div neg of_bits eq lt le blocked_at contributes clip_begin clip_end clip_times fits
clip-so = one-clip (set two saw) samples given (stage (frac 5 2)) (stage (frac 1 1)) (record { fitting = tt; finitely = tt }) (record { fitting = tt; finitely = tt }) refl (frac 2 1) (frac 1 1) refl refl

-- ---- the cells at 2.5. The inverse time of 7.6 is 2.0999999999999996, whose clip time is below 7.6.

held : held_from (set two ramp) samples (stage (frac 5 2)) ≡ some (of_bits binary64 0x4000_cccc_cccc_cccc)
unfolding held_from active_position last_at_most gathered window_sample_times window stage_times_for_clip_time lower_neighbour upper_neighbour jump round add sub mul div neg of_bits eq lt le blocked_at contributes clip_begin clip_end clip_times
held = refl

-- two starts: 1.0 on the whole cell
two-cell : cell_of (set two ramp) samples (stage (frac 5 2)) ≡ constant (sample 0 0)
unfolding cell_of direct_source read_clip map_stage_to_clip map_time on_segment lerp share held_place held_from active_position last_at_most gathered window_sample_times window stage_times_for_clip_time lower_neighbour upper_neighbour jump round add sub mul div neg of_bits eq lt le blocked_at contributes clip_begin clip_end clip_times
two-cell = refl

-- a jump at 3: direct on the segment
jump-cell : cell_of (set two saw) samples (stage (frac 5 2)) ≡ reading 0 (segment (at 0 2) (at 3 10))
unfolding cell_of direct_cell line_of held_from active_position last_at_most gathered window_sample_times window stage_times_for_clip_time lower_neighbour upper_neighbour jump round add sub mul div neg of_bits eq lt le blocked_at contributes clip_begin clip_end clip_times
jump-cell = refl

-- one start: direct on the segment, and from the last x on at its y
one_cell : cell_of (set one ramp) samples (stage (frac 5 2)) ≡ reading 0 (segment (at 0 2) (at 3 10))
unfolding cell_of direct_cell line_of held_from active_position last_at_most round eq lt le blocked_at contributes clip_begin clip_end clip_times
one_cell = refl

last-cell : cell_of (set one ramp) samples (stage (frac 4 1)) ≡ reading 0 (flat (frac 10 1))
unfolding cell_of direct_cell line_of held_from active_position last_at_most round eq lt le blocked_at contributes clip_begin clip_end clip_times
last-cell = refl
