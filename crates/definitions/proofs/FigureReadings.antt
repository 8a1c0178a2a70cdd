-- Which sample was read, computed by the definitions. `wrong`: false figures, each found false. Assumes nothing.
use mathlib.Core.Path.{◌≡◌, refl}
use mathlib.Core.Bool.{Bool, true, false, ◌&&◌}
use mathlib.Core.List.{List, [], ◌∷◌}
use lib.Dec.{eqb}
use lib.Ieee.{Float, round, neg, add, sub, mul, div, lt, le, eq, to_bits, of_bits}
use Rattle.gf.specs.Doubles.{key, of_key, lerp, share, is_whole, truncated, total_key}
use Rattle.definitions.specs.declared.Answer.TheVariants.{Value, Blocked, Absent}
use Rattle.std.specs.Prelude.{Some, None}
use Rattle.definitions.specs.declared.ValueRead.{ValueRead}
use Rattle.definitions.specs.ClipSet.{stage}
use Rattle.definitions.specs.Explicit.{ExplicitFields, explicit_set}
use Rattle.definitions.specs.Timing.{last_at_most, active_position, on_segment, map_time, map_stage_to_clip}
use Rattle.definitions.specs.Samples.{Samples, clip_begin, clip_end, clip_times, held_place}
use Rattle.definitions.specs.Value.{SampleRead, says, blocked_at, contributes, read_clip, first_reading, interpolate_missing_value, direct_source, window, stage_times_for_clip_time, window_sample_times, gathered, lower_neighbour, upper_neighbour, jump, reading_time, value_source, value_in_set, value_read}
use Rattle.definitions.proofs.Sets.{n, frac, next_higher, holds, fails, is, fields, missing, defaulting, numbers, clip_time_at, two, twice, rising, again, again-samples, blocking, jumping, gap, gap-samples, one, zeros, zeros-and-block, zeros-falling}

-- ---- how a figure is written

abbrev read_at : ExplicitFields → Samples → Float → ValueRead
read_at f s t = value_read (explicit_set f) s (stage t)

abbrev same_sample : SampleRead → SampleRead → Bool
same_sample (Some (c, i)) (Some (d, j)) = eqb c d && eqb i j
same_sample (Some (c, i)) None = false
same_sample None (Some (d, j)) = false
same_sample None None = true

abbrev reads : ExplicitFields → Samples → Float → SampleRead → Bool
reads f s t = same_sample (read_at f s t).sample

-- ---- the sets

-- for `two`: ends 2, 4
abbrev pairs-of-samples : Samples
pairs-of-samples = numbers (n 0 ∷ n 5 ∷ n 10 ∷ n 15 ∷ []) (n 1 ∷ n 2 ∷ n 3 ∷ n 4 ∷ []) (2 ∷ 4 ∷ [])

-- starts 0, 10, both of clip 3
abbrev fourth : ExplicitFields
fourth = fields 4 (n 0 ∷ n 10 ∷ []) (n 3 ∷ n 3 ∷ []) [] []

table : List Bool
table =
    -- places count from 0 at the clip's first sample
    reads two pairs-of-samples (n 5) (Some (0, 1))
    ∷ reads two pairs-of-samples (n 12) (Some (1, 0))
    ∷ reads two pairs-of-samples (n 20) (Some (1, 1))
    ∷ reads two pairs-of-samples (neg (n 5)) (Some (0, 0))
    -- the clip's number and not the start's place
    ∷ reads fourth (numbers (n 0 ∷ []) (n 1 ∷ []) (0 ∷ 0 ∷ 0 ∷ 1 ∷ [])) (n 15) (Some (3, 0))
    -- a value found at another start, read there: of a later clip, of the active clip itself
    ∷ reads (gap [] true) gap-samples (n 15) (Some (0, 0))
    ∷ reads (gap (n 0 ∷ []) true) gap-samples (n 15) (Some (2, 0))
    ∷ reads again again-samples (n 13) (Some (0, 0))
    ∷ reads (missing (n 10 ∷ []) false again) again-samples (n 13) (Some (0, 1))
    -- held from the lower neighbour, though the clip time is beyond 7.6
    ∷ lt (frac 38 5) (clip_time_at twice (frac 5 2))
    ∷ reads twice rising (frac 5 2) (Some (0, 0))
    ∷ reads twice rising (n 3) (Some (0, 1))
    -- none: the default, a block that is read, also for another clip, nothing that answers, absent
    ∷ is (read_at (defaulting (n 1) (gap [] true)) gap-samples (n 15)).answer (Value (n 1))
    ∷ reads (defaulting (n 1) (gap [] true)) gap-samples (n 15) None
    ∷ is (read_at (gap [] false) zeros-and-block (n 15)).answer Blocked
    ∷ reads (gap [] false) zeros-and-block (n 15) None
    ∷ is (read_at (gap [] true) blocking (n 15)).answer Blocked
    ∷ reads (gap [] true) blocking (n 15) None
    ∷ reads (gap [] false) gap-samples (n 15) None
    ∷ is (read_at jumping (numbers [] [] []) (n 5)).answer Absent
    ∷ reads jumping (numbers [] [] []) (n 5) None
    -- a number equal to the default, read from a sample
    ∷ reads (defaulting (n 1) (gap [] true)) gap-samples (n 5) (Some (0, 0))
    -- two zeros are two places and no change
    ∷ reads two zeros (n 5) (Some (0, 0))
    ∷ reads two zeros (n 15) (Some (1, 0))
    ∷ reads one zeros-falling (n 5) (Some (0, 1))
    ∷ reads one zeros-falling (next_higher (n 5)) (Some (0, 0))
    ∷ []

-- the place in the lent list; the stage time's place; a block with a place; the active clip's number; a default with a place
wrong-table : List Bool
wrong-table =
    reads two pairs-of-samples (n 12) (Some (1, 2))
    ∷ reads twice rising (frac 5 2) (Some (0, 1))
    ∷ reads (gap [] false) zeros-and-block (n 15) (Some (1, 0))
    ∷ reads (gap [] true) gap-samples (n 15) (Some (1, 0))
    ∷ reads (defaulting (n 1) (gap [] true)) gap-samples (n 15) (Some (0, 0))
    ∷ []

record FigureReadings : Type 0 where
  figures : holds table ≡ true
  wrong : fails wrong-table ≡ true

computed : FigureReadings
unfolding
    table wrong-table round neg add sub mul div lt le eq to_bits of_bits key of_key lerp share is_whole truncated total_key explicit_set
    last_at_most active_position on_segment map_time map_stage_to_clip clip_begin clip_end clip_times held_place
    says blocked_at contributes read_clip first_reading interpolate_missing_value direct_source window stage_times_for_clip_time window_sample_times gathered lower_neighbour
    upper_neighbour jump reading_time value_source value_in_set value_read
computed = record { figures = refl; wrong = refl }
