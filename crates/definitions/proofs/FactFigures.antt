-- What docs/VALUE-CLIPS.md claims of the definitions, computed: a name with as many bytes as any, a template's clip times, the stage sample times of a figure's set, and the value by the sorted list.
-- Assumes nothing.
use mathlib.Core.Path.{◌≡◌, refl}
use Prim.Native.Nat.{ℕ, zero, suc}
use mathlib.Core.Bool.{Bool, true}
use mathlib.Core.List.{List, [], ◌∷◌}
use mathlib.Core.Option.{none, some}
use lib.Dec.{eqb}
use lib.ListN.{length}
use lib.Ieee.{Float, round, neg, add, sub, mul, div, lt, le, eq, to_bits}
use Rattle.gf.specs.Doubles.{lerp, share, is_whole, truncated, is_clip_number, sign_bit, total_key}
use Rattle.definitions.specs.declared.Answer.TheVariants.{Value}
use Rattle.definitions.specs.ClipSet.{max_template, stage, clip, active_times}
use Rattle.definitions.specs.Explicit.{explicit_set}
use Rattle.definitions.specs.Names.{hash, digit0, before_hash, hash_run, with_fraction, split, digits, places_by, places, padded, whole_body, format, name}
use Rattle.definitions.specs.Template.{TemplateFields, repeated, promoted, template_clip_times, activations, template_set}
use Rattle.definitions.specs.Timing.{last_at_most, active_position, on_segment, map_time, map_stage_to_clip}
use Rattle.definitions.specs.Samples.{clip_begin, clip_end, clip_times, held_place}
use Rattle.definitions.specs.Value.{says, blocked_at, contributes, read_clip, direct_source, window, stage_times_for_clip_time, window_sample_times, gathered, jump}
use Rattle.definitions.specs.StageSamples.{drop_equal, dedup, in_order, stage_sample_times}
use Rattle.definitions.specs.Facts.{max_name, StageSampleTimesAre, last_up_to, first_above, same_time, reading_time_in_order, value_in_order}
use Rattle.definitions.proofs.Sets.{n, frac, -n, holds, same_times, is, templated, falling, falling-samples}

-- a `#` behind so many digits
abbrev behind : ℕ → List ℕ
behind zero = hash ∷ []
behind (suc k) = digit0 ∷ behind k

abbrev unsorted : List Float
unsorted = n 3 ∷ n 2 ∷ n 0 ∷ n 1 ∷ -n 0 ∷ n 2 ∷ []

abbrev moved-starts : TemplateFields
moved-starts = templated "f.###.usd" (n 101) (n 103) (n 1) true (frac 1 2)

table : List Bool
table =
    -- a template of 255 bytes at -2^40, which has 13 digits and a minus
    eqb (length (behind 254)) max_template
    ∷ eqb (length (name (behind 254) (clip (-n 1099511627776)))) max_name
    -- 101 to 103 by 1 with offset 0.5: the clip times are not the starts, which are 101.5, 102.5 and 103.5
    ∷ same_times (template_clip_times moved-starts.times) (n 101 ∷ n 102 ∷ n 103 ∷ [])
    ∷ same_times (active_times (template_set moved-starts).active) (frac 203 2 ∷ frac 205 2 ∷ frac 207 2 ∷ [])
    -- sorted, equals dropped, of the two zeros -0.0 left
    ∷ same_times (in_order unsorted) (-n 0 ∷ n 1 ∷ n 2 ∷ n 3 ∷ [])
    -- the last ≤ t and the first > t: of a time that is listed, between two, below all and from the last on
    ∷ same_time (last_up_to (in_order unsorted) (n 2)) (some (n 2))
    ∷ same_time (first_above (in_order unsorted) (n 2)) (some (n 3))
    ∷ same_time (last_up_to (in_order unsorted) (frac 1 2)) (some (n 0))
    ∷ same_time (first_above (in_order unsorted) (frac 1 2)) (some (n 1))
    ∷ same_time (last_up_to (in_order unsorted) (-n 1)) none
    ∷ same_time (first_above (in_order unsorted) (n 3)) none
    -- the value at 5 is 2.0, at 20 it is 3.0
    ∷ is (value_in_order (explicit_set falling) falling-samples (stage (n 5))) (Value (n 2))
    ∷ is (value_in_order (explicit_set falling) falling-samples (stage (n 20))) (Value (n 3))
    ∷ []

record FactFigures : Type 0 where
  figures : holds table ≡ true
  times : StageSampleTimesAre (explicit_set falling) (stage_sample_times (explicit_set falling) falling-samples)

computed : FactFigures
unfolding
    table round neg add sub mul div lt le eq to_bits lerp share is_whole truncated sign_bit total_key explicit_set is_clip_number before_hash hash_run with_fraction split
    digits places_by places padded whole_body format name last_at_most active_position on_segment map_time map_stage_to_clip clip_begin clip_end clip_times held_place says
    blocked_at contributes read_clip direct_source window stage_times_for_clip_time window_sample_times gathered jump drop_equal dedup stage_sample_times
    reading_time_in_order value_in_order repeated promoted activations template_set
computed = record { figures = refl; times = record { finitely = tt; ascend = tt; starts = tt } }
