-- docs/VALUE-CLIPS.md, "Worked figures", computed by the definitions. `figures`: those marked (P), proved together, from the definitions, as one table, with their two
-- tracks, proved at every double; `unmarked`: the values of the one that is not; two tracks of zeros. `examples`: what the Rust gave in runs. `wrong`: false figures, each found false.
-- Assumes nothing.
use mathlib.Core.Path.{◌≡◌, refl}
use Prim.Native.Nat.{ℕ, suc, ◌-◌, ◌^◌}
use Prim.Native.String.{String}
use mathlib.Core.Bool.{Bool, true, false, not}
use mathlib.Core.List.{List, [], ◌∷◌, map}
use lib.Dec.{eqb}
use lib.Ieee.{Float, nan, round, neg, add, sub, mul, div, lt, le, eq, to_bits, of_bits, is_nan}
use Rattle.gf.specs.Doubles.{within, key, of_key, lerp, share, abs, is_whole, truncated, is_clip_number, sign_bit, total_key}
use Rattle.definitions.specs.declared.Answer.TheVariants.{Value, Blocked, Absent}
use Rattle.definitions.specs.Doubles.{lowest, next_lower}
use Rattle.definitions.specs.ClipSet.{no_set, standing, stage, clip, nan_default, beyond_limits, equal_starts, equal_knots, bad_default_mark, active_times}
use Rattle.definitions.specs.Explicit.{ExplicitFields, explicit_set, explicit_number, explicit1, explicit2, explicit3}
use Rattle.definitions.specs.Names.{before_hash, hash_run, with_fraction, split, readable, digits, places_by, places, padded, whole_body, decimals, fraction_body, format, name, name_number}
use Rattle.definitions.specs.Template.{TemplateFields, times_unstorable, times_disordered, repeated, promoted, activations, template_set, template_number, template1, template2, template6, template7, template8}
use Rattle.definitions.specs.Retime.{retime_number}
use Rattle.definitions.specs.Timing.{last_at_most, active_position, active_entry, active_clip, on_segment, map_time, map_stage_to_clip}
use Rattle.definitions.specs.Samples.{Samples, clip_begin, clip_end, clip_times, held_place, unlike_lengths, samples1, samples2, bad_marks, closes, samples9, samples_number}
use Rattle.definitions.specs.Value.{says, blocked_at, contributes, read_clip, first_reading, interpolate_missing_value, direct_source, window, stage_times_for_clip_time, window_sample_times, gathered, lower_neighbour, upper_neighbour, jump, reading_time, value_source, value_in_set}
use Rattle.definitions.specs.StageSamples.{drop_equal, dedup, stage_sample_times, supplied_at, any_samples, untimed_answer}
use Rattle.definitions.specs.Normalize.{TimeSample, time_samples, merge, merge_equal, normalize_time_samples, normalize_number}
use Rattle.definitions.specs.Track.{entry_of, alike, differs, TrackOf}
use Rattle.definitions.specs.Questions.{Reply, refused, replied, ask_value}
use Rattle.definitions.specs.WholeList.{run_from}
use Rattle.definitions.specs.Calls.{explicit, retime, bake, step, after}
use Rattle.definitions.specs.declared.ValueState.{ValueState}
use Rattle.definitions.specs.declared.ValueState.TheVariants.{Present as present, Blocked as blocked, Absent as absent}
use Rattle.definitions.proofs.Sets.{n, frac, -n, greatest, next_higher, bytes, holds, fails, same, same_times, same_bytes, same_names, is_clip, is, fields, defaulting, templated, numbers, clip_time_at, value_at, names, two, jumping, falling, falling-samples, gap, gap-samples, one, one-samples, twice, rising, again, again-samples, blocking, zeros, zeros-falling, by, xs, no_room}
use Rattle.definitions.proofs.FigureTracks.{set as gap-set, fall, gap-track, falling-track, zero-set, falling-zero-set, zeros-track, zeros-falling-track}

-- ---- the table

table : List Bool
table =
    -- starts 0, 10 for clips 0, 1: at -5 and 9.5 clip 0, at 10 clip 1
    eqb (explicit_number two) 0
    ∷ is_clip (active_clip (explicit_set two) (stage (-n 5))) 0
    ∷ is_clip (active_clip (explicit_set two) (stage (frac 19 2))) 0
    ∷ is_clip (active_clip (explicit_set two) (stage (n 10))) 1
    -- starts 0.0, -0.0: 4. Index 1.5: 3. Knots x 5, 5, 5: 5; two 5s accepted
    ∷ eqb (explicit_number (fields 2 (n 0 ∷ -n 0 ∷ []) (n 0 ∷ n 1 ∷ []) [] [])) 4
    ∷ eqb (explicit_number (fields 2 (n 0 ∷ []) (frac 3 2 ∷ []) [] [])) 3
    ∷ eqb (explicit_number (fields 0 [] [] (n 5 ∷ n 5 ∷ n 5 ∷ []) (n 0 ∷ n 1 ∷ n 2 ∷ []))) 5
    ∷ eqb (explicit_number (fields 0 [] [] (n 5 ∷ n 5 ∷ []) (n 0 ∷ n 1 ∷ []))) 0
    -- knots (0,0) (10,10) (10,0) (20,10): -1→0, 5→5, 10→0, 15→5, 25→10
    ∷ eqb (explicit_number jumping) 0
    ∷ same (clip_time_at jumping (-n 1)) (n 0)
    ∷ same (clip_time_at jumping (n 5)) (n 5)
    ∷ same (clip_time_at jumping (n 10)) (n 0)
    ∷ same (clip_time_at jumping (n 15)) (n 5)
    ∷ same (clip_time_at jumping (n 25)) (n 10)
    -- template 1 to 3 by 1, `f.###.usd`: f.001.usd, f.002.usd, f.003.usd
    ∷ eqb (template_number (templated "f.###.usd" (n 1) (n 3) (n 1) false (n 0))) 0
    ∷ same_names (names (templated "f.###.usd" (n 1) (n 3) (n 1) false (n 0))) ("f.001.usd" ∷ "f.002.usd" ∷ "f.003.usd" ∷ [])
    -- template 1 to 1 by 1 with offset 0: 5; with no offset accepted
    ∷ eqb (template_number (templated "f.###.usd" (n 1) (n 1) (n 1) true (n 0))) 5
    ∷ eqb (template_number (templated "f.###.usd" (n 1) (n 1) (n 1) false (n 0))) 0
    -- `f.###.usd` at -5: f.-05.usd. `f.##.##.usd` at -0.5: f.-00.50.usd; at 0.125: f.00.12.usd; at 0.375: f.00.38.usd
    ∷ same_bytes (name (bytes "f.###.usd") (clip (-n 5))) (bytes "f.-05.usd")
    ∷ same_bytes (name (bytes "f.##.##.usd") (clip (neg (frac 1 2)))) (bytes "f.-00.50.usd")
    ∷ same_bytes (name (bytes "f.##.##.usd") (clip (frac 1 8))) (bytes "f.00.12.usd")
    ∷ same_bytes (name (bytes "f.##.##.usd") (clip (frac 3 8))) (bytes "f.00.38.usd")
    -- starts 0, 20; knots (0,10) (20,0); ..: the value at 5 is 2.0; head 2.0, a change at 20 to 3.0
    ∷ eqb (explicit_number falling) 0
    ∷ eqb (samples_number (explicit_set falling) falling-samples) 0
    ∷ is (value_at falling falling-samples (n 5)) (Value (n 2))
    ∷ is (value_at falling falling-samples lowest) (Value (n 2))
    ∷ is (value_at falling falling-samples (next_lower (n 0))) (Value (n 2))
    ∷ is (value_at falling falling-samples (n 0)) (Value (n 2))
    ∷ is (value_at falling falling-samples (next_higher (n 0))) (Value (n 2))
    ∷ is (value_at falling falling-samples (next_lower (n 20))) (Value (n 2))
    ∷ is (value_at falling falling-samples (n 20)) (Value (n 3))
    ∷ is (value_at falling falling-samples (next_higher (n 20))) (Value (n 3))
    ∷ is (value_at falling falling-samples greatest) (Value (n 3))
    ∷ differs (value_in_set (explicit_set falling) falling-samples) (n 20)
    ∷ not (differs (value_in_set (explicit_set falling) falling-samples) (n 0))
    -- starts 0, 10, 20, no knots, clip 1 empty, ..: at 15 blocked; flag on, 1.0; block at 0 too, head 3.0 and no change
    ∷ eqb (explicit_number (gap (n 0 ∷ []) true)) 0
    ∷ eqb (samples_number (explicit_set (gap [] false)) gap-samples) 0
    ∷ is (value_at (gap [] false) gap-samples (n 15)) Blocked
    ∷ is (value_at (gap [] true) gap-samples (n 15)) (Value (n 1))
    ∷ is (value_at (gap (n 0 ∷ []) true) gap-samples lowest) (Value (n 3))
    ∷ is (value_at (gap (n 0 ∷ []) true) gap-samples (next_lower (n 0))) (Value (n 3))
    ∷ is (value_at (gap (n 0 ∷ []) true) gap-samples (n 0)) (Value (n 3))
    ∷ is (value_at (gap (n 0 ∷ []) true) gap-samples (n 5)) (Value (n 3))
    ∷ is (value_at (gap (n 0 ∷ []) true) gap-samples (next_lower (n 10))) (Value (n 3))
    ∷ is (value_at (gap (n 0 ∷ []) true) gap-samples (n 10)) (Value (n 3))
    ∷ is (value_at (gap (n 0 ∷ []) true) gap-samples (n 15)) (Value (n 3))
    ∷ is (value_at (gap (n 0 ∷ []) true) gap-samples (next_lower (n 20))) (Value (n 3))
    ∷ is (value_at (gap (n 0 ∷ []) true) gap-samples (n 20)) (Value (n 3))
    ∷ is (value_at (gap (n 0 ∷ []) true) gap-samples greatest) (Value (n 3))
    ∷ []

-- head 3.0, then 2.0 soon after 0 (the double above 2^-50 is the first whose clip time is below 10), then 1.0 after 5
abbrev soon : Float
soon = next_higher (frac 1 1125899906842624)

unmarked-table : List Bool
unmarked-table =
    eqb (explicit_number one) 0
    ∷ eqb (samples_number (explicit_set one) one-samples) 0
    ∷ is (value_at one one-samples lowest) (Value (n 3))
    ∷ is (value_at one one-samples (n 0)) (Value (n 3))
    ∷ is (value_at one one-samples (next_higher (n 0))) (Value (n 3))
    ∷ is (value_at one one-samples (next_lower soon)) (Value (n 3))
    ∷ is (value_at one one-samples soon) (Value (n 2))
    ∷ is (value_at one one-samples (n 5)) (Value (n 2))
    ∷ is (value_at one one-samples (next_higher (n 5))) (Value (n 1))
    ∷ is (value_at one one-samples greatest) (Value (n 1))
    ∷ differs (value_in_set (explicit_set one) one-samples) soon
    ∷ differs (value_in_set (explicit_set one) one-samples) (next_higher (n 5))
    ∷ not (differs (value_in_set (explicit_set one) one-samples) (n 5))
    ∷ []

-- ---- false figures

wrong-table : List Bool
wrong-table =
    -- at 9.5 the later clip; the two zeros as two starts; three equal x
    is_clip (active_clip (explicit_set two) (stage (frac 19 2))) 1
    ∷ eqb (explicit_number (fields 2 (n 0 ∷ -n 0 ∷ []) (n 0 ∷ n 1 ∷ []) [] [])) 0
    ∷ eqb (explicit_number (fields 0 [] [] (n 5 ∷ n 5 ∷ n 5 ∷ []) (n 0 ∷ n 1 ∷ n 2 ∷ []))) 0
    -- at a jump the earlier clip time
    ∷ same (clip_time_at jumping (n 10)) (n 10)
    -- offset 0 taken for no offset; a tie rounded up; the minus not counted
    ∷ eqb (template_number (templated "f.###.usd" (n 1) (n 1) (n 1) true (n 0))) 0
    ∷ same_bytes (name (bytes "f.##.##.usd") (clip (frac 1 8))) (bytes "f.00.13.usd")
    ∷ same_bytes (name (bytes "f.###.usd") (clip (-n 5))) (bytes "f.-005.usd")
    -- "answering 5 with 1.0, the direct value"
    ∷ is (value_at falling falling-samples (n 5)) (Value (n 1))
    -- "Heeding manifest blocks with the flag off"
    ∷ is (value_at (gap (n 0 ∷ []) false) gap-samples (n 5)) Blocked
    -- "letting a falling segment change at the preimage instead of after it"; the first change taken to be right after 0
    ∷ is (value_at one one-samples (n 5)) (Value (n 1))
    ∷ is (value_at one one-samples (next_higher (n 0))) (Value (n 2))
    -- "Looping on a stride too small to move t"
    ∷ eqb (template_number (templated "f.###.usd" (n 1099511627776) (n 1099511627776) (frac 1 10000000000) false (n 0))) 0
    ∷ []

-- ---- what the Rust gave in runs of the kept functions, and the orders of the numbers

-- the double below 2.1: the inverse time of 7.6 on the knots (0,2) (3,10), where the clip time is still below 7.6
abbrev inverse-time : Float
inverse-time = next_lower (frac 21 10)

-- one start, two with a jump at 3, and with the second start at 3, with and without the jump; `twice` has two
abbrev once : ExplicitFields
once = fields 2 (n 0 ∷ []) (n 0 ∷ []) (n 0 ∷ n 3 ∷ []) (n 2 ∷ n 10 ∷ [])

abbrev jumps : ExplicitFields
jumps = fields 2 (n 0 ∷ n 1000 ∷ []) (n 0 ∷ n 1 ∷ []) (n 0 ∷ n 3 ∷ n 3 ∷ []) (n 2 ∷ n 10 ∷ n 0 ∷ [])

abbrev meets : ExplicitFields
meets = fields 2 (n 0 ∷ n 3 ∷ []) (n 0 ∷ n 1 ∷ []) (n 0 ∷ n 3 ∷ n 3 ∷ []) (n 2 ∷ n 10 ∷ n 0 ∷ [])

abbrev bare : ExplicitFields
bare = fields 2 (n 0 ∷ n 3 ∷ []) (n 0 ∷ n 1 ∷ []) (n 0 ∷ n 3 ∷ []) (n 2 ∷ n 10 ∷ [])

-- knots (0,20) (20,0), two starts; clip 0 has 0→1.0, 15→2.0, 19→3.0
abbrev from : Float → ExplicitFields
from start = fields 2 (start ∷ n 100 ∷ []) (n 0 ∷ n 1 ∷ []) (n 0 ∷ n 20 ∷ []) (n 20 ∷ n 0 ∷ [])

abbrev from-samples : Samples
from-samples = numbers (n 0 ∷ n 15 ∷ n 19 ∷ []) (n 1 ∷ n 2 ∷ n 3 ∷ []) (3 ∷ 3 ∷ [])

-- `gap` with the default 7.0
abbrev defaulted : ExplicitFields
defaulted = defaulting (n 7) (gap [] false)

abbrev clips_of : TemplateFields → ℕ
clips_of f = (template_set f).clips

abbrev named : String → Float → String → Bool
named t x r = same_bytes (name (bytes t) (clip x)) (bytes r)

abbrev unreadable : String → Bool
unreadable t = eqb (name_number (bytes t) (clip (n 1)) 300) 6

abbrev is_refused : {A : Type 0} → Reply A → ℕ → Bool
is_refused (refused m) k = eqb m k
is_refused (replied a) k = false

abbrev is_present : ValueState → Bool
is_present present = true
is_present blocked = false
is_present absent = false

abbrev is_absent : ValueState → Bool
is_absent present = false
is_absent blocked = false
is_absent absent = true

examples-table : List Bool
examples-table =
    -- one start: direct at every double. Two: the direct value at the lower neighbour
    is (value_at once rising inverse-time) (Value (n 1))
    ∷ is (value_at once rising (next_higher inverse-time)) (Value (n 2))
    ∷ is (value_at twice rising (next_higher inverse-time)) (Value (n 1))
    ∷ is (value_at twice rising (next_lower (n 3))) (Value (n 1))
    ∷ is (value_at twice rising (n 3)) (Value (n 2))
    -- a jump inside the window, and one at its end: direct
    ∷ is (value_at jumps rising (next_higher inverse-time)) (Value (n 2))
    ∷ is (value_at meets rising (frac 5 2)) (Value (n 2))
    ∷ is (value_at bare rising (frac 5 2)) (Value (n 1))
    -- the clip time just below a knot may lie beyond the knot's; an inverse time may lie beyond its segment
    ∷ same (clip_time_at (fields 0 [] [] (-n 1 ∷ frac 1 10 ∷ n 1 ∷ []) (frac 1 2 ∷ frac 1 10 ∷ frac 1 10 ∷ [])) (next_lower (frac 1 10))) (next_lower (next_lower (frac 1 10)))
    ∷ same_times (stage_times_for_clip_time (explicit_set (fields 0 [] [] (-n 1099511627776 ∷ frac 3 16384 ∷ []) (n 0 ∷ n 1 ∷ []))).knots (clip (n 1))) (frac 1 4096 ∷ [])
    -- the first start is gathered, though its window has no lower end
    ∷ is (value_at (from (n 10)) from-samples (next_lower (n 10))) (Value (n 2))
    ∷ is (value_at (from (n 10)) from-samples (n 10)) (Value (n 1))
    ∷ is (value_at (from (n 0)) from-samples (next_lower (n 20))) (Value (n 2))
    ∷ is (value_at (from (n 0)) from-samples (n 20)) (Value (n 1))
    -- the two zeros: sorted apart in a set, one time in a list that is normalised, and -0.0 kept among stage sample times
    ∷ same (clip_time_at (fields 0 [] [] (n 0 ∷ -n 0 ∷ []) (n 1 ∷ n 2 ∷ [])) (n 0)) (n 1)
    ∷ same_times (stage_sample_times (explicit_set (fields 1 (n 0 ∷ []) (n 0 ∷ []) (-n 0 ∷ []) (n 1 ∷ []))) (numbers [] [] (0 ∷ []))) (-n 0 ∷ [])
    ∷ same_times (map (λ (a : TimeSample). a.time) (normalize_time_samples (time_samples (n 1 ∷ n 0 ∷ -n 0 ∷ []) (n 5 ∷ n 6 ∷ n 7 ∷ []) (0 ∷ 0 ∷ 1 ∷ [])))) (n 0 ∷ n 1 ∷ [])
    ∷ same_times (map (λ (a : TimeSample). a.value) (normalize_time_samples (time_samples (n 1 ∷ n 0 ∷ -n 0 ∷ []) (n 5 ∷ n 6 ∷ n 7 ∷ []) (0 ∷ 0 ∷ 1 ∷ [])))) (n 7 ∷ n 5 ∷ [])
    ∷ eqb (normalize_number (n 1 ∷ n 1 ∷ []) (n 5 ∷ n 6 ∷ []) (0 ∷ 0 ∷ []) 1) 0
    -- a start's block sends the search past it, to the same clip at another start; stage sample times do not ask who contributes
    ∷ is (value_at again again-samples (n 13)) (Value (n 1))
    ∷ same_times (stage_sample_times (explicit_set again) again-samples) (n 0 ∷ n 10 ∷ n 12 ∷ [])
    -- a block that is read is the answer: in the search, and in the active clip before the default
    ∷ is (value_at (gap [] true) blocking (n 15)) Blocked
    ∷ eqb (samples_number (explicit_set defaulted) blocking) 0
    ∷ is (value_at defaulted blocking (n 5)) Blocked
    ∷ is (value_at defaulted blocking (n 15)) (Value (n 7))
    ∷ eqb (supplied_at (explicit_set (gap [] true)) gap-samples (stage (n 10))) 1
    -- a set without starts is absent, by either question
    ∷ is (value_at jumping (numbers [] [] []) (n 5)) Absent
    ∷ is_absent (untimed_answer (explicit_set jumping) (numbers [] [] []))
    ∷ is_present (untimed_answer (explicit_set (gap [] false)) blocking)
    -- templates: the order 1, 2, 7, 6, 8, 2, 4, 5, 9; the slack of 0.5; an absent offset's slot; a stride that does not move t, and a huge one
    ∷ eqb (template_number (templated "f.usd" (n 1) (n 3) (n 0) false (n 0))) 7
    ∷ eqb (template_number (templated "f.usd" (n 1) (n 3) (n 1) false nan)) 6
    ∷ eqb (template_number (templated "#" (n 0) (n 0) (n 4398046511104) true (n 2199023255552))) 2
    ∷ eqb (template_number (templated "#" (n 900000000000) (frac 900000000000001 1000) (frac 1 10000) false (n 0))) 4
    ∷ eqb (template_number (templated "#" (n 0) (n 0) (frac 1 10000000) false (n 0))) 8
    ∷ eqb (template_number (templated "#" (n 1099511627776) (n 1099511627776) (frac 1 10000000000) false (n 0))) 8
    ∷ eqb (clips_of (templated "#" (n 1) (n 1) (frac 1 100000) false (n 0))) 5
    ∷ eqb (clips_of (templated "#" (n 1) (n 1) greatest false (n 0))) 1
    ∷ same_times (xs (template_set (templated "#" (n 1) (frac 299996 100000) (n 1) true (n 0)))) (n 1 ∷ n 1 ∷ n 2 ∷ frac 299996 100000 ∷ n 3 ∷ [])
    ∷ same_times (active_times (template_set (templated "#" (n 101) (n 103) (n 1) true (frac 1 2))).active) (frac 203 2 ∷ frac 205 2 ∷ frac 207 2 ∷ [])
    -- samples: a NaN under a bad mark is 9, a NaN value 2; the two zeros do not ascend; ends that fall, do not close, or are too few
    ∷ eqb (samples_number (explicit_set one) (record { times = n 0 ∷ []; values = nan ∷ []; marks = 7 ∷ []; ends = 1 ∷ [] })) 9
    ∷ eqb (samples_number (explicit_set one) (numbers (n 0 ∷ []) (nan ∷ []) (1 ∷ []))) 2
    ∷ eqb (samples_number (explicit_set one) (numbers (-n 0 ∷ n 0 ∷ []) (n 1 ∷ n 1 ∷ []) (2 ∷ []))) 9
    ∷ eqb (samples_number (explicit_set two) (numbers (n 0 ∷ n 1 ∷ []) (n 1 ∷ n 1 ∷ []) (3 ∷ 2 ∷ []))) 9
    ∷ eqb (samples_number (explicit_set two) (numbers (n 0 ∷ n 0 ∷ []) (n 1 ∷ n 1 ∷ []) (1 ∷ 2 ∷ []))) 0
    ∷ eqb (samples_number (explicit_set two) (numbers (n 0 ∷ n 1 ∷ []) (n 1 ∷ n 1 ∷ []) (2 ∷ []))) 1
    ∷ eqb (samples_number (explicit_set jumping) (numbers (n 0 ∷ []) (n 1 ∷ []) [])) 9
    -- explicit sets: the order of the numbers, -0.0 as a clip number, 2^40 and the next double
    ∷ eqb (explicit_number (fields 257 (nan ∷ []) (nan ∷ []) [] [])) 1
    ∷ eqb (explicit_number (fields 1 (n 0 ∷ []) [] (nan ∷ []) [])) 1
    ∷ eqb (explicit_number (fields 1 (nan ∷ []) (nan ∷ []) [] [])) 2
    ∷ eqb (explicit_number (fields 1 (n 0 ∷ []) (nan ∷ []) [] [])) 3
    ∷ eqb (explicit_number (fields 1 (n 0 ∷ []) (n 1 ∷ []) [] [])) 3
    ∷ eqb (explicit_number (fields 0 (n 0 ∷ []) (-n 0 ∷ []) [] [])) 3
    ∷ eqb (explicit_number (fields 1 (n 0 ∷ []) (-n 0 ∷ []) [] [])) 0
    ∷ eqb (explicit_number (fields 1 (n 1099511627776 ∷ []) (n 0 ∷ []) [] [])) 0
    ∷ eqb (explicit_number (fields 1 (next_higher (n 1099511627776) ∷ []) (n 0 ∷ []) [] [])) 2
    -- questions: 20, then the samples' numbers, then 10
    ∷ is_refused (ask_value no_set one-samples (stage nan)) 20
    ∷ is_refused (ask_value (standing (explicit_set one)) gap-samples (stage nan)) 1
    ∷ is_refused (ask_value (standing (explicit_set one)) one-samples (stage nan)) 10
    ∷ not (is_refused (ask_value (standing (explicit_set one)) one-samples (stage greatest)) 10)
    -- neighbours: zero is one double, the lowest is -f64::MAX; in the total order the zeros are two
    ∷ same lowest (neg (n (2 ^ 1024 - 2 ^ 971)))
    ∷ same (next_lower (frac 1 (2 ^ 1074))) (n 0)
    ∷ same (next_lower (n 0)) (neg (frac 1 (2 ^ 1074)))
    ∷ same (next_lower (-n 0)) (neg (frac 1 (2 ^ 1074)))
    ∷ eqb (total_key (n 0)) (suc (total_key (-n 0)))
    -- names
    ∷ named "###" (neg (frac 1 2)) "000"
    ∷ named "##.##" (neg (frac 1 1000)) "-00.00"
    ∷ named "##.##" (-n 0) "-00.00"
    ∷ named "#.##" (frac 9999 1000) "10.00"
    ∷ named "#.##" (frac 1145 1000) "1.15"
    ∷ named "foo.#.###.usd" (frac 115 100) "foo.1.150.usd"
    ∷ named "foo.###.usd" (n 12) "foo.012.usd"
    ∷ named "#." (n 7) "7."
    ∷ named "#" (-n 12) "-12"
    ∷ unreadable "name"
    ∷ unreadable "#################################"
    ∷ unreadable "##.#######"
    ∷ unreadable "a#b#"
    ∷ unreadable "##.x#"
    ∷ eqb (name_number (bytes "f.###.usd") (clip (n 1)) 8) 22
    ∷ eqb (name_number (bytes "f.###.usd") (clip (n 1)) 9) 0
    ∷ []

-- ---- all of it computes

record Figures : Type 0 where
  figures : holds table ≡ true
  head-and-change : TrackOf (value_in_set fall falling-samples) (record { initial = record { value = n 2; mark = 0 }; changes = record { time = n 20; value = n 3; mark = 0 } ∷ [] })
  head-alone : TrackOf (value_in_set gap-set gap-samples) (record { initial = record { value = n 3; mark = 0 }; changes = [] })
  unmarked : holds unmarked-table ≡ true
  zeros-alone : TrackOf (value_in_set zero-set zeros) (record { initial = record { value = n 0; mark = 0 }; changes = [] })
  zeros-falling-alone : TrackOf (value_in_set falling-zero-set zeros-falling) (record { initial = record { value = n 0; mark = 0 }; changes = [] })
  wrong : fails wrong-table ≡ true
  examples : holds examples-table ≡ true
  -- demand 3's premises can be met: a list of calls, refused ones among them, after which a set stands; its samples are accepted by a row of the table
  stands_after : after (retime (by (n 0) (n 1)) ∷ explicit falling ∷ explicit (fields 2 (n 0 ∷ -n 0 ∷ []) (n 0 ∷ n 1 ∷ []) [] []) ∷ bake falling-samples no_room ∷ []) ≡ standing (explicit_set falling)

computed : Figures
unfolding
    table round neg add sub mul div lt le eq to_bits of_bits is_nan within key of_key lerp share abs is_whole truncated sign_bit total_key lowest next_lower
    nan_default beyond_limits equal_starts equal_knots bad_default_mark explicit_set explicit_number explicit1 explicit2 explicit3 is_clip_number before_hash
    hash_run with_fraction split readable digits places_by places padded whole_body decimals fraction_body format name repeated promoted activations
    times_unstorable times_disordered template_set template_number template1 template2 template6 template7 template8 last_at_most active_position active_entry active_clip on_segment map_time
    map_stage_to_clip clip_begin clip_end clip_times held_place unlike_lengths samples1 samples2 bad_marks closes samples9 samples_number says blocked_at
    contributes read_clip first_reading interpolate_missing_value direct_source window stage_times_for_clip_time window_sample_times gathered lower_neighbour
    upper_neighbour jump reading_time value_source value_in_set entry_of alike differs unmarked-table wrong-table examples-table name_number
    retime_number drop_equal dedup stage_sample_times supplied_at any_samples untimed_answer time_samples merge merge_equal
    normalize_time_samples normalize_number step run_from ask_value
computed = record { figures = refl; head-and-change = falling-track; head-alone = gap-track; unmarked = refl; zeros-alone = zeros-track; zeros-falling-alone = zeros-falling-track; wrong = refl; examples = refl; stands_after = refl }
