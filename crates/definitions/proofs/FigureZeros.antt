-- Zeros of both signs, computed by the definitions: the value question keeps the sign, a track does not. `wrong`: false figures, each found false. Assumes nothing.
use mathlib.Core.Path.{◌≡◌, refl}
use Prim.Native.Nat.{◌^◌}
use mathlib.Core.Bool.{Bool, true, false, not}
use mathlib.Core.List.{List, [], ◌∷◌}
use lib.Dec.{eqb}
use lib.Ieee.{inf, round, neg, add, sub, mul, div, lt, le, eq, to_bits, of_bits, is_nan}
use Rattle.gf.specs.Doubles.{within, key, of_key, lerp, share, is_whole, truncated, total_key}
use Rattle.definitions.specs.declared.StageTime.{StageTime}
use Rattle.definitions.specs.declared.Answer.{Answer}
use Rattle.definitions.specs.declared.Answer.TheVariants.{Value, Blocked}
use Rattle.definitions.specs.Doubles.{lowest, next_lower}
use Rattle.definitions.specs.Explicit.{explicit_set}
use Rattle.definitions.specs.Timing.{last_at_most, active_position, on_segment, map_time, map_stage_to_clip}
use Rattle.definitions.specs.Samples.{clip_begin, clip_end, clip_times, held_place, unlike_lengths, samples1, samples2, bad_marks, closes, samples9, samples_number}
use Rattle.definitions.specs.Value.{says, blocked_at, contributes, read_clip, direct_source, window, stage_times_for_clip_time, window_sample_times, gathered, lower_neighbour, upper_neighbour, jump, reading_time, value_source, value_in_set}
use Rattle.definitions.specs.Track.{entry_of, alike, written_entry, written_at, differs, change_at}
use Rattle.definitions.proofs.Sets.{n, frac, -n, next_higher, holds, fails, same, is, value_at, two, gap, one, zeros, zeros-and-block, zeros-falling}

abbrev baked_zeros : StageTime → Answer
baked_zeros = value_in_set (explicit_set two) zeros

abbrev with_block : StageTime → Answer
with_block = value_in_set (explicit_set (gap [] false)) zeros-and-block

table : List Bool
table =
    -- -0.0 then 0.0 over two clips: no change at 10, a head of 0.0
    eqb (samples_number (explicit_set two) zeros) 0
    ∷ is (value_at two zeros lowest) (Value (-n 0))
    ∷ is (value_at two zeros (n 5)) (Value (-n 0))
    ∷ is (value_at two zeros (n 15)) (Value (n 0))
    ∷ not (differs baked_zeros (n 10))
    ∷ same (written_at baked_zeros lowest).value (n 0)
    ∷ same (change_at baked_zeros (n 5)).value (n 0)
    -- -0.0, a block, 0.0: two changes, at 10 and 20
    ∷ eqb (samples_number (explicit_set (gap [] false)) zeros-and-block) 0
    ∷ same (written_at with_block lowest).value (n 0)
    ∷ differs with_block (n 10)
    ∷ eqb (change_at with_block (n 10)).mark 1
    ∷ differs with_block (n 20)
    ∷ same (change_at with_block (n 20)).value (n 0)
    ∷ not (differs with_block (n 0))
    ∷ not (differs with_block (n 15))
    -- both in one clip, along a falling segment
    ∷ is (value_at one zeros-falling (n 5)) (Value (-n 0))
    ∷ is (value_at one zeros-falling (next_higher (n 5))) (Value (n 0))
    ∷ not (differs (value_in_set (explicit_set one) zeros-falling) (next_higher (n 5)))
    -- a zero and the least number above it are two, and infinities are alike to themselves alone
    ∷ not (alike (entry_of (Value (-n 0))) (entry_of (Value (frac 1 (2 ^ 1074)))))
    ∷ alike (entry_of (Value (inf true))) (entry_of (Value (inf true)))
    ∷ not (alike (entry_of (Value (inf true))) (entry_of (Value (inf false))))
    ∷ not (alike (entry_of (Value (n 0))) (entry_of Blocked))
    ∷ []

-- the sign of a zero lost by the value question, kept in a head or in a change, counted as a change; a zero alike to another number or to a block
wrong-table : List Bool
wrong-table =
    is (value_at two zeros (n 5)) (Value (n 0))
    ∷ same (written_at baked_zeros lowest).value (-n 0)
    ∷ same (change_at baked_zeros (n 5)).value (-n 0)
    ∷ differs baked_zeros (n 10)
    ∷ alike (entry_of (Value (n 0))) (entry_of (Value (n 1)))
    ∷ alike (entry_of (Value (n 0))) (entry_of Blocked)
    ∷ []

record FigureZeros : Type 0 where
  figures : holds table ≡ true
  wrong : fails wrong-table ≡ true

computed : FigureZeros
unfolding
    table wrong-table round neg add sub mul div lt le eq to_bits of_bits is_nan within key of_key lerp share is_whole truncated total_key lowest next_lower explicit_set
    last_at_most active_position on_segment map_time map_stage_to_clip clip_begin clip_end clip_times held_place unlike_lengths samples1 samples2 bad_marks closes samples9 samples_number
    says blocked_at contributes read_clip direct_source window stage_times_for_clip_time window_sample_times gathered lower_neighbour upper_neighbour jump reading_time value_source
    value_in_set entry_of alike written_entry differs change_at
computed = record { figures = refl; wrong = refl }
