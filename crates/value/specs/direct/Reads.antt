-- What a reading of a clip is in the definitions' terms, and the search for a missing value start by start. Assumes nothing.
use Rattle.std.specs.Prelude.{◌≡◌, cond, List, [], ◌∷◌, ℕ, ◌<◌, length, get_or, Float}
use Rattle.std.specs.Prelude.{Some, None}
use Rattle.std.specs.Prelude as std
use Rattle.std.proofs.Math.Option.{Option, none, some}
use Rattle.std.specs.Float.Ieee.{eq}
use Rattle.definitions.specs.declared.Start.{Start}
use Rattle.definitions.specs.declared.StageTime.{StageTime}
use Rattle.definitions.specs.declared.Answer.{Answer}
use Rattle.definitions.specs.declared.Source.{Source}
use Rattle.definitions.specs.declared.Source.TheVariants.{Sample as sample}
use Rattle.definitions.specs.Lists.{any}
use Rattle.definitions.specs.ClipSet.{stage}
use Rattle.definitions.specs.Timing.{map_stage_to_clip}
use Rattle.definitions.specs.Samples.{clip_begin, clip_end, held_place}
use Rattle.definitions.specs.Value.{SampleRead, sample_of}
use Rattle.laws.specs.cell.Lent.{knots_of}
use Rattle.window.specs.Parts.{part_of, Readable}
use Rattle.sdf.specs.look.Reads.{held_reading}

-- ---- a reading of the code

abbrev pub reading_is : SampleRead → Option Source
reading_is (Some (c, i)) = some (sample c i)
reading_is None = none

-- its place, with what the sample there says
abbrev pub held_part : List Float → List Float → List Float → List Float → List ℕ → List ℕ → ℕ → StageTime → std.Option (ℕ × Answer)
held_part xs ys times values marks ends c t = held_reading times values marks (clip_begin ends c) (clip_end ends c) (map_stage_to_clip (knots_of xs ys) t)

-- the reading of clip c at a stage time
abbrev pub read_part : List Float → List Float → List Float → List ℕ → ℕ → StageTime → Option Source
read_part xs ys times ends c t = sample_of c (held_place (part_of times ends c) (map_stage_to_clip (knots_of xs ys) t))

-- ---- the search for a missing value, by the lists that tell it

-- "not blocked, whose clip has samples, read at that start's clip time"
abbrev pub read_start : List Float → List Float → List Float → List Float → List ℕ → Start → Option Source
read_start blocks xs ys times ends a = cond (any (λ (b : Float). eq b a.time) blocks) none (read_part xs ys times ends a.clip (stage a.time))

abbrev pub first_of : Option Source → Option Source → Option Source
first_of none r = r
first_of (some q) r = some q

-- the first reading of these starts
unfoldable pub first_read : List Float → List Float → List Float → List Float → List ℕ → List Start → Option Source
first_read blocks xs ys times ends [] = none
first_read blocks xs ys times ends (a ∷ rest) = first_of (read_start blocks xs ys times ends a) (first_read blocks xs ys times ends rest)

-- what it asks of the lists
pub record SearchAsks (starts : List Float) (clips : List ℕ) (xs ys times values : List Float) (marks ends : List ℕ) : Type 0 where
  pub paired : length starts ≡ length clips
  pub named : (i : ℕ) → i < length starts → get_or clips i 0 < length ends
  pub readable : Readable xs ys times ends
  pub valued : length values ≡ length times
  pub flagged : length marks ≡ length times
