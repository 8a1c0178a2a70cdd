-- What "Demand 3" says of a track in the caller's words, with no track in it: the number of its changes, and what the written lists give when they are read. Assumes nothing.
use Rattle.std.specs.Prelude.{ℕ, suc, ◌-◌, ◌≤◌, ◌<◌, ◌≡◌, T, take, Float}
use Rattle.gf.specs.Doubles.{of_key, least, most}
use Rattle.definitions.specs.declared.StageTime.{StageTime}
use Rattle.definitions.specs.declared.Answer.{Answer}
use Rattle.definitions.specs.Lists.{count_from}
use Rattle.definitions.specs.Doubles.{FiniteDouble}
use Rattle.definitions.specs.ClipSet.{ClipSet, Model, no_set, standing}
use Rattle.definitions.specs.Samples.{Samples, samples_number}
use Rattle.definitions.specs.Value.{value_in_set}
use Rattle.definitions.specs.Track.{alike, Track, TrackOf, Outputs, slots, value_at, differs}
use Rattle.definitions.specs.Reading.{track_of_lists, read_by_halves}
use Rattle.definitions.specs.Questions.{Reply, refused, replied}
use Rattle.definitions.specs.WholeList.{WholeListOf}
use Rattle.definitions.specs.Calls.{Call, step, Baked}

-- "there is one right track, to the bit"
abbrev pub OneTrack : Type 0
OneTrack = (v : StageTime → Answer) (first second : Track) → TrackOf v first → TrackOf v second → first ≡ second

-- the track as the caller has it: the head and the count of the reply, and the front of each list
abbrev pub handed_track : Baked → Outputs → Track
handed_track b p = track_of_lists b.initial.value b.initial.mark (take b.count p.times) (take b.count p.values) (take b.count p.marks)

module _ (v : StageTime → Answer) where
  -- The number of the doubles at which v changes, by their keys: every finite double but the lowest is asked, and zero once.
  unfoldable pub change_count : ℕ
  change_count = count_from (λ (k : ℕ). differs v (of_key k)) (suc least) (most - least)

  pub record ReadsBack (b : Baked) (p : Outputs) : Type 0 where
    -- "its count is the number of those doubles"
    pub count : b.count ≡ change_count
    -- "Read held": at every finite stage time, as the library reads, the value
    pub gives : (t : Float) → FiniteDouble t → T (alike (read_by_halves (handed_track b p) t) (value_at v t))

  -- what a bake gives: what reads back as v, where there are slots enough for its changes, and else 22, and nothing is written
  abbrev pub GivesValues : Outputs → Reply Baked → Outputs → Type 0
  GivesValues o r p =
      (change_count ≤ slots o → (b : Baked) × (r ≡ replied b) × ReadsBack b p)
      × (slots o < change_count → (r ≡ refused 22) × (p ≡ o))

-- Demand 3 in these words
abbrev pub DueValues : Model → Samples → Outputs → Reply Baked → Outputs → Type 0
DueValues m s o r p = (set : ClipSet) → m ≡ standing set → samples_number set s ≡ 0 → GivesValues (value_in_set set s) o r p

abbrev pub WholeListValues : {State : Type 0} → State → (Call → State → State → Type 0) → (State → Samples → Outputs → Reply Baked → Outputs → Type 0) → Type 0
WholeListValues fresh Moves Replies = WholeListOf no_set step fresh Moves Replies DueValues
