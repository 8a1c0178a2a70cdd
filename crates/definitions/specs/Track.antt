-- docs/VALUE-CLIPS.md, "Track": a value over all stage times, as what holds first and where it changes. Assumes nothing.
use Rattle.std.specs.Prelude.{ℕ, min, ◌≡◌, Bool, not, ◌&&◌, ◌||◌, cond, T, eqb, ltb, length, Float}
use mathlib.Core.List.{List, [], ◌∷◌, Memᴰ, map}
use Rattle.std.specs.Float.Ieee.{eq, lt, le}
use Rattle.gf.specs.Doubles.{key, of_key, 0·0}
use Rattle.definitions.specs.declared.StageTime.{StageTime}
use Rattle.definitions.specs.declared.Answer.{Answer}
use Rattle.definitions.specs.declared.Answer.TheVariants.{Value, Blocked, Absent}
use Rattle.definitions.specs.Lists.{any, written_over, ◌if◌else◌, ◌then◌}
use Rattle.definitions.specs.Doubles.{lowest, next_lower, FiniteDouble, ascending}
use Rattle.definitions.specs.ClipSet.{Model, no_set, standing, mark_value, mark_block, mark_none, stage}
use Rattle.definitions.specs.Samples.{Samples, samples_number}

-- ---- an answer's mark and value slot

-- "a number has mark 0, a blocked value 1, an absent one 2"
abbrev pub mark_of : Answer → ℕ
mark_of (Value v) = mark_value
mark_of Blocked = mark_block
mark_of Absent = mark_none

-- "The value slot of a block or of an absent head is written 0.0"
abbrev pub slot_of : Answer → Float
slot_of (Value v) = v
slot_of Blocked = 0·0
slot_of Absent = 0·0

-- a value and its mark
pub record Entry : Type 0 where
  pub value : Float
  pub mark : ℕ

unfoldable pub entry_of : Answer → Entry
entry_of a = record { value = slot_of a; mark = mark_of a }

-- "Values are alike if marks and, for mark 0, numbers are equal." So the two zeros are.
unfoldable pub alike : Entry → Entry → Bool
alike a b = eqb a.mark b.mark && (not (eqb a.mark mark_value) || eq a.value b.value)

-- "A value zero is written 0.0, in the head and in the changes."
abbrev pub zero_as_plus : Float → Float
zero_as_plus x = cond (eq x 0·0) 0·0 x

-- an answer as a track writes it
unfoldable pub written_entry : Answer → Entry
written_entry a = record { value = zero_as_plus (slot_of a); mark = mark_of a }

-- ---- the track

pub record Change : Type 0 where
  pub time : Float
  pub value : Float
  pub mark : ℕ

-- "A head and changes (time, value, mark), ascending." `initial` is the head: what holds before the first change.
pub record Track : Type 0 where
  pub initial : Entry
  pub changes : List Change

abbrev pub change_times : List Change → List Float
change_times changes = map (λ (c : Change). c.time) changes

-- "Read held: the last change with time ≤ t, else the head."
unfoldable pub read_from : Entry → List Change → Float → Entry
read_from e [] t = e
read_from e (c ∷ rest) t = read_from (cond (le c.time t) (record { value = c.value; mark = c.mark }) e) rest t

unfoldable pub read_track : Track → Float → Entry
read_track track t = read_from track.initial track.changes t

-- ---- the track of a value

module _ (v : StageTime → Answer) where
  abbrev pub value_at : Float → Entry
  value_at t = entry_of (v (stage t))

  abbrev pub written_at : Float → Entry
  written_at t = written_entry (v (stage t))

  -- the value at t differs from that at the next lower double
  unfoldable pub differs : Float → Bool
  differs t = not (alike (value_at t) (value_at (next_lower t)))

  -- the change at t as it is written, "time zero as 0.0"
  unfoldable pub change_at : Float → Change
  change_at t = record { time = of_key (key t); value = (written_at t).value; mark = (written_at t).mark }

  -- a change lies where the value differs, and is written so. "The lowest finite double has no lower neighbour and no change".
  pub record IsChange (c : Change) : Type 0 where
    pub finitely : FiniteDouble c.time
    pub above : T (lt lowest c.time)
    pub changed : T (differs c.time)
    pub written : c ≡ change_at c.time

  -- It is the track of v: "there is one right track, to the bit"
  pub record TrackOf (track : Track) : Type 0 where
    -- "The head is the value at the lowest finite double."
    pub initial-is : track.initial ≡ written_at lowest
    pub ascends : T (ascending (change_times track.changes))
    -- "its changes lie at exactly the named doubles": each is one, and none is missing
    pub each : (c : Change) → Memᴰ c track.changes → IsChange c
    pub complete : (t : Float) → FiniteDouble t → T (lt lowest t) → T (differs t) → T (any (λ (c : Change). eq c.time t) track.changes)
    -- "a track gives a value if its reading is alike to it": at every finite double, -0.0 among them
    pub gives : (t : Float) → FiniteDouble t → T (alike (read_track track t) (value_at t))

-- ---- the bake's lists, and its number

-- the lent output lists of a bake
pub record Outputs : Type 0 where
  pub times : List Float
  pub values : List Float
  pub marks : List ℕ

-- "the shortest of the lent output lists"
unfoldable pub slots : Outputs → ℕ
slots o = min (length o.times) (min (length o.values) (length o.marks))

-- the lists after the changes are written: "slots past the count are untouched"
unfoldable pub write_track : Track → Outputs → Outputs
write_track track o = record {
  times = written_over (change_times track.changes) o.times;
  values = written_over (map (λ (c : Change). c.value) track.changes) o.values;
  marks = written_over (map (λ (c : Change). c.mark) track.changes) o.marks;
}

-- 20, then the samples' 1, 2 and 9, then 22, which "means precisely fewer slots than changes": `count` is the track's
unfoldable pub bake_number : Model → Samples → (room count : ℕ) → ℕ
bake_number no_set s room count = 20
bake_number (standing set) s room count = samples_number set s then 22 if ltb room count else 0
