-- docs/VALUE-CLIPS.md, "Track": one that is lent as a head and three lists, and its reading by halves. Assumes nothing.
use Rattle.std.specs.Prelude.{ℕ, zero, suc, ◌+◌, ◌-◌, ◌/◌, ◌≡◌, Bool, cond, List, [], ◌∷◌, T, ltb, length, get_or, Float}
use Rattle.std.specs.Float.{nan, binary64}
use Rattle.std.specs.Float.Ieee.{fits, le}
use Rattle.definitions.specs.Lists.{all, zip_with, count_from}
use Rattle.definitions.specs.Doubles.{ascending}
use Rattle.definitions.specs.Track.{Entry, Change, Track, change_times, read_track}

-- ---- as it is lent: of lists of unlike length the front of each, as long as the shortest

abbrev pub entry : Float → ℕ → Entry
entry value mark = record { value = value; mark = mark }

abbrev pub change : Float → Entry → Change
change time e = record { time = time; value = e.value; mark = e.mark }

abbrev pub changes_of_lists : List Float → List Float → List ℕ → List Change
changes_of_lists times values marks = zip_with change times (zip_with entry values marks)

abbrev pub track_of_lists : Float → ℕ → List Float → List Float → List ℕ → Track
track_of_lists value mark times values marks = record { initial = entry value mark; changes = changes_of_lists times values marks }

-- ---- by halves, whatever the lists hold

-- The search among the n places from `at` on for how many pass: the place in the middle says in which half to go on, and the last sixteen or fewer are counted.
-- n steps suffice.
unfoldable pub by_halves : (ℕ → Bool) → (steps at n : ℕ) → ℕ
by_halves test zero at n = at + count_from test at n
by_halves test (suc steps) at n =
    let half = n / 2 in
    cond (ltb 16 n) (by_halves test steps (cond (test (at + half)) (at + half) at) (n - half)) (at + count_from test at n)

-- Rust's `partition_point`: so many of the times are found to be at most t
unfoldable pub partition_point : List Float → Float → ℕ
partition_point times t = by_halves (λ (i : ℕ). le (get_or times i nan) t) (length times) 0 (length times)

-- what holds after the first n changes, and e after none
unfoldable pub held_after : ℕ → Entry → List Change → Entry
held_after zero e changes = e
held_after (suc n) e [] = e
held_after (suc n) e (c ∷ rest) = held_after n (entry c.value c.mark) rest

unfoldable pub read_by_halves : Track → Float → Entry
read_by_halves track t = held_after (partition_point (change_times track.changes) t) track.initial track.changes

-- Where the times ascend, as in every track that is baked, it is the held reading: "the last change with time ≤ t, else the head". (`fits`: doubles, as a program holds them.)
abbrev pub ReadsHeld : Type 0
ReadsHeld = (track : Track) (t : Float) → T (all (fits binary64) (t ∷ change_times track.changes)) → T (ascending (change_times track.changes)) → read_by_halves track t ≡ read_track track t
