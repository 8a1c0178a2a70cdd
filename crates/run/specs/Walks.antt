-- A walk over the keys that writes the changes of a step function of entries while there are slots: what it has written, and where it stands. Assumes nothing.
use Rattle.std.specs.Prelude.{◌≡◌, true, false, cond, List, [], ◌∷◌, ◌++◌, map, ℕ, ◌+◌, ◌≤◌, ◌<◌, length, take, drop}
use Rattle.definitions.specs.Track.{Entry, Change, change_times, alike, Outputs}
use Rattle.laws.specs.track.Track as steps
use Rattle.laws.specs.cell.Tracks.{entry-same, written_change}
use Rattle.cell.specs.step.Entries.{entry_is}
use Rattle.run.specs.declared.walk.Went.{Went}

-- a list to which new is written from slot n on
abbrev pub written_from : {A : Type 0} → ℕ → List A → List A → List A
written_from n new old = (take n old ++ new) ++ drop (n + length new) old

-- the outputs to which the changes are written from slot n on
abbrev pub written : ℕ → List (steps.Change Entry) → Outputs → Outputs
written n cs o = record {
  times = written_from n (change_times (map written_change cs)) o.times;
  values = written_from n (map (λ (c : Change). c.value) (map written_change cs)) o.values;
  marks = written_from n (map (λ (c : Change). c.mark) (map written_change cs)) o.marks;
}

-- the slots from n up to room are there
pub record Room (room n : ℕ) (o : Outputs) : Type 0 where
  pub from : n ≤ room
  pub times : room ≤ length o.times
  pub values : room ≤ length o.values
  pub marks : room ≤ length o.marks

-- ---- one change

-- the change at the key k, if there is one: before it the value is last, there it is here
abbrev pub change_from : Entry → Entry → ℕ → List (steps.Change Entry)
change_from last here k = cond (alike here last) [] (record { key = k; value = here } ∷ [])

-- it is written to slot n, if there is room; r is the slot behind it
pub record Offered (last here : Entry) (k room n : ℕ) (before after : Outputs) (r : ℕ) : Type 0 where
  pub count : r ≡ n + length (change_from last here k)
  pub writes : r ≤ room → after ≡ written n (change_from last here k) before
  pub leaves : room < r → after ≡ before

-- ---- a walk

-- the changes of v above lo and up to hi
abbrev pub changes_in : (ℕ → Entry) → ℕ → ℕ → List (steps.Change Entry)
changes_in v lo hi = steps.changes_to entry-same v lo hi

-- the changes of v above k and up to the key at stand from slot n on, r is the slot behind them, and e is the entry at that key
pub record Stands (v : ℕ → Entry) (k room n : ℕ) (before after : Outputs) (at : ℕ) (e : Entry) (r : ℕ) : Type 0 where
  pub from : k ≤ at
  pub last : e ≡ v at
  pub count : r ≡ n + length (changes_in v k at)
  pub fits : r ≤ room
  pub writes : after ≡ written n (changes_in v k at) before

-- a walk from k to hi: it came to hi, or the slots are full and there is a further change
pub record Walked (v : ℕ → Entry) (k hi room n : ℕ) (before after : Outputs) (w : Went) : Type 0 where
  pub stands : Stands v k room n before after w.key (entry_is w.last) w.count
  pub upto : w.key ≤ hi
  pub whole : w.done ≡ true → w.key ≡ hi
  pub more : w.done ≡ false → (w.count ≡ room) × (0 < length (changes_in v w.key hi))
