-- The walk over the changes of the value that stops when its outputs are full: where it stands, and what it promises. Assumes nothing.
use Rattle.std.specs.Prelude.{◌≡◌, true, false, List, ◌++◌, ℕ, ◌≤◌, ◌<◌, length, take, drop, Float}
use Rattle.definitions.specs.declared.Missing.{Missing}
use Rattle.definitions.specs.Track.{Outputs, slots}
use Rattle.laws.specs.cell.Keys.{Keys, entry_at_key}
use Rattle.laws.specs.cell.Lent.{set_of, samples_of}
use Rattle.cell.specs.step.Entries.{entry_is}
use Rattle.run.specs.Walks.{written}
use Rattle.cell.specs.WindowPlaces.{PlaceIs}
use Rattle.track.specs.span.Changes.{changes_of}
use Rattle.track.specs.declared.fill.Cursor.{Cursor}
use Rattle.track.specs.declared.fill.Filled.{Filled}

-- a cursor on the way to top: the value at its key is its entry
pub record CursorIs (starts : List Float) (clips : List ℕ) (xs ys blocks : List Float) (m : Missing) (times values : List Float) (marks ends : List ℕ) (top : ℕ) (c : Cursor) : Type 0 where
  pub keys : Keys c.key top
  pub last : entry_is c.last ≡ entry_at_key (set_of (length ends) starts clips xs ys blocks m) (samples_of times values marks ends) c.key
  pub place : PlaceIs starts clips xs ys blocks m times values marks ends c.place.start c.place.window

-- a walk from a key on has passed the changes up to its cursor, so many in number: it came to top, or there are further ones up to there
pub record PassedTo (starts : List Float) (clips : List ℕ) (xs ys blocks : List Float) (m : Missing) (times values : List Float) (marks ends : List ℕ) (from top : ℕ) (r : Filled) : Type 0 where
  pub order : from ≤ r.cursor.key
  pub cursor : CursorIs starts clips xs ys blocks m times values marks ends top r.cursor
  pub count : r.count ≡ length (changes_of (set_of (length ends) starts clips xs ys blocks m) (samples_of times values marks ends) from r.cursor.key)
  pub whole : r.done ≡ true → r.cursor.key ≡ top
  pub more : r.done ≡ false → 0 < length (changes_of (set_of (length ends) starts clips xs ys blocks m) (samples_of times values marks ends) r.cursor.key top)

-- What a fill promises: these changes stand in the outputs' first slots, the other slots are as they were, and if it is not done the outputs are full
pub record FillIs (starts : List Float) (clips : List ℕ) (xs ys blocks : List Float) (m : Missing) (times values : List Float) (marks ends : List ℕ) (from top : ℕ) (before after : Outputs) (r : Filled) : Type 0 where
  pub passed : PassedTo starts clips xs ys blocks m times values marks ends from top r
  pub writes : after ≡ written 0 (changes_of (set_of (length ends) starts clips xs ys blocks m) (samples_of times values marks ends) from r.cursor.key) before
  pub fits : r.count ≤ slots before
  pub full : r.done ≡ false → r.count ≡ slots before

-- of a page that is dropped
pub record PageIs (starts : List Float) (clips : List ℕ) (xs ys blocks : List Float) (m : Missing) (times values : List Float) (marks ends : List ℕ) (from top : ℕ) (r : Filled) : Type 0 where
  pub passed : PassedTo starts clips xs ys blocks m times values marks ends from top r
  pub onward : r.done ≡ false → from < r.cursor.key

-- the outputs whose first n slots are those of a page
abbrev pub copied : ℕ → Outputs → Outputs → Outputs
copied n page o = record {
  times = take n page.times ++ drop n o.times;
  values = take n page.values ++ drop n o.values;
  marks = take n page.marks ++ drop n o.marks;
}
