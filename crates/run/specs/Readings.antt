-- A clip's samples that are read held along a line: the entry at each key. Assumes nothing.
use Rattle.std.specs.Prelude.{◌≡◌, false, ◌⊎◌, List, ℕ, ◌<◌, length, get_or, Float}
use Rattle.std.specs.Float.Ieee.{is_nan}
use Rattle.gf.specs.Doubles.{0·0}
use Rattle.definitions.specs.ClipSet.{mark_value}
use Rattle.definitions.specs.Value.{marked}
use Rattle.definitions.specs.Track.{Entry, written_entry}
use Rattle.laws.specs.list.Every.{Every}
use Rattle.laws.specs.list.Places.{Fits, Ascending}
use Rattle.laws.specs.track.Steps.{Grows, Falls}
use Rattle.cell.specs.declared.step.line.Line.{Line}
use Rattle.cell.specs.step.Lines.{place_on}

-- ---- what is read

-- a clip's samples: ascending times, as many values and marks, at least one, and no NaN under the mark of a value
pub record Reads (ts vs : List Float) (ms : List ℕ) : Type 0 where
  pub ascending : Ascending ts
  pub values : length vs ≡ length ts
  pub marks : length ms ≡ length ts
  pub some : 0 < length ts
  pub numbers : Every Fits vs
  pub number : (i : ℕ) → i < length ts → get_or ms i 0 ≡ mark_value → is_nan (get_or vs i 0·0) ≡ false

-- the sample at a place, as a track writes it
abbrev pub entry_at : List Float → List ℕ → ℕ → Entry
entry_at vs ms p = written_entry (marked (get_or ms p 0) (get_or vs p 0·0))

-- the entry that is read at the key k
abbrev pub reading_at : List Float → List Float → List ℕ → Line → ℕ → Entry
reading_at ts vs ms line k = entry_at vs ms (place_on ts line k)

-- f grows or falls on the keys from lo to hi
abbrev pub LeftOnce : (ℕ → ℕ) → ℕ → ℕ → Type 0
LeftOnce f lo hi = Grows f lo hi ⊎ Falls f lo hi
