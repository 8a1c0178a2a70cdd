-- The changes of the value. Assumes nothing.
use Rattle.std.specs.Prelude.{List, ℕ}
use Rattle.definitions.specs.ClipSet.{ClipSet}
use Rattle.definitions.specs.Samples.{Samples}
use Rattle.definitions.specs.Track.{Entry}
use Rattle.laws.specs.track.Track as steps
use Rattle.laws.specs.cell.Keys.{entry_at_key}
use Rattle.laws.specs.cell.Tracks.{entry-same}

-- the changes of the value above low and up to top, by their keys
abbrev pub changes_of : ClipSet → Samples → ℕ → ℕ → List (steps.Change Entry)
changes_of set s low top = steps.changes_to entry-same (entry_at_key set s) low top
