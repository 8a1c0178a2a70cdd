-- The value as a function of the key. Assumes nothing.
use Rattle.std.specs.Prelude.{ℕ, ◌≤◌}
use Rattle.gf.specs.Doubles.{of_key, least, most}
use Rattle.definitions.specs.ClipSet.{ClipSet, stage}
use Rattle.definitions.specs.Samples.{Samples}
use Rattle.definitions.specs.Value.{value_in_set}
use Rattle.definitions.specs.Track.{Entry, written_entry}

-- ---- by the key

-- as a track writes it
abbrev pub entry_at_key : ClipSet → Samples → ℕ → Entry
entry_at_key set s k = written_entry (value_in_set set s (stage (of_key k)))

-- keys of finite doubles, from lo to hi
pub record Keys (lo hi : ℕ) : Type 0 where
  pub low : least ≤ lo
  pub order : lo ≤ hi
  pub high : hi ≤ most
