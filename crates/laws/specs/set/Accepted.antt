-- What the lent samples are where none of 1, 2 and 9 applies. Assumes nothing.
use Rattle.std.specs.Prelude.{◌≡◌, ℕ, ◌-◌, ◌≤◌, ◌<◌, false, length, get_or, Float}
use Rattle.std.specs.Float.Ieee.{is_nan}
use Rattle.definitions.specs.ClipSet.{ClipSet, max_samples, mark_value, mark_block}
use Rattle.definitions.specs.Samples.{Samples, clip_begin, clip_end, clip_times}
use Rattle.laws.specs.list.Every.{Every, Chain}
use Rattle.laws.specs.set.Stored.{Stored, Lt}

-- ---- the record

pub record Accepted (set : ClipSet) (s : Samples) : Type 0 where
  pub few : length s.times ≤ max_samples
  pub values : length s.values ≡ length s.times
  pub marks : length s.marks ≡ length s.times
  pub ends : length s.ends ≡ set.clips
  pub stored : Every Stored s.times
  pub marked : Every (λ (m : ℕ). m ≤ mark_block) s.marks
  pub number : (i : ℕ) (d : Float) (m : ℕ) → i < length s.times → get_or s.marks i m ≡ mark_value → is_nan (get_or s.values i d) ≡ false
  pub from : (i : ℕ) → i < set.clips → clip_begin s.ends i ≤ clip_end s.ends i
  pub inside : (i : ℕ) → i < set.clips → clip_end s.ends i ≤ length s.times
  pub strictly : (i : ℕ) → i < set.clips → Chain Lt (clip_times s i)
