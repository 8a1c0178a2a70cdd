-- A clip's part of the lent times, and what a reading asks of the lent lists. Assumes nothing.
use Rattle.std.specs.Prelude.{◌≡◌, List, ℕ, ◌-◌, ◌≤◌, ◌<◌, length, take, drop, Float}
use Rattle.definitions.specs.Lists.{pairs}
use Rattle.definitions.specs.Samples.{clip_begin, clip_end}
use Rattle.laws.specs.list.Every.{Every}
use Rattle.laws.specs.list.Places.{Ascending}
use Rattle.laws.specs.cell.Lent.{knots_of}
use Rattle.window.specs.SoundSegments.{SoundSegment}

-- ---- a clip's part of the lent times

abbrev pub part_of : List Float → List ℕ → ℕ → List Float
part_of times ends c = take (clip_end ends c - clip_begin ends c) (drop (clip_begin ends c) times)

-- knots and clips in which a held reading finds its place
pub record Readable (xs ys times : List Float) (ends : List ℕ) : Type 0 where
  pub knots : Ascending xs
  pub paired : length xs ≡ length ys
  pub segments : Every SoundSegment (pairs (knots_of xs ys))
  pub from : (c : ℕ) → c < length ends → clip_begin ends c ≤ clip_end ends c
  pub inside : (c : ℕ) → c < length ends → clip_end ends c ≤ length times
  pub rising : (c : ℕ) → c < length ends → Ascending (part_of times ends c)
