-- The steps of a walk, each by what it reads: of a window, and of the lists of its clip. Assumes nothing.
use Rattle.std.specs.Prelude.{◌≡◌, not, List, ℕ, ◌+◌, ◌-◌, ◌≤◌, ◌<◌, min, T, length, Float, Option}
use Rattle.std.specs.Float.Ieee.{is_nan}
use Rattle.gf.specs.Doubles.{key, of_key}
use Rattle.definitions.specs.declared.Missing.{Missing}
use Rattle.definitions.specs.Doubles.{FiniteDouble}
use Rattle.definitions.specs.Samples.{clip_begin, clip_end}
use Rattle.definitions.specs.Track.{written_entry}
use Rattle.laws.specs.list.Places.{Ascending}
use Rattle.laws.specs.cell.Keys.{Keys}
use Rattle.lists.specs.Segments.{segment_at}
use Rattle.window.specs.declared.search.Window.{Window}
use Rattle.window.specs.search.Latest.{segment_of}
use Rattle.value.specs.Answers.{answer_in, Answerable}
use Rattle.cell.specs.declared.Cell.{Cell}
use Rattle.cell.specs.declared.Cell.TheVariants.{Constant, Reading}
use Rattle.cell.specs.declared.place.WindowPlace.{WindowPlace}
use Rattle.cell.specs.step.Entries.{entry_is}
use Rattle.cell.specs.CellAndEnd.{CellAsks, CellIn}
use Rattle.cell.specs.EndKeys.{Numbered, end_key}
use Rattle.run.specs.Readings.{Reads, reading_at}
use Rattle.run.specs.Runs.{line_on}
use Rattle.track.specs.declared.span.ReadBy.TheVariants.{ByCell, ByRun}
use Rattle.track.specs.declared.span.Step.{Step}
use Rattle.track.specs.span.Runs.{part, read_on}

-- ---- in a cell

-- a clip's part that can be read
pub record ReadPart (times : List Float) (ends : List ℕ) (c : ℕ) : Type 0 where
  pub clip : c < length ends
  pub from : clip_begin ends c ≤ clip_end ends c
  pub inside : clip_end ends c ≤ length times
  pub rising : Ascending (part times ends c)

abbrev pub Readable : List Float → List ℕ → Cell → Type 0
Readable times ends (Constant r) = Unit {0}
Readable times ends (Reading c line) = ReadPart times ends c

-- the cell can be read at the key k, what it reads lies in the lists, and its end e is above k
pub record ReadsAt (times values : List Float) (marks ends : List ℕ) (cell : Cell) (e : Option Float) (k : ℕ) : Type 0 where
  pub point : Keys k k
  pub read : Readable times ends cell
  pub said : Answerable (length values) ends (read_on times ends cell k)
  pub flagged : length marks ≡ length values
  pub number : Numbered e
  pub later : k < end_key e

-- the step from k on in the cell, up to top or to the key before its end e; the place of the walk stays in its window
pub record CellStep (m : Missing) (times values : List Float) (marks ends : List ℕ) (cell : Cell) (e : Option Float) (at : WindowPlace) (k top : ℕ) (r : Step) : Type 0 where
  pub way : r.span.way ≡ ByCell cell
  pub here : entry_is r.span.here ≡ written_entry (answer_in m values marks ends (read_on times ends cell k))
  pub upto : r.span.hi ≡ min top (end_key e - 1)
  pub start : r.place.start ≡ at.start
  pub window : r.place.window ≡ at.window

-- ---- in the cell that is found

-- what the search asks, and that each cell that it may find can be read
pub record CellStepAsks (starts xs ys times values latest : List Float) (marks ends : List ℕ) (w : Window) (k : ℕ) : Type 0 where
  pub point : Keys k k
  pub search : CellAsks starts xs ys times latest w (of_key k)
  pub reads : (c : Cell) (e : Option Float) → CellIn starts xs ys times w (of_key k) c e → ReadsAt times values marks ends c e k

pub record FoundStep (starts xs ys : List Float) (m : Missing) (times values : List Float) (marks ends : List ℕ) (at : WindowPlace) (k top : ℕ) (r : Step) : Type 0 where
  pub cell : Cell
  pub end : Option Float
  pub found : CellIn starts xs ys times at.window (of_key k) cell end
  pub step : CellStep m times values marks ends cell end at k top r

-- ---- past a run of samples

-- the segment from the knot at i on and the part of the clip c can be read; the run has a floor l and an end h
pub record RunAsks (xs ys times values : List Float) (marks ends : List ℕ) (c i : ℕ) (l h : Float) : Type 0 where
  pub paired : length xs ≡ length ys
  pub place : i + 1 < length xs
  pub clip : c < length ends
  pub from : clip_begin ends c ≤ clip_end ends c
  pub inside : clip_end ends c ≤ length times
  pub valued : length values ≡ length times
  pub flagged : length marks ≡ length times
  pub reads : Reads (part times ends c) (part values ends c) (part marks ends c)
  pub ground : FiniteDouble l
  pub number : T (not (is_nan h))
  pub later : 0 < key h

-- the step past the samples of that segment, from the one of the floor on, up to top or to the key before h
pub record RunStep (xs ys times values : List Float) (marks ends : List ℕ) (at : WindowPlace) (i : ℕ) (l h : Float) (n top : ℕ) (r : Step) : Type 0 where
  pub way : r.span.way ≡ ByRun at.window.clip l (segment_at xs ys i) n
  pub here : entry_is r.span.here ≡ reading_at (part times ends at.window.clip) (part values ends at.window.clip) (part marks ends at.window.clip) (line_on (segment_of xs ys i)) (key l)
  pub upto : r.span.hi ≡ min top (key h - 1)
  pub start : r.place.start ≡ at.start
  pub window : r.place.window ≡ at.window
