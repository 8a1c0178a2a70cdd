-- A span of keys in one cell or in a run of samples: what is said there, and what the search for it promises. Assumes nothing.
use Rattle.std.specs.Prelude.{◌≡◌, List, ℕ, ◌-◌, ◌≤◌, ◌<◌, length, take, drop, Float}
use Rattle.definitions.specs.declared.Missing.{Missing}
use Rattle.definitions.specs.declared.Source.{Source}
use Rattle.definitions.specs.declared.Source.TheVariants.{Sample}
use Rattle.definitions.specs.declared.Knot.{Knot}
use Rattle.definitions.specs.ClipSet.{ClipSet}
use Rattle.definitions.specs.Samples.{Samples, clip_begin, clip_end}
use Rattle.definitions.specs.Track.{Entry}
use Rattle.laws.specs.track.Steps.{Agree}
use Rattle.laws.specs.cell.Keys.{Keys, entry_at_key}
use Rattle.laws.specs.cell.Lent.{set_of, samples_of}
use Rattle.cell.specs.declared.step.line.Line.{Line}
use Rattle.cell.specs.step.Lines.{place_on}
use Rattle.cell.specs.step.Entries.{entry_is}
use Rattle.run.specs.Readings.{LeftOnce, Reads, reading_at}
use Rattle.run.specs.Runs.{passing_at, Passing}
use Rattle.cell.specs.declared.Cell.{Cell}
use Rattle.cell.specs.declared.Cell.TheVariants.{Constant, Reading}
use Rattle.cell.specs.WindowPlaces.{PlaceIs}
use Rattle.track.specs.declared.span.ReadBy.{ReadBy}
use Rattle.track.specs.declared.span.ReadBy.TheVariants.{ByCell, ByRun}
use Rattle.track.specs.declared.span.Span.{Span}
use Rattle.track.specs.declared.span.Step.{Step}

-- a clip's part of a lent list
abbrev pub part : {A : Type 0} → List A → List ℕ → ℕ → List A
part l ends c = take (clip_end ends c - clip_begin ends c) (drop (clip_begin ends c) l)

-- the clip's part can be read along the line from k to hi
pub record Run (times values : List Float) (marks ends : List ℕ) (c : ℕ) (line : Line) (k hi : ℕ) : Type 0 where
  pub clip : c < length ends
  pub from : clip_begin ends c ≤ clip_end ends c
  pub inside : clip_end ends c ≤ length times
  pub valued : length values ≡ length times
  pub flagged : length marks ≡ length times
  pub reads : Reads (part times ends c) (part values ends c) (part marks ends c)
  pub turns : LeftOnce (place_on (part times ends c) line) k hi

abbrev pub Runs : List Float → List Float → List ℕ → List ℕ → Cell → ℕ → ℕ → Type 0
Runs times values marks ends (Constant r) k hi = Unit {0}
Runs times values marks ends (Reading c line) k hi = Run times values marks ends c line k hi

-- what the cell reads at the key k
abbrev pub read_on : List Float → List ℕ → Cell → ℕ → Source
read_on times ends (Constant r) k = r
read_on times ends (Reading c line) k = Sample c (place_on (part times ends c) line k)

-- what the cell says at the key j: everywhere what it says at its beginning, or what the clip's samples say along the line
abbrev pub entry_on : List Float → List Float → List ℕ → List ℕ → Cell → Entry → ℕ → Entry
entry_on times values marks ends (Constant r) here j = here
entry_on times values marks ends (Reading c line) here j = reading_at (part times ends c) (part values ends c) (part marks ends c) line j

-- ---- with a run of samples

-- the clip's part can be passed in the segment of q from k to hi, where e is read at k
pub record PastRun (times values : List Float) (marks ends : List ℕ) (c : ℕ) (q : Knot × Knot) (floor : Float) (e : Entry) (k hi : ℕ) : Type 0 where
  pub clip : c < length ends
  pub from : clip_begin ends c ≤ clip_end ends c
  pub inside : clip_end ends c ≤ length times
  pub valued : length values ≡ length times
  pub flagged : length marks ≡ length times
  pub passing : Passing (part times ends c) (part values ends c) (part marks ends c) q floor e k hi

abbrev pub SpanIs : List Float → List Float → List ℕ → List ℕ → ReadBy → Entry → ℕ → ℕ → Type 0
SpanIs times values marks ends (ByCell c) here k hi = Runs times values marks ends c k hi
SpanIs times values marks ends (ByRun c floor g n) here k hi = PastRun times values marks ends c (g.a, g.b) floor here k hi

-- what is said at the key j: what the cell says, or what the sample says whose inverse time was passed last
abbrev pub entry_by : List Float → List Float → List ℕ → List ℕ → ReadBy → Entry → ℕ → Entry
entry_by times values marks ends (ByCell c) here j = entry_on times values marks ends c here j
entry_by times values marks ends (ByRun c floor g n) here j = passing_at (part times ends c) (part values ends c) (part marks ends c) (g.a, g.b) floor j

-- the span from k on, up to top: the value there is what its way says
pub record StretchIs (set : ClipSet) (s : Samples) (k top : ℕ) (r : Span) : Type 0 where
  pub keys : Keys k r.hi
  pub within : r.hi ≤ top
  pub here : entry_is r.here ≡ entry_at_key set s k
  pub runs : SpanIs s.times s.values s.marks s.ends r.way (entry_is r.here) k r.hi
  pub says : Agree k r.hi (entry_at_key set s) (entry_by s.times s.values s.marks s.ends r.way (entry_is r.here))

-- the span, and the place of the walk
pub record StepIs (starts : List Float) (clips : List ℕ) (xs ys blocks : List Float) (m : Missing) (times values : List Float) (marks ends : List ℕ) (k top : ℕ) (r : Step) : Type 0 where
  pub span : StretchIs (set_of (length ends) starts clips xs ys blocks m) (samples_of times values marks ends) k top r.span
  pub place : PlaceIs starts clips xs ys blocks m times values marks ends r.place.start r.place.window
