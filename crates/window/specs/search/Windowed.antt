-- A window as it is handed on: its times, and what is read in it. Assumes nothing.
use Rattle.std.specs.Prelude.{◌≡◌, false, cond, List, [], ◌∷◌, ◌++◌, ◌-◌, ◌≤◌, T, ltb, length, take, drop, Float}
use Rattle.std.specs.Float.{inf}
use Rattle.std.specs.Float.Ieee.{lt, le}
use Rattle.gf.specs.declared.interval.Interval.{Interval}
use Rattle.definitions.specs.declared.Source.{Source}
use Rattle.definitions.specs.declared.Source.TheVariants.{Sample as sample}
use Rattle.definitions.specs.Lists.{keep, pairs}
use Rattle.definitions.specs.Doubles.{FiniteDouble}
use Rattle.definitions.specs.Timing.{last_at_most, map_time}
use Rattle.laws.specs.list.Every.{Every}
use Rattle.laws.specs.list.Places.{Ascending}
use Rattle.laws.specs.cell.Lent.{knots_of}
use Rattle.window.specs.declared.Neighbours.{Neighbours}
use Rattle.window.specs.Bounds.{inside}
use Rattle.window.specs.Inverses.{inverses_of}
use Rattle.window.specs.SoundSegments.{SoundSegment}
use Rattle.window.specs.declared.search.Window.{Window}
use Rattle.window.specs.declared.search.NeighboursAndHints.{NeighboursAndHints}
use Rattle.window.specs.search.Latest.{LatestOf}

-- ---- the window's times

abbrev pub interval_of : Window → Interval
interval_of w = record { min = w.min; max = w.max }

abbrev pub bounds_of : NeighboursAndHints → Neighbours
bounds_of n = record { lower = n.lower; upper = n.upper }

-- the clip's samples: those from `begin` to `end`
abbrev pub samples_in : List Float → Window → List Float
samples_in times w = take (w.end - w.begin) (drop w.begin times)

-- the last window has no next start
abbrev pub next_of : Window → List Float
next_of w = cond (lt w.max (inf false)) (w.max ∷ []) []

abbrev pub starts_of : Window → List Float
starts_of w = w.start ∷ next_of w

-- "gather the window's times", from the samples cs
unfoldable pub window_times : List Float → List Float → List Float → Window → List Float
window_times xs ys cs w = w.start ∷ ((keep (inside (interval_of w)) xs ++ keep (inside (interval_of w)) (inverses_of (knots_of xs ys) cs)) ++ next_of w)

-- what is read directly at a time of the window
unfoldable pub window_source : List Float → List Float → List Float → Window → Float → Source
window_source xs ys times w t = cond (ltb w.begin w.end) (sample w.clip (last_at_most (samples_in times w) (map_time (knots_of xs ys) t))) w.gap

-- the samples that a reading asks for
pub record Lent (times : List Float) (w : Window) : Type 0 where
  pub order : w.begin ≤ w.end
  pub upto : w.end ≤ length times
  pub rising : Ascending (samples_in times w)

-- ---- a search among them

-- what it asks
pub record Nearing (xs ys latest cs : List Float) (w : Window) (t : Float) : Type 0 where
  pub knots : Ascending xs
  pub paired : length xs ≡ length ys
  pub segments : Every SoundSegment (pairs (knots_of xs ys))
  pub reach : LatestOf xs ys latest
  pub samples : Ascending cs
  pub time : FiniteDouble t
  pub start : FiniteDouble w.start
  pub from : T (le w.min t)
  pub upto : T (lt t w.max)
