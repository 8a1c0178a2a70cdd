-- A cell as the program holds it, and what the functions promise of one: by the window that it lies in. Assumes nothing.
use Rattle.std.specs.Prelude.{◌≡◌, cond, List, ◌<◌, eqb, ltb, length, Float, Option, None, Some}
use Rattle.definitions.specs.declared.Source.TheVariants.{Absent}
use Rattle.definitions.specs.Doubles.{FiniteDouble}
use Rattle.laws.specs.list.Places.{Ascending}
use Rattle.laws.specs.cell.Knots.{line_of}
use Rattle.laws.specs.cell.Cells as Cells
use Rattle.laws.specs.cell.Lent.{knots_of}
use Rattle.window.specs.declared.Neighbours.{Neighbours}
use Rattle.window.specs.Bounds.{UpperIs, NeighboursAre}
use Rattle.window.specs.declared.search.Window.{Window}
use Rattle.window.specs.search.Windowed.{samples_in, window_times, window_source, Lent, Nearing}
use Rattle.value.specs.Jumps.{jump_in}
use Rattle.cell.specs.step.Lines.{line_is}
use Rattle.cell.specs.declared.Cell.{Cell}
use Rattle.cell.specs.declared.Cell.TheVariants.{Constant, Reading}

abbrev pub cell_is : Cell → Cells.Cell
cell_is (Constant r) = Cells.constant r
cell_is (Reading c line) = Cells.reading c (line_is line)

-- the time whose direct value is held between two neighbours, or none: the value is direct
abbrev pub held_of : List Float → Option Float → Option Float → Option Float
held_of xs None upper = None
held_of xs (Some lower) None = None
held_of xs (Some lower) (Some upper) = cond (jump_in xs lower upper) None (Some lower)

-- ---- by the window

-- the cell of the direct reading at t: the clip's samples along the knots' line, or what stands in for them; nothing without starts
abbrev pub direct_in : List Float → List Float → List Float → Window → Float → Cells.Cell
direct_in starts xs ys w t =
    cond (eqb (length starts) 0) (Cells.constant Absent) (cond (ltb w.begin w.end) (Cells.reading w.clip (line_of (knots_of xs ys) t)) (Cells.constant w.gap))

-- the cell of t by the time that is held, if any
abbrev pub cell_by : List Float → List Float → List Float → List Float → Window → Float → Option Float → Cells.Cell
cell_by starts xs ys times w t None = direct_in starts xs ys w t
cell_by starts xs ys times w t (Some lower) = Cells.constant (window_source xs ys times w lower)

-- what the search for the cell of t asks: with several starts, the window of t
pub record CellAsks (starts xs ys times latest : List Float) (w : Window) (t : Float) : Type 0 where
  pub knots : Ascending xs
  pub paired : length xs ≡ length ys
  pub time : FiniteDouble t
  pub lent : 1 < length starts → Lent times w
  pub nears : 1 < length starts → Nearing xs ys latest (samples_in times w) w t

-- with one start: direct, up to the next knot
pub record DirectCell (starts xs ys : List Float) (w : Window) (t : Float) (c : Cell) (e : Option Float) : Type 0 where
  pub is : cell_is c ≡ direct_in starts xs ys w t
  pub ends : UpperIs xs t e

-- with several: by the neighbours among the window's times, up to the upper one
pub record CellBetween (starts xs ys times : List Float) (w : Window) (t : Float) (c : Cell) (e : Option Float) : Type 0 where
  pub bounds : Neighbours
  pub near : NeighboursAre (window_times xs ys (samples_in times w) w) t bounds
  pub is : cell_is c ≡ cell_by starts xs ys times w t (held_of xs bounds.lower bounds.upper)
  pub ends : e ≡ bounds.upper

-- the cell of t, and its end
pub record CellIn (starts xs ys times : List Float) (w : Window) (t : Float) (c : Cell) (e : Option Float) : Type 0 where
  pub few : length starts < 2 → DirectCell starts xs ys w t c e
  pub many : 1 < length starts → CellBetween starts xs ys times w t c e
