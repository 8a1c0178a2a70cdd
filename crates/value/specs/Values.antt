-- The value by the neighbours that a program found. Assumes nothing.
use Rattle.std.specs.Prelude.{◌≡◌, cond, List, length, Float, Option, None, Some}
use Rattle.definitions.specs.declared.Source.{Source}
use Rattle.laws.specs.list.Places.{Ascending}
use Rattle.window.specs.declared.Neighbours.{Neighbours}
use Rattle.window.specs.Bounds.{NeighboursAre}
use Rattle.window.specs.declared.search.Window.{Window}
use Rattle.window.specs.search.Latest.{LatestOf}
use Rattle.window.specs.search.Windowed.{samples_in, window_times, window_source, Lent, Nearing}
use Rattle.value.specs.Jumps.{jump_in}

-- ---- the value in a window

-- the time whose direct value is the value at t, by its neighbours
abbrev pub held_at : List Float → Float → Option Float → Option Float → Float
held_at xs t None upper = t
held_at xs t (Some l) None = t
held_at xs t (Some l) (Some h) = cond (jump_in xs l h) t l

-- what a search in the window asks
pub record Valued (xs ys times : List Float) (w : Window) (t : Float) : Type 0 where
  pub knots : Ascending xs
  pub paired : length xs ≡ length ys
  pub lent : Lent times w
  pub nears : (latest : List Float) → LatestOf xs ys latest → Nearing xs ys latest (samples_in times w) w t

-- r is read at the time that the neighbours tell
pub record ValueIn (xs ys times : List Float) (w : Window) (t : Float) (r : Source) : Type 0 where
  pub bounds : Neighbours
  pub near : NeighboursAre (window_times xs ys (samples_in times w) w) t bounds
  pub reads : r ≡ window_source xs ys times w (held_at xs t bounds.lower bounds.upper)
