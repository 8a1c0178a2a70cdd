-- A run: from a time in a segment of the knots on, the window's times above its lower neighbour are the inverse times of that segment's samples, up to one of them. Assumes nothing.
use Rattle.std.specs.Prelude.{◌≡◌, ◌⊎◌, true, List, ℕ, ◌+◌, ◌-◌, ◌<◌, T, length, get_or, Float}
use Rattle.std.specs.Float.{nan, inf}
use Rattle.std.specs.Float.Ieee.{lt, le}
use Rattle.laws.specs.list.Places.{Fits}
use Rattle.laws.specs.cell.Neighbours.{IsLower}
use Rattle.window.specs.Bounds.{In}
use Rattle.window.specs.Inverses.{on_segment}
use Rattle.window.specs.declared.search.Window.{Window}
use Rattle.window.specs.search.Latest.{segment_of}
use Rattle.window.specs.search.Windowed.{window_times, Nearing}
use Rattle.value.specs.ClipTimes.{OnSegment}

-- what is known where a run begins at t: its segment is that from the knot at i, the lower neighbour there is l, and h is the inverse time up to which it goes
pub record RunFrom (xs ys latest cs : List Float) (w : Window) (t : Float) (i : ℕ) (l h : Float) : Type 0 where
  pub nears : Nearing xs ys latest cs w t
  pub least : (w.min ≡ inf true) ⊎ (w.min ≡ w.start)
  pub most : Fits w.max
  pub here : OnSegment xs t i
  pub begun : T (le w.start t)
  pub lower : IsLower (window_times xs ys cs w) t l
  pub past : 0 < i → (i - 1 < length latest) × T (le (get_or latest (i - 1) nan) l)
  pub above : T (lt t h)
  pub listed : In h (on_segment cs (segment_of xs ys i))
  pub within : T (lt h w.max)
  pub upto : T (lt h (get_or xs (i + 1) nan))
