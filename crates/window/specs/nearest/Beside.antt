-- The neighbours with the time at a place of a list, and a time that lies in its interval. Assumes nothing.
use Rattle.std.specs.Prelude.{cond, List, ℕ, ◌≤◌, ◌<◌, ltb, length, get_or, Float}
use Rattle.std.specs.Float.{nan}
use Rattle.gf.specs.Doubles.{key}
use Rattle.gf.specs.declared.interval.Interval.{Interval}
use Rattle.laws.specs.list.Places.{Number}
use Rattle.window.specs.declared.Neighbours.{Neighbours}
use Rattle.window.specs.nearest.Nearest.{with_inside}

unfoldable pub with_place : Interval → Float → List Float → Neighbours → ℕ → Neighbours
with_place w t xs h i = cond (ltb i (length xs)) (with_inside w t h (get_or xs i nan)) h

-- ---- a time inside its window

pub record TimeInside (w : Interval) (t : Float) : Type 0 where
  pub time : Number t
  pub min : Number w.min
  pub max : Number w.max
  pub from : key w.min ≤ key t
  pub upto : key t < key w.max
