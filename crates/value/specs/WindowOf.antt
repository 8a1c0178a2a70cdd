-- The window of a start, as a program holds it. Assumes nothing.
use Rattle.std.specs.Prelude.{◌≡◌, not, ◌&&◌, List, ℕ, ◌≤◌, ◌<◌, length, get_or, Float}
use Rattle.std.specs.Float.{nan}
use Rattle.std.specs.Float.Ieee.{eq}
use Rattle.definitions.specs.declared.Missing.{Missing}
use Rattle.definitions.specs.Lists.{any}
use Rattle.definitions.specs.ClipSet.{stage}
use Rattle.definitions.specs.Timing.{last_at_most}
use Rattle.definitions.specs.Value.{direct_source}
use Rattle.laws.specs.cell.Lent.{set_of, samples_of}
use Rattle.window.specs.Parts.{part_of}
use Rattle.window.specs.Windows.{min_of, max_of, if_own}
use Rattle.window.specs.declared.search.Window.{Window}
use Rattle.window.specs.search.Windowed.{samples_in, window_source}

-- the window of the start at the place p
pub record WindowIs (starts : List Float) (clips : List ℕ) (xs ys blocks : List Float) (m : Missing) (times values : List Float) (marks ends : List ℕ) (p : ℕ) (w : Window) : Type 0 where
  pub place : p < length starts
  pub start : w.start ≡ get_or starts p nan
  pub clip : w.clip ≡ get_or clips p 0
  pub min : w.min ≡ min_of starts p
  pub max : w.max ≡ max_of starts p
  pub order : w.begin ≤ w.end
  pub upto : w.end ≤ length times
  pub part : samples_in times w ≡ if_own (not (m.interpolate && any (λ (b : Float). eq b (get_or starts p nan)) blocks)) (part_of times ends (get_or clips p 0))
  pub direct : (t : Float) → last_at_most starts t ≡ p → direct_source (set_of (length ends) starts clips xs ys blocks m) (samples_of times values marks ends) (stage t) ≡ window_source xs ys times w t
