-- The window of a start with all samples of its clip, as stage sample times have it, and a search among its times. Assumes nothing.
use Rattle.std.specs.Prelude.{◌≡◌, cond, List, [], ◌∷◌, ℕ, ◌+◌, ◌<◌, ltb, length, get_or, Float}
use Rattle.std.specs.Float.{nan}
use Rattle.definitions.specs.Samples.{clip_begin, clip_end}
use Rattle.laws.specs.list.Places.{Ascending}
use Rattle.window.specs.Parts.{part_of, Readable}
use Rattle.window.specs.Windows.{min_of, max_of, window_part}
use Rattle.window.specs.declared.search.Window.{Window}

-- the times of the window at the place p
abbrev pub whole_times : List Float → List ℕ → List Float → List Float → List Float → List ℕ → ℕ → List Float
whole_times starts clips xs ys times ends p = window_part starts xs ys p (part_of times ends (get_or clips p 0))

-- the next start, if there is one
abbrev pub next_start : List Float → ℕ → List Float
next_start starts p = cond (ltb (p + 1) (length starts)) (get_or starts (p + 1) nan ∷ []) []

-- what a search asks of the lists
pub record Windows (starts : List Float) (clips : List ℕ) (xs ys times : List Float) (ends : List ℕ) : Type 0 where
  pub rising : Ascending starts
  pub paired : length starts ≡ length clips
  pub named : (p : ℕ) → p < length starts → get_or clips p 0 < length ends
  pub readable : Readable xs ys times ends

-- w is the window of the start at the place p
pub record WholeWindow (starts : List Float) (clips ends : List ℕ) (p : ℕ) (w : Window) : Type 0 where
  pub start : w.start ≡ get_or starts p nan
  pub min : w.min ≡ min_of starts p
  pub max : w.max ≡ max_of starts p
  pub begin : w.begin ≡ clip_begin ends (get_or clips p 0)
  pub end : w.end ≡ clip_end ends (get_or clips p 0)
