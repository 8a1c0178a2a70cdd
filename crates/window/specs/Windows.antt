-- A window's gathered times over the lent lists, part by part. Assumes nothing.
use Rattle.std.specs.Prelude.{Bool, true, false, cond, List, [], ◌∷◌, ◌++◌, ℕ, ◌+◌, eqb, ltb, length, get_or, Float}
use Rattle.std.specs.Float.{nan, inf}
use Rattle.gf.specs.declared.interval.Interval.{Interval}
use Rattle.definitions.specs.Lists.{keep}
use Rattle.laws.specs.cell.Lent.{knots_of}
use Rattle.window.specs.Bounds.{inside}
use Rattle.window.specs.Inverses.{inverses_of}

-- ---- the window

abbrev pub min_of : List Float → ℕ → Float
min_of starts p = cond (eqb p 0) (inf true) (get_or starts p nan)

abbrev pub max_of : List Float → ℕ → Float
max_of starts p = cond (ltb (p + 1) (length starts)) (get_or starts (p + 1) nan) (inf false)

abbrev pub window_of : List Float → ℕ → Interval
window_of starts p = record { min = min_of starts p; max = max_of starts p }

-- ---- a window's times, with samples given by their clip times

unfoldable pub window_part : List Float → List Float → List Float → ℕ → List Float → List Float
window_part starts xs ys p cs = get_or starts p nan ∷ (keep (inside (window_of starts p)) xs ++ keep (inside (window_of starts p)) (inverses_of (knots_of xs ys) cs))

-- the samples of a clip, or none
abbrev pub if_own : Bool → List Float → List Float
if_own b cs = cond b cs []
