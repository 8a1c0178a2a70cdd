-- docs/VALUE-CLIPS.md, "Doubles": the neighbours, and lists of times in order. What is asked of one double stands in `Doubles` of the crate `gf`, with its arithmetic.
-- Assumes nothing.
use Rattle.std.specs.Prelude.{◌-◌, Bool, ◌&&◌, List, T, Float}
use Rattle.std.specs.Float.{binary64}
use Rattle.std.specs.Float.Ieee.{eq, lt, fits}
use Rattle.std.specs.Float.Ieee.Scale.{finite}
use Rattle.gf.specs.Doubles.{key, of_key, least}
use Rattle.definitions.specs.Lists.{any, all, pairs}

-- ---- the neighbours. `key`, `of_key` and `least` of the crate `gf`: the place of a double in numeric order, one for both zeros.

-- "the lowest finite double"
unfoldable pub lowest : Float
lowest = of_key least

-- the next lower double, of any finite double but the lowest
unfoldable pub next_lower : Float → Float
next_lower x = of_key (key x - 1)

-- a double that a program can hold and that is a stage time to ask about: "any finite double"
pub record FiniteDouble (x : Float) : Type 0 where
  pub fitting : T (fits binary64 x)
  pub finitely : T (finite x)

-- ---- ascending lists

-- each time below the one after it, numerically
abbrev pub ascending : List Float → Bool
ascending xs = all (λ (p : Float × Float). lt p.0 p.1) (pairs xs)

-- two neighbours that are equal, numerically
abbrev pub two_equal : List Float → Bool
two_equal xs = any (λ (p : Float × Float). eq p.0 p.1) (pairs xs)

-- three neighbours that are equal: the pair (a, b) stands beside (b, c)
abbrev pub three_equal : List Float → Bool
three_equal xs = any (λ (w : (Float × Float) × (Float × Float)). eq w.0.0 w.0.1 && eq w.1.0 w.1.1) (pairs (pairs xs))
