-- The neighbours of a time with one candidate more, and what a search promises that looks at some of the times. Assumes nothing.
use Rattle.std.specs.Prelude.{cond, List, ◌≤◌, ◌<◌, Float, Option, None, Some}
use Rattle.std.specs.Float.Ieee.{le}
use Rattle.gf.specs.Doubles.{key}
use Rattle.gf.specs.declared.interval.Interval.{Interval}
use Rattle.laws.specs.list.Every.{Every}
use Rattle.laws.specs.list.Places.{Number}
use Rattle.window.specs.declared.Neighbours.{Neighbours}
use Rattle.window.specs.Bounds.{In, inside, with_lower, with_upper}

-- ---- one time more

abbrev pub greater_of : Option Float → Float → Option Float
greater_of None x = Some x
greater_of (Some y) x = cond (le x y) (Some y) (Some x)

abbrev pub lesser_of : Option Float → Float → Option Float
lesser_of None x = Some x
lesser_of (Some y) x = cond (le y x) (Some y) (Some x)

-- what is not at most t counts as above it: of numbers, it is
unfoldable pub with_near : Float → Neighbours → Float → Neighbours
with_near t n x = cond (le x t) (with_lower n (greater_of n.lower x)) (with_upper n (lesser_of n.upper x))

-- the same where the time lies inside the window
unfoldable pub with_inside : Interval → Float → Neighbours → Float → Neighbours
with_inside w t n x = cond (inside w x) (with_near t n x) n

-- ---- what a search promises

abbrev pub LowerMet : Option Float → Float → Type 0
LowerMet (Some l) x = key x ≤ key l
LowerMet None x = ⊥

abbrev pub UpperMet : Option Float → Float → Type 0
UpperMet (Some h) x = key h ≤ key x
UpperMet None x = ⊥

-- x does not come between t and a bound
abbrev pub Met : Float → Neighbours → Float → Type 0
Met t n x = (key x ≤ key t → LowerMet n.lower x) × (key t < key x → UpperMet n.upper x)

-- the bounds are among the times of g, on their sides of t
abbrev pub LowerIn : List Float → Float → Option Float → Type 0
LowerIn g t (Some l) = In l g × (key l ≤ key t)
LowerIn g t None = Unit {0}

abbrev pub UpperIn : List Float → Float → Option Float → Type 0
UpperIn g t (Some h) = In h g × (key t < key h)
UpperIn g t None = Unit {0}

abbrev pub Sided : List Float → Float → Neighbours → Type 0
Sided g t n = LowerIn g t n.lower × UpperIn g t n.upper

-- from the bounds `held` to the bounds r, which none of the times of `part` comes between
pub record Nearer (g : List Float) (t : Float) (part : List Float) (held r : Neighbours) : Type 0 where
  pub among : Sided g t r
  pub known : Every (Met t r) part
  pub kept : (x : Float) → Met t held x → Met t r x

-- the same among any times that have those of `part`
pub record Searched (t : Float) (part : List Float) (held r : Neighbours) : Type 0 where
  pub run : Number t → (g : List Float) → Every Number g → Every (λ (x : Float). In x g) part → Sided g t held → Nearer g t part held r
