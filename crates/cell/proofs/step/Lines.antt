-- A line as the program holds it, and the place that is read along it. Assumes nothing.
use mathlib.Core.Path.{◌≡◌, ap}
use lib.Ieee.{Float}
use Rattle.definitions.specs.declared.Segment as definitions
use Rattle.definitions.specs.Timing.{on_segment}
use Rattle.laws.specs.cell.Knots as Knots
use Rattle.cell.specs.declared.step.line.Line.{Line}
use Rattle.cell.specs.declared.step.line.Line.TheVariants.{Identity, Flat, Segment}
use Rattle.cell.specs.step.Lines.{line_is}

-- ---- the clip time by the line's form

pub along-plain : (line : Line) (t : Float) → line ≡ Identity → Knots.along (line_is line) t ≡ t
unfolding Knots.along
along-plain line t e = ap (λ (l : Line). Knots.along (line_is l) t) e

pub along-flat : (line : Line) (t y : Float) → line ≡ Flat y → Knots.along (line_is line) t ≡ y
unfolding Knots.along
along-flat line t y e = ap (λ (l : Line). Knots.along (line_is l) t) e

pub along-segment : (line : Line) (t : Float) (s : definitions.Segment) → line ≡ Segment s → Knots.along (line_is line) t ≡ on_segment s.a s.b t
unfolding Knots.along
along-segment line t s e = ap (λ (l : Line). Knots.along (line_is l) t) e
