-- A line as the program holds it, and the place that is read along it. Assumes nothing.
use Rattle.std.specs.Prelude.{List, ℕ, Float}
use Rattle.gf.specs.Doubles.{of_key}
use Rattle.definitions.specs.Timing.{last_at_most}
use Rattle.laws.specs.cell.Knots as Knots
use Rattle.cell.specs.declared.step.line.Line.{Line}
use Rattle.cell.specs.declared.step.line.Line.TheVariants.{Identity, Flat, Segment}

abbrev pub line_is : Line → Knots.Line
line_is Identity = Knots.plain
line_is (Flat y) = Knots.flat y
line_is (Segment s) = Knots.segment s.a s.b

-- the place of the time that is read at the key k
unfoldable pub place_on : List Float → Line → ℕ → ℕ
place_on times line k = last_at_most times (Knots.along (line_is line) (of_key k))
