-- `cell::step::is_read` meets its contract. Assumes nothing.
use mathlib.Core.Path.{ap, ◌∙◌}
use lib.Dec.{eqb}
use lib.Ieee.{Float}
use Rattle.definitions.specs.Timing.{last_at_most}
use Rattle.laws.specs.cell.Knots as Knots
use Rattle.cell.specs.step.Lines.{line_is, place_on}
use Rattle.cell.proofs.step.is_read.Goals as goal

pub returns : goal.returns
unfolding place_on
returns c =
    let a = c.args in
    c.is_place.ensures
    ∙ ap (λ (t : Float). eqb (last_at_most a.ts.now t) a.q) (c.along.ensures ∙ ap (Knots.along (line_is a.line)) c.of_key.ensures)
