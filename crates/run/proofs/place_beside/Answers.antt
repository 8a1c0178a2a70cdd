-- `run::place_beside` meets its contract. Assumes nothing.
use mathlib.Core.Path.{ap, ◌∙◌}
use Rattle.definitions.specs.Timing.{last_at_most}
use Rattle.laws.specs.cell.Knots as Knots
use Rattle.cell.specs.step.Lines.{line_is, place_on}
use Rattle.run.proofs.place_beside.Goals as goal

pub returns : goal.returns
unfolding place_on
returns c =
    let a = c.args in
    c.last_at_most_near.ensures
    ∙ ap (last_at_most a.ts.now) (c.along.ensures ∙ ap (Knots.along (line_is a.line)) c.of_key.ensures)
