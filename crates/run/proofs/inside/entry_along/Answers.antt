-- `run::inside::entry_along` meets its contract. Assumes nothing.
use mathlib.Core.Path.{◌≡◌, ap, ◌∙◌}
use Rattle.definitions.specs.Timing.{last_at_most}
use Rattle.laws.specs.cell.Knots as Knots
use Rattle.cell.specs.step.Lines.{line_is, place_on}
use Rattle.run.specs.Readings.{entry_at}
use Rattle.run.proofs.Readings.{place-slots}
use Rattle.run.proofs.inside.entry_along.Goals.{After-last_at_most_near-place}
use Rattle.run.proofs.inside.entry_along.Goals as goal

-- the place that is read
place : (c : After-last_at_most_near-place) → c.last_at_most_near-place.result ≡ place_on c.args.cs.now c.args.line c.args.k
unfolding place_on
place c =
    let a = c.args in
    c.last_at_most_near-place.ensures ∙ ap (last_at_most a.cs.now) (c.along.ensures ∙ ap (Knots.along (line_is a.line)) c.of_key.ensures)

pub entry_of_sample-requires : goal.entry_of_sample-requires
entry_of_sample-requires c = let parts = place-slots c.requires.reads c.args.line c.last_at_most_near-place.result c.args.k (place c) in record { place_in_bounds = parts.0; place_in_bounds_2 = parts.1 }

pub returns : goal.returns
returns c = let a = c.args in c.entry_of_sample.ensures ∙ ap (entry_at a.vs.now a.ms.now) (place (goal.at.returns c).After-last_at_most_near-place)
