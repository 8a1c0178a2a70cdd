-- `window::nearest::candidate::near_inside` meets its contract. Assumes nothing.
use mathlib.Core.Path.{sym, ◌∙◌}
use Rattle.window.specs.nearest.Nearest.{with_inside}
use Rattle.window.proofs.nearest.candidate.near_inside.Goals as goal

pub returns-then-contains : goal.returns-then-contains
unfolding with_inside
returns-then-contains c = rw (sym c.contains.ensures ∙ c.if-contains.true) c.with_near.ensures

pub returns : goal.returns
unfolding with_inside
returns c = rw (sym c.contains.ensures ∙ c.if-contains.false)
