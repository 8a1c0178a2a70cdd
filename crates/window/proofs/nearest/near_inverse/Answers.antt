-- `window::nearest::near_inverse` meets its contract. Assumes nothing.
use mathlib.Core.Path.{sym, ap, ◌∙◌, subst}
use Rattle.definitions.specs.declared.Knot.{Knot}
use Rattle.definitions.specs.Lists.{keep}
use Rattle.definitions.specs.Value.{on_pair}
use Rattle.window.specs.declared.Neighbours.{Neighbours}
use Rattle.window.specs.Bounds.{inside}
use Rattle.window.specs.nearest.Nearest.{Searched, with_inside}
use Rattle.window.proofs.nearest.CrossingLaws.{pair_inside}
use Rattle.window.proofs.nearest.near_inverse.Goals as goal

pub returns-then-spans : goal.returns-then-spans
returns-then-spans c =
    let a = c.args in
    let k : Knot × Knot = (a.s.a, a.s.b) in
    subst (λ (n : Neighbours). Searched a.t (keep (inside a.w) (on_pair a.c k)) a.known n) (sym (c.near_inside.ensures ∙ ap (with_inside a.w a.t a.known) c.stage_time-x.ensures))
    (pair_inside a.t a.w a.known a.c k (sym c.spans.ensures ∙ c.if-spans.true))
