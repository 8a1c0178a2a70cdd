-- `window::nearest::near_times` meets its contract. Assumes nothing.
use mathlib.Core.Path.{sym, ap, ◌∙◌, subst}
use Prim.Native.Nat.{◌+◌}
use native.Mathlib.Omega.{arith}
use Rattle.definitions.specs.Lists.{keep}
use Rattle.window.specs.declared.Neighbours.{Neighbours}
use Rattle.window.specs.Bounds.{inside}
use Rattle.window.specs.nearest.Nearest.{Searched}
use Rattle.window.specs.nearest.Beside.{with_place}
use Rattle.window.proofs.nearest.Beside.{beside-searched, last-small}
use Rattle.window.proofs.nearest.near_times.Goals as goal

pub overflow_add-i : goal.overflow_add-i
overflow_add-i c =
    omega (arith, c.requires.fact_4, last-small c.args.xs.now c.requires.fact_1 c.args.t c.requires.fact_2.fitting)

pub returns : goal.returns
returns c =
    let a = c.args in
    subst (λ (n : Neighbours). Searched a.t (keep (inside a.w) a.xs.now) a.known n)
    (sym (c.near_place.ensures ∙ ap (λ (h : Neighbours). with_place a.w a.t a.xs.now h (a.i + 1)) c.near_place-here.ensures))
    (beside-searched a.t a.w a.xs.now c.requires.fact_3 c.requires.fact_2 c.requires.fact_1 a.i c.requires.fact_4 a.known)
