-- `run::begin::last_before` meets its contract: what it says is below `ceil` by a test. Assumes nothing.
use mathlib.Core.Path.{sym, ◌∙◌, subst}
use lib.Ieee.{Float, lt}
use Rattle.definitions.specs.declared.Knot.{Knot}
use Rattle.laws.proofs.list.Tests.{holds}
use Rattle.window.specs.Bounds.{In}
use Rattle.window.specs.Inverses.{on_segment}
use Rattle.run.proofs.begin.LastInverse.{in-segment}
use Rattle.run.proofs.begin.last_before.Goals as goal

pub returns-then-h-ceil : goal.returns-then-h-ceil
returns-then-h-ceil c =
    let a = c.args in
    let q : Knot × Knot = (a.s.a, a.s.b) in (
      subst (λ (h : Float). In h (on_segment a.cs.now q)) (sym c.stage_time-h.ensures) (in-segment a.cs.now q _ c.if-i-cs.true (holds _ (sym c.spans.ensures ∙ c.if-spans.true))),
      holds (lt c.stage_time-h.result a.ceil) c.if-h-ceil.true,
    )
