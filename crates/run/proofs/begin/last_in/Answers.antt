-- `run::begin::last_in` meets its contract. Assumes nothing.
use mathlib.Core.Path.{subst}
use mathlib.Core.Bool.{not}
use Prim.Native.Nat.{◌+◌}
use lib.Dec.{T}
use lib.Ieee.{is_nan, binary64, fits, le}
use borrow.Author.Rules.{rules}
use Rattle.definitions.specs.declared.Segment.{Segment}
use Rattle.window.proofs.nearest.Beside.{number_at}
use Rattle.run.specs.begin.Begins.{BeforeIs}
use Rattle.run.proofs.begin.LastInverse.{last-is-in}
use Rattle.run.proofs.begin.last_in.Goals.{After-min, Start as At-start}
use Rattle.run.proofs.begin.last_in.Goals as goal

fits-max : (a : At-start) → T (fits binary64 a.args.max)
fits-max a = search rules

fits-min : (a : After-min) → T (fits binary64 a.min.result)
fits-min a = search rules

pub returns : goal.returns
returns c =
    let a = c.args in
    let next = number_at a.xs.now c.requires.ascending_1 (a.i + 1) c.requires.ascending_3 in
    let beside = subst (λ (s : Segment). T (not (is_nan s.b.x)) → T (le c.min.result s.b.x)) c.segment_at-s.ensures c.min.ensures.other_bound next.1 in
    last-is-in a.xs.now a.ys.now a.cs.now a.i a.max c.min.result (fits-max (goal.at.returns c).Start) (fits-min (goal.at.returns c).After-min) next (c.min.ensures.self_bound c.requires.t) beside
    c.last_before.result (subst (λ (s : Segment). BeforeIs a.cs.now (s.a, s.b) c.min.result c.last_before.result) c.segment_at-s.ensures c.last_before.ensures)
