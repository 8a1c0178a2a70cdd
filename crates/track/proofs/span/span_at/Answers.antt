-- `track::span::span_at` meets its contract: in the window of k a run, or else the cell. Assumes nothing.
use Rattle.std.specs.Prelude.{Some}
use mathlib.Core.Path.{◌≡◌, sym, subst, ◌∙◌}
use mathlib.Core.Bool.{◌&&◌}
use Prim.Native.Nat.{◌<◌}
use native.Mathlib.Omega.{arith}
use lib.Dec.{eqb, ltb}
use lib.ListN.{length}
use lib.Ieee.{Float}
use borrow.Author.Tests.{eqb-true, ltb-true}
use Rattle.gf.specs.Doubles.{of_key}
use Rattle.gf.proofs.KeyLaws.{of_key-fits, of_key-finite}
use Rattle.definitions.specs.Doubles.{FiniteDouble}
use Rattle.laws.proofs.list.Tests.{holds, is_true, both_l, both_r}
use Rattle.value.proofs.WindowOf.{window-lent, window-nears}
use Rattle.cell.specs.WindowPlaces.{PlaceAt}
use Rattle.cell.proofs.Lent.{place-window}
use Rattle.run.specs.begin.Begins.{RunBeginIs}
use Rattle.track.proofs.span.RunsFrom.{window-least}
use Rattle.track.proofs.span.Steps.{knotless-asks, knotless-steps, run-asks, run-steps, cell-step-asks, found-step}
use Rattle.track.proofs.span.span_at.Goals.{After-place_at-at, In-Some, Start as At-start, Then-is_knotless}
use Rattle.track.proofs.span.span_at.Goals as goal

finite-key : (a : At-start) → FiniteDouble (of_key a.args.k)
finite-key a = record { fitting = of_key-fits a.args.k; finitely = of_key-finite a.args.k a.requires.keys.low (omega (arith, a.requires.keys.order, a.requires.keys.high)) }

-- the place is that of k
place : (c : After-place_at-at) → PlaceAt c.args.starts.now c.args.clips.now c.args.xs.now c.args.ys.now c.args.blocks.now c.args.m c.args.times.now c.args.values.now c.args.marks.now c.args.ends.now (of_key c.args.k) c.place_at-at.result.start c.place_at-at.result.window
place c =
    let a = c.args in
    subst (λ (t : Float). PlaceAt a.starts.now a.clips.now a.xs.now a.ys.now a.blocks.now a.m a.times.now a.values.now a.marks.now a.ends.now t c.place_at-at.result.start c.place_at-at.result.window) c.of_key-t.ensures c.place_at-at.ensures

pub place_at-at-requires : goal.place_at-at-requires
place_at-at-requires c = record { accepted_lists = c.requires.accepted_lists; place_is = c.requires.place_is; finite_double = subst FiniteDouble (sym c.of_key-t.ensures) (finite-key (goal.at.place_at-at-requires c).Start) }

-- several starts, and no knots
knotless : (c : Then-is_knotless) → (1 < length c.args.starts.now) × (length c.args.xs.now ≡ 0)
knotless c =
    let b = holds (ltb 1 (length c.args.starts.now) && eqb (length c.args.xs.now) 0) (sym c.is_knotless.ensures ∙ c.if-is_knotless.true) in
    let m = both_l (ltb 1 (length c.args.starts.now)) (eqb (length c.args.xs.now) 0) b in
    let e = both_r (ltb 1 (length c.args.starts.now)) (eqb (length c.args.xs.now) 0) b in
    (ltb-true 1 _ (is_true _ m), eqb-true _ 0 (is_true _ e))

pub knotless_step-requires : goal.knotless_step-requires
knotless_step-requires c =
    let n = knotless c in
    knotless-asks c.requires.accepted_lists c.args.k c.args.top c.requires.keys c.place_at-at.result (place (goal.at.knotless_step-requires c).After-place_at-at) n.0 n.1

pub returns-then-is_knotless : goal.returns-then-is_knotless
returns-then-is_knotless c =
    let n = knotless (goal.at.returns-then-is_knotless c).Then-is_knotless in
    knotless-steps c.requires.accepted_lists c.args.k c.args.top c.requires.keys c.place_at-at.result (place (goal.at.returns-then-is_knotless c).After-place_at-at) n.0 n.1 c.knotless_step.result c.knotless_step.ensures

pub run_begin-found-requires : goal.run_begin-found-requires
run_begin-found-requires c =
    let n = c.if-starts-gt1.true in
    let f = subst FiniteDouble (sym c.of_key-t.ensures) (finite-key (goal.at.run_begin-found-requires c).Start) in
    let W = place-window c.requires.accepted_lists c.of_key-t.result f c.place_at-at.result.start c.place_at-at.result.window c.place_at-at.ensures (omega arith) in record { nearing_1 = window-nears c.requires.accepted_lists c.place_at-at.result.start c.place_at-at.result.window W c.of_key-t.result (c.place_at-at.ensures.place (omega arith)) f c.args.latest.now c.requires.latest_of; nearing_2 = window-lent c.requires.accepted_lists c.place_at-at.result.start c.place_at-at.result.window W; fact = window-least c.requires.accepted_lists c.place_at-at.result.start c.place_at-at.result.window W }

run : (c : In-Some) → RunBeginIs c.args.xs.now c.args.ys.now c.args.latest.now c.args.times.now c.place_at-at.result.window (of_key c.args.k) (Some c.in-Some.begun)
run c =
    let x = subst (λ (t : Float). RunBeginIs c.args.xs.now c.args.ys.now c.args.latest.now c.args.times.now c.place_at-at.result.window t c.run_begin-found.result) c.of_key-t.ensures c.run_begin-found.ensures in
    subst (RunBeginIs c.args.xs.now c.args.ys.now c.args.latest.now c.args.times.now c.place_at-at.result.window (of_key c.args.k)) c.in-Some.is x

pub run_step-requires : goal.run_step-requires
run_step-requires c =
    let y = run c in
    run-asks c.requires.accepted_lists c.args.k c.args.top c.requires.keys c.place_at-at.result (place (goal.at.run_step-requires c).After-place_at-at) c.if-starts-gt1.true y.0 c.args.latest.now _ _ _ y.1

pub returns-in-Some : goal.returns-in-Some
returns-in-Some c =
    let y = run (goal.at.returns-in-Some c).In-Some in
    run-steps c.requires.accepted_lists c.args.k c.args.top c.requires.keys c.place_at-at.result (place (goal.at.returns-in-Some c).After-place_at-at) c.if-starts-gt1.true y.0 c.args.latest.now _ _ _ y.1 _ c.run_step.result c.run_step.ensures

pub cell_step-requires : goal.cell_step-requires
cell_step-requires c = cell-step-asks c.requires.accepted_lists c.args.k c.args.top c.requires.keys c.place_at-at.result (place (goal.at.cell_step-requires c).After-place_at-at) c.args.latest.now c.requires.latest_of

pub returns : goal.returns
returns c = found-step c.requires.accepted_lists c.args.k c.args.top c.requires.keys c.place_at-at.result (place (goal.at.returns c).After-place_at-at) c.cell_step.result c.cell_step.ensures
