-- `run::begin::run_begin` meets its contract: each fact of a run's beginning is one of its tests. Assumes nothing.
use mathlib.Core.Path.{sym, subst, ◌∙◌}
use native.Mathlib.Omega.{arith}
use lib.Dec.{T}
use lib.Ieee.{binary64, fits}
use Rattle.window.specs.Bounds.{LowerIs}
use Rattle.window.specs.search.Windowed.{samples_in, window_times}
use Rattle.value.specs.ClipTimes.{OnSegment}
use Rattle.value.proofs.ClipTimes.{on-between}
use borrow.Author.Rules.{rules}
use Rattle.run.proofs.begin.run_begin.Goals.{Else-not-is_between, Start as At-start}
use Rattle.run.proofs.begin.run_begin.Goals as goal

fits-max : (a : At-start) → T (fits binary64 a.args.w.max)
fits-max a = search rules

on : (c : Else-not-is_between) → OnSegment c.args.xs.now c.args.t c.last_at_most_near-i.result
on c = on-between _ _ _ (sym c.is_between.ensures ∙ c.if-not-is_between.false)

pub last_in-requires-clause-ascending_3 : goal.last_in-requires-clause-ascending_3
last_in-requires-clause-ascending_3 c = (on (goal.at.last_in-requires-clause-ascending_3 c).Else-not-is_between).place

pub returns : goal.returns
returns c =
    let a = c.args in
    let last = c.in_ok-upto.ensures in
    let ahead = c.is_below.ensures c.if-not-is_below.false in (
      omega (arith, c.if-w.false),
      record {
        nears = c.requires.nearing_1;
        least = c.requires.fact;
        most = fits-max (goal.at.returns c).Start;
        here = on (goal.at.returns c).Else-not-is_between;
        begun = ahead.0;
        lower = subst (LowerIs (window_times a.xs.now a.ys.now (samples_in a.times.now a.w) a.w) a.t) c.in_ok-lower.was c.neighbours_in-near.ensures.lower;
        past = c.is_past.ensures c.if-not-is_past.false;
        above = ahead.1;
        listed = last.0;
        within = last.1;
        upto = last.2;
      },
    )
