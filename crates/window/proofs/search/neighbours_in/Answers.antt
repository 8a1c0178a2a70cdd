-- `window::search::neighbours_in` meets its contract: the starts, the knots beside t, and the segments or the samples. Assumes nothing.
use native.Mathlib.Omega.{arith}
use lib.Dec.{T}
use lib.Ieee.{binary64, fits}
use Rattle.laws.proofs.list.Places.{last-inside}
use Rattle.window.proofs.search.Windowed.{near-faces, near-searchable, near-knots, near-plain}
use borrow.Author.Rules.{rules}
use Rattle.window.proofs.search.neighbours_in.Goals.{Start as At-start}
use Rattle.window.proofs.search.neighbours_in.Goals as goal

-- what owning them tells: the format holds them
low : (s : At-start) → T (fits binary64 s.args.w.min)
low s = search rules

high : (s : At-start) → T (fits binary64 s.args.w.max)
high s = search rules

pub near_times-found-requires : goal.near_times-found-requires
near_times-found-requires c =
    let a = c.args in
    record { fact_1 = c.requires.samples; fact_2 = c.requires.time; fact_3 = near-faces a.xs.now a.ys.now a.latest.now a.cs.now a.w a.t c.requires (low (goal.at.near_times-found-requires c).Start) (high (goal.at.near_times-found-requires c).Start); fact_4 = c.last_at_most_near-place.ensures }

pub returns-then-xs-eq0 : goal.returns-then-xs-eq0
returns-then-xs-eq0 c =
    let a = c.args in
    near-plain a.xs.now a.ys.now a.latest.now a.cs.now a.w a.t c.requires (low (goal.at.returns-then-xs-eq0 c).Start) (high (goal.at.returns-then-xs-eq0 c).Start) c.if-xs-eq0.true c.near_starts-starts.ensures c.near_times-found.ensures

pub near_times-knots-requires : goal.near_times-knots-requires
near_times-knots-requires c =
    let a = c.args in
    record { fact_1 = c.requires.knots; fact_2 = c.requires.time; fact_3 = near-faces a.xs.now a.ys.now a.latest.now a.cs.now a.w a.t c.requires (low (goal.at.near_times-knots-requires c).Start) (high (goal.at.near_times-knots-requires c).Start); fact_4 = c.last_at_most_near-i.ensures }

pub near_around-requires : goal.near_around-requires
near_around-requires c =
    let a = c.args in
    record { fact_1 = near-searchable a.xs.now a.ys.now a.latest.now a.cs.now a.w a.t c.requires (low (goal.at.near_around-requires c).Start) (high (goal.at.near_around-requires c).Start); fact_2 = c.requires.reach; fact_3 = omega (arith, c.last_at_most_near-i.ensures, last-inside a.t c.requires.time.fitting a.xs.now c.requires.knots (omega arith)); fact_4 = c.last_at_most_near-i.ensures }

pub returns : goal.returns
returns c =
    let a = c.args in
    near-knots a.xs.now a.ys.now a.latest.now a.cs.now a.w a.t c.requires (low (goal.at.returns c).Start) (high (goal.at.returns c).Start) c.last_at_most_near-i.result c.last_at_most_near-i.ensures (omega (arith, c.last_at_most_near-i.ensures, last-inside a.t c.requires.time.fitting a.xs.now c.requires.knots (omega arith))) c.near_starts-starts.ensures c.near_times-knots.ensures c.near_around.ensures
