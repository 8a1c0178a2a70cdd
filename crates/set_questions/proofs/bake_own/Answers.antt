-- `set_questions::bake_own` meets its contract: the samples that it lends are the set's own. Assumes nothing.
use native.Mathlib.Omega.{arith}
use Rattle.dispatch.specs.SetSamples.{SetSamples}
use Rattle.set_samples.specs.Parting.{lent_samples}
use Rattle.pages.specs.Pages.{Pages, pages}
use Rattle.set_questions.proofs.Asked.{clip-counts, own-accepted, bakes-alike}
use Rattle.set_questions.proofs.bake_own.Goals.{Start as At-start}
use Rattle.set_questions.proofs.bake_own.Goals as goal

abbrev sets : At-start → Pages
sets s = let a = s.args in pages a.starts.now a.numbers.now a.xs.now a.ys.now a.blocks.now a.defaults.now a.counts.now a.bytes.now

abbrev lent : At-start → SetSamples
lent s = lent_samples s.args.lens.now s.args.ends.now s.args.times.now s.args.values.now s.args.marks.now

pub own_at-own-requires : goal.own_at-own-requires
own_at-own-requires c =
    let s = c in
    record { fact_1 = clip-counts (sets (goal.at.own_at-own-requires s).Start) s.requires.fact_1; fact_2 = s.requires.fact_2; fact_3 = s.requires.fact_3 }

pub offset_bounds-times-begin : goal.offset_bounds-times-begin
offset_bounds-times-begin c = omega (arith, c.own_at-own.ensures.forward, c.own_at-own.ensures.in-times, c.well_formed.1.1.1.1.1.1.1.1.1.1.1.0.1)

pub offset_bounds-values-begin : goal.offset_bounds-values-begin
offset_bounds-values-begin c = let o = c in omega (arith, o.own_at-own.ensures.forward, o.own_at-own.ensures.in-values, o.well_formed.1.1.1.1.1.1.1.1.1.1.1.1.0.1)

pub offset_bounds-ends-first : goal.offset_bounds-ends-first
offset_bounds-ends-first c = let o = c in omega (arith, o.own_at-own.ensures.ends-forward, o.own_at-own.ensures.in-ends, o.well_formed.1.1.1.1.1.1.1.1.1.1.0.1)

pub bake_at-requires : goal.bake_at-requires
bake_at-requires c =
    let o = c in
    let s = o in
    record { fact_1 = s.requires.fact_1; fact_2 = s.requires.fact_2; fact_3 = own-accepted s.args.counts.now (lent (goal.at.bake_at-requires s).Start) s.args.k s.requires.fact_2 o.own_at-own.result o.own_at-own.ensures }

pub returns : goal.returns
returns c =
    let w = c in
    let o = w in
    bakes-alike o.own_at-own.ensures.is w.bake_at.ensures
