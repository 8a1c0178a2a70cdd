-- `set_questions::read_own` meets its contract: the samples that it lends are the set's own. Assumes nothing.
use native.Mathlib.Omega.{arith}
use mathlib.Core.Path.{sym, ap, ◌∙◌}
use Rattle.definitions.specs.Samples.{Samples}
use Rattle.definitions.specs.Value.{value_read}
use Rattle.dispatch.specs.SetSamples.{SetSamples}
use Rattle.standing.specs.Standing.{set_in}
use Rattle.set_samples.specs.Parting.{lent_samples}
use Rattle.pages.specs.Pages.{Pages, pages, state_at}
use Rattle.set_questions.proofs.Asked.{clip-counts, own-accepted}
use Rattle.set_questions.proofs.read_own.Goals.{Start as At-start}
use Rattle.set_questions.proofs.read_own.Goals as goal

abbrev sets : At-start → Pages
sets s = let a = s.args in pages a.starts.now a.numbers.now a.xs.now a.ys.now a.blocks.now a.defaults.now a.counts.now a.bytes.now

abbrev lent : At-start → SetSamples
lent s = lent_samples s.args.lens.now s.args.ends.now s.args.times.now s.args.values.now s.args.marks.now

pub own_at-own-requires : goal.own_at-own-requires
own_at-own-requires c =
    let s = c in
    record { fact_1 = clip-counts (sets (goal.at.own_at-own-requires s).Start) s.requires.fact_1; fact_2 = s.requires.fact_2; fact_3 = s.requires.fact_3 }

pub offset_bounds-times-begin : goal.offset_bounds-times-begin
offset_bounds-times-begin c = omega (arith, c.own_at-own.ensures.forward, c.own_at-own.ensures.in-times, c.well_formed.1.1.1.1.1.1.1.1.1.1.1.0.1)

pub offset_bounds-values-begin : goal.offset_bounds-values-begin
offset_bounds-values-begin c = let o = c in omega (arith, o.own_at-own.ensures.forward, o.own_at-own.ensures.in-values, o.well_formed.1.1.1.1.1.1.1.1.1.1.1.1.0.1)

pub offset_bounds-ends-first : goal.offset_bounds-ends-first
offset_bounds-ends-first c = let o = c in omega (arith, o.own_at-own.ensures.ends-forward, o.own_at-own.ensures.in-ends, o.well_formed.1.1.1.1.1.1.1.1.1.1.0.1)

pub read_at-requires : goal.read_at-requires
read_at-requires c =
    let o = c in
    let s = o in
    record { fact_1 = s.requires.fact_1; fact_2 = s.requires.fact_2; fact_3 = own-accepted s.args.counts.now (lent (goal.at.read_at-requires s).Start) s.args.k s.requires.fact_2 o.own_at-own.result o.own_at-own.ensures; fact_4 = s.requires.fact_4 }

pub returns : goal.returns
returns c =
    let o = c in
    let s = o in
    c.read_at.ensures
    ∙ ap (λ (x : Samples). value_read (set_in (state_at (sets (goal.at.returns s).Start) s.args.k).set) x s.args.t) (sym o.own_at-own.ensures.is)
