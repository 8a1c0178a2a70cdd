-- `lent_questions::bake` meets its contract: 20, the samples' number, else the track of the standing set. Assumes nothing.
use Rattle.std.proofs.lemmas.Result.{err_from_is_err_and}
use Rattle.definitions.proofs.Refused.{not-zero}
use mathlib.Core.Path.{refl}
use borrow.Author.Tests.{not-true, not-false}
use Rattle.definitions.specs.Samples.{Samples}
use Rattle.laws.specs.cell.Lent.{samples_of}
use Rattle.definitions.specs.Track.{Outputs}
use Rattle.definitions.specs.Moments.{outputs}
use Rattle.resolver.specs.declared.Resolver.{Resolver}
use Rattle.resolver.specs.State.{lent_state}
use Rattle.resolver.proofs.Laws.{judged-number, bakes-20, bakes-refused, bakes-set, is-asked}
use Rattle.lent_questions.proofs.bake.Goals.{Start as At-start}
use Rattle.lent_questions.proofs.bake.Goals as goal

abbrev state : At-start → Resolver
state s = let a = s.args in lent_state a.shape a.starts.now a.numbers.now a.xs.now a.ys.now a.blocks.now

abbrev lent : At-start → Samples
lent s = samples_of s.args.times.now s.args.values.now s.args.marks.now s.args.ends.now

abbrev before : At-start → Outputs
before s = outputs s.args.outtimes.now s.args.outvalues.now s.args.outmarks.now

pub returns-then-not-shape : goal.returns-then-not-shape
returns-then-not-shape c =
    let s = c in
    bakes-20 (state (goal.at.returns-then-not-shape s).Start) (lent (goal.at.returns-then-not-shape s).Start) (before (goal.at.returns-then-not-shape s).Start) (not-true _ c.if-not-shape.true)

pub returns-in_err-check_samples : goal.returns-in_err-check_samples
returns-in_err-check_samples c =
    let p = err_from_is_err_and c.from_residual.result c.from_residual.ensures.1 in
    rw (p.1, p.2)
    (bakes-refused (state (goal.at.returns-in_err-check_samples c).Start) (lent (goal.at.returns-in_err-check_samples c).Start) (before (goal.at.returns-in_err-check_samples c).Start) _ (not-false _ c.if-not-shape.false) (judged-number (state (goal.at.returns-in_err-check_samples c).Start) c.in_err-check_samples.ensures) (not-zero _))

pub bake-requires : goal.bake-requires
bake-requires c =
    let p = c in
    let s = p in
    is-asked (state (goal.at.bake-requires s).Start) s.requires (not-false _ p.if-not-shape.false) p.in_ok-check_samples.ensures refl

pub returns : goal.returns
returns c =
    let w = c in
    let p = w in
    let s = p in
    bakes-set (state (goal.at.returns s).Start) s.requires (not-false _ p.if-not-shape.false) p.in_ok-check_samples.ensures refl _ _ _ w.bake.ensures
