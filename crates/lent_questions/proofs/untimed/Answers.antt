-- `lent_questions::untimed` meets its contract: 20, the samples' number, else the answer without a time. Assumes nothing.
use mathlib.Core.Path.{refl, sym, ap, ◌∙◌}
use Rattle.std.proofs.lemmas.Result.{err_from_is_err_and}
use Rattle.definitions.proofs.Refused.{not-zero}
use borrow.Author.Tests.{not-true, not-false}
use Rattle.definitions.specs.ClipSet.{ClipSet}
use Rattle.definitions.specs.Samples.{Samples}
use Rattle.laws.specs.cell.Lent.{samples_of}
use Rattle.definitions.specs.StageSamples.{untimed_answer}
use Rattle.definitions.specs.Questions.{ask_untimed, replied}
use Rattle.standing.proofs.Asked.{clips-asked, untimed-told}
use Rattle.resolver.specs.declared.Resolver.{Resolver}
use Rattle.resolver.specs.State.{lent_state}
use Rattle.resolver.proofs.Laws.{asked-20, judged-number, plainly-refused, plainly-replied, lent-is, is-asked}
use Rattle.lent_questions.proofs.untimed.Goals.{Start as At-start}
use Rattle.lent_questions.proofs.untimed.Goals as goal

abbrev state : At-start → Resolver
state s = let a = s.args in lent_state a.shape a.starts.now a.numbers.now a.xs.now a.ys.now a.blocks.now

abbrev lent : At-start → Samples
lent s = samples_of s.args.times.now s.args.values.now s.args.marks.now s.args.ends.now

pub returns-then-not-shape : goal.returns-then-not-shape
unfolding ask_untimed
returns-then-not-shape c = asked-20 _ (state (goal.at.returns-then-not-shape c).Start) (not-true _ c.if-not-shape.true)

pub returns-in_err-check_samples : goal.returns-in_err-check_samples
unfolding ask_untimed
returns-in_err-check_samples c =
    let p = err_from_is_err_and c.from_residual.result c.from_residual.ensures.1 in
    rw (p.1, p.2)
    (plainly-refused (lent (goal.at.returns-in_err-check_samples c).Start) (λ (x : ClipSet). untimed_answer x (lent (goal.at.returns-in_err-check_samples c).Start)) (state (goal.at.returns-in_err-check_samples c).Start) (not-false _ c.if-not-shape.false) _ (judged-number (state (goal.at.returns-in_err-check_samples c).Start) c.in_err-check_samples.ensures) (not-zero _))

pub untimed-requires : goal.untimed-requires
untimed-requires c =
    let s = c in
    record { fact_1 = s.requires.whole.in-numbers; fact_2 = clips-asked (is-asked (state (goal.at.untimed-requires s).Start) s.requires (not-false _ c.if-not-shape.false) c.in_ok-check_samples.ensures refl) }

pub returns : goal.returns
unfolding ask_untimed
returns c =
    let p = c in
    let s = p in
    let stands = not-false _ p.if-not-shape.false in
    ap replied
    (c.untimed.ensures
    ∙ untimed-told (is-asked (state (goal.at.returns s).Start) s.requires stands p.in_ok-check_samples.ensures refl)
    ∙ ap (λ (x : ClipSet). untimed_answer x (lent (goal.at.returns s).Start)) (lent-is (state (goal.at.returns s).Start) s.requires stands p.in_ok-check_samples.ensures refl))
    ∙ plainly-replied (lent (goal.at.returns s).Start) (λ (x : ClipSet). untimed_answer x (lent (goal.at.returns s).Start)) (state (goal.at.returns s).Start) stands (sym (judged-number (state (goal.at.returns s).Start) p.in_ok-check_samples.ensures) ∙ refl)
