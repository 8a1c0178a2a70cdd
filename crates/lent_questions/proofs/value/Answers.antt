-- `lent_questions::value` meets its contract: 20, the samples' number, 10, else the value. Assumes nothing.
use mathlib.Core.Path.{refl, sym, ap, ◌∙◌, subst}
use lib.Dec.{T}
use Rattle.std.proofs.lemmas.Result.{err_from_is_err_and}
use Rattle.definitions.proofs.Refused.{not-zero}
use borrow.Author.Tests.{not-true, not-false}
use Rattle.definitions.specs.ClipSet.{ClipSet}
use Rattle.definitions.specs.Samples.{Samples}
use Rattle.laws.specs.cell.Lent.{samples_of}
use Rattle.definitions.specs.Value.{value_read}
use Rattle.definitions.specs.Questions.{ask_value, replied, stage_time_number}
use Rattle.resolver.specs.declared.Resolver.{Resolver}
use Rattle.resolver.specs.State.{lent_state}
use Rattle.resolver.proofs.Laws.{asked-20, not_finite, is_finite, judged-number, samples-refused, samples-passed, lent-is, is-asked}
use Rattle.lent_questions.proofs.value.Goals.{Start as At-start}
use Rattle.lent_questions.proofs.value.Goals as goal

abbrev state : At-start → Resolver
state s = let a = s.args in lent_state a.shape a.starts.now a.numbers.now a.xs.now a.ys.now a.blocks.now

abbrev lent : At-start → Samples
lent s = samples_of s.args.times.now s.args.values.now s.args.marks.now s.args.ends.now

pub returns-then-not-shape : goal.returns-then-not-shape
unfolding ask_value
returns-then-not-shape c = asked-20 _ (state (goal.at.returns-then-not-shape c).Start) (not-true _ c.if-not-shape.true)

pub returns-in_err-check_samples : goal.returns-in_err-check_samples
unfolding ask_value
returns-in_err-check_samples c =
    let p = err_from_is_err_and c.from_residual.result c.from_residual.ensures.1 in
    rw (p.1, p.2)
    (samples-refused (lent (goal.at.returns-in_err-check_samples c).Start) (λ (x : ClipSet). stage_time_number c.args.t) (λ (x : ClipSet). value_read x (lent (goal.at.returns-in_err-check_samples c).Start) c.args.t) (state (goal.at.returns-in_err-check_samples c).Start) (not-false _ c.if-not-shape.false)
    _ (judged-number (state (goal.at.returns-in_err-check_samples c).Start) c.in_err-check_samples.ensures) (not-zero _))

pub returns-then-not-is_finite : goal.returns-then-not-is_finite
unfolding ask_value
returns-then-not-is_finite c =
    let p = c in
    let s = p in
    not_finite s.args.t _ (sym c.is_finite.ensures ∙ c.if-not-is_finite.true)
    ∙ samples-passed (lent (goal.at.returns-then-not-is_finite s).Start) (λ (x : ClipSet). stage_time_number s.args.t) (λ (x : ClipSet). value_read x (lent (goal.at.returns-then-not-is_finite s).Start) s.args.t) (state (goal.at.returns-then-not-is_finite s).Start) (not-false _ p.if-not-shape.false)
    (sym (judged-number (state (goal.at.returns-then-not-is_finite s).Start) p.in_ok-check_samples.ensures) ∙ refl)

pub value-requires : goal.value-requires
value-requires c =
    let p = c in
    let s = p in
    record { fact_1 = is-asked (state (goal.at.value-requires s).Start) s.requires (not-false _ p.if-not-shape.false) p.in_ok-check_samples.ensures refl; fact_2 = subst T (sym c.if-not-is_finite.false ∙ c.is_finite.ensures) tt }

pub returns : goal.returns
unfolding ask_value
returns c =
    let f = c in
    let p = f in
    let s = p in
    let stands = not-false _ p.if-not-shape.false in
    ap replied (c.value.ensures ∙ ap (λ (x : ClipSet). value_read x (lent (goal.at.returns s).Start) s.args.t) (lent-is (state (goal.at.returns s).Start) s.requires stands p.in_ok-check_samples.ensures refl))
    ∙ is_finite s.args.t _ (sym f.is_finite.ensures ∙ f.if-not-is_finite.false)
    ∙ samples-passed (lent (goal.at.returns s).Start) (λ (x : ClipSet). stage_time_number s.args.t) (λ (x : ClipSet). value_read x (lent (goal.at.returns s).Start) s.args.t) (state (goal.at.returns s).Start) stands
    (sym (judged-number (state (goal.at.returns s).Start) p.in_ok-check_samples.ensures) ∙ refl)
