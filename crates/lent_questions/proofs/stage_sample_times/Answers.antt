-- `lent_questions::stage_sample_times` meets its contract: 20, the samples' number, else the list. Assumes nothing.
use mathlib.Core.Path.{refl, sym, ap, ◌∙◌}
use native.Mathlib.Omega.{arith}
use lib.ListN.{length}
use Rattle.std.proofs.lemmas.Result.{err_from_is_err_and}
use Rattle.definitions.proofs.Refused.{not-zero}
use Rattle.definitions.specs.declared.refusal.Refusal.TheVariants.{NoSet}
use borrow.Author.Tests.{not-true, not-false}
use Rattle.definitions.specs.ClipSet.{ClipSet}
use Rattle.definitions.specs.Samples.{Samples}
use Rattle.laws.specs.cell.Lent.{samples_of}
use Rattle.definitions.specs.StageSamples.{stage_sample_times}
use Rattle.definitions.specs.Questions.{ask_stage_sample_times, room_number}
use Rattle.standing.proofs.Asked.{times-asked, times-are}
use Rattle.resolver.specs.declared.Resolver.{Resolver}
use Rattle.resolver.specs.State.{lent_state}
use Rattle.resolver.proofs.Laws.{asked-20, judged-number, samples-refused, samples-passed, times-refused, times-replied, lent-is, is-asked, times-are-so}
use Rattle.lent_questions.proofs.stage_sample_times.Goals.{Start as At-start}
use Rattle.lent_questions.proofs.stage_sample_times.Goals as goal

abbrev state : At-start → Resolver
state s = let a = s.args in lent_state a.shape a.starts.now a.numbers.now a.xs.now a.ys.now a.blocks.now

abbrev lent : At-start → Samples
lent s = samples_of s.args.times.now s.args.values.now s.args.marks.now s.args.ends.now

pub returns-then-not-shape : goal.returns-then-not-shape
unfolding ask_stage_sample_times
returns-then-not-shape c =
    let s = c in
    times-refused (state (goal.at.returns-then-not-shape s).Start) (lent (goal.at.returns-then-not-shape s).Start) s.args.out.now NoSet (asked-20 _ (state (goal.at.returns-then-not-shape s).Start) (not-true _ c.if-not-shape.true))

pub returns-in_err-check_samples : goal.returns-in_err-check_samples
unfolding ask_stage_sample_times
returns-in_err-check_samples c =
    let p = err_from_is_err_and c.from_residual.result c.from_residual.ensures.1 in
    rw (p.1, p.2)
    (times-refused (state (goal.at.returns-in_err-check_samples c).Start) (lent (goal.at.returns-in_err-check_samples c).Start) c.args.out.now _
    (samples-refused (lent (goal.at.returns-in_err-check_samples c).Start) (λ (x : ClipSet). room_number (length c.args.out.now) (length (stage_sample_times x (lent (goal.at.returns-in_err-check_samples c).Start)))) (λ (x : ClipSet). stage_sample_times x (lent (goal.at.returns-in_err-check_samples c).Start)) (state (goal.at.returns-in_err-check_samples c).Start) (not-false _ c.if-not-shape.false) _ (judged-number (state (goal.at.returns-in_err-check_samples c).Start) c.in_err-check_samples.ensures) (not-zero _)))

pub stage_sample_times-requires : goal.stage_sample_times-requires
stage_sample_times-requires c =
    let p = c in
    let s = p in
    times-asked (is-asked (state (goal.at.stage_sample_times-requires s).Start) s.requires (not-false _ p.if-not-shape.false) p.in_ok-check_samples.ensures refl)

pub returns : goal.returns
unfolding ask_stage_sample_times
returns c =
    let w = c in
    let p = w in
    let s = p in
    let stands = not-false _ p.if-not-shape.false in
    times-replied (state (goal.at.returns s).Start) (lent (goal.at.returns s).Start) _ _ _ _ _
    (times-are (is-asked (state (goal.at.returns s).Start) s.requires stands p.in_ok-check_samples.ensures refl)
    ∙ ap (λ (x : ClipSet). stage_sample_times x (lent (goal.at.returns s).Start)) (lent-is (state (goal.at.returns s).Start) s.requires stands p.in_ok-check_samples.ensures refl))
    w.stage_sample_times.ensures
    (samples-passed (lent (goal.at.returns s).Start) (λ (x : ClipSet). room_number (length s.args.out.now) (length (stage_sample_times x (lent (goal.at.returns s).Start)))) (λ (x : ClipSet). stage_sample_times x (lent (goal.at.returns s).Start)) (state (goal.at.returns s).Start) stands (sym (judged-number (state (goal.at.returns s).Start) p.in_ok-check_samples.ensures) ∙ refl))
    stands (times-are-so (state (goal.at.returns s).Start) s.requires stands p.in_ok-check_samples.ensures refl)
