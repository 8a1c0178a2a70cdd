-- `lent_questions::stage_samples` meets its contract: 20, the samples' number, else the list. Assumes nothing.
use mathlib.Core.Path.{refl, sym, ap, ◌∙◌}
use lib.ListN.{length}
use Prim.Native.Nat.{min}
use Rattle.std.proofs.lemmas.Result.{err_from_is_err_and}
use Rattle.definitions.proofs.Refused.{not-zero}
use Rattle.definitions.specs.declared.refusal.Refusal.TheVariants.{NoSet}
use borrow.Author.Tests.{not-true, not-false}
use Rattle.definitions.specs.ClipSet.{ClipSet}
use Rattle.definitions.specs.Samples.{Samples}
use Rattle.laws.specs.cell.Lent.{samples_of}
use Rattle.definitions.specs.StageSamples.{stage_samples}
use Rattle.definitions.specs.Questions.{ask_stage_samples, room_number}
use Rattle.standing.proofs.Asked.{samples-asked, samples-are}
use Rattle.resolver.specs.declared.Resolver.{Resolver}
use Rattle.resolver.specs.State.{lent_state}
use Rattle.resolver.proofs.Laws.{asked-20, judged-number, samples-refused, samples-passed, list-refused, list-replied, lent-is, is-asked}
use Rattle.lent_questions.proofs.stage_samples.Goals.{Start as At-start}
use Rattle.lent_questions.proofs.stage_samples.Goals as goal

abbrev state : At-start → Resolver
state s = let a = s.args in lent_state a.shape a.starts.now a.numbers.now a.xs.now a.ys.now a.blocks.now

abbrev lent : At-start → Samples
lent s = samples_of s.args.times.now s.args.values.now s.args.marks.now s.args.ends.now

pub returns-then-not-shape : goal.returns-then-not-shape
unfolding ask_stage_samples
returns-then-not-shape c =
    let s = c in
    list-refused (state (goal.at.returns-then-not-shape s).Start) (lent (goal.at.returns-then-not-shape s).Start) s.args.outtimes.now s.args.outmarks.now NoSet (asked-20 _ (state (goal.at.returns-then-not-shape s).Start) (not-true _ c.if-not-shape.true))

pub returns-in_err-check_samples : goal.returns-in_err-check_samples
unfolding ask_stage_samples
returns-in_err-check_samples c =
    let p = err_from_is_err_and c.from_residual.result c.from_residual.ensures.1 in
    rw (p.1, p.2)
    (list-refused (state (goal.at.returns-in_err-check_samples c).Start) (lent (goal.at.returns-in_err-check_samples c).Start) c.args.outtimes.now c.args.outmarks.now _
    (samples-refused (lent (goal.at.returns-in_err-check_samples c).Start) (λ (x : ClipSet). room_number (min (length c.args.outtimes.now) (length c.args.outmarks.now)) (length (stage_samples x (lent (goal.at.returns-in_err-check_samples c).Start)))) (λ (x : ClipSet). stage_samples x (lent (goal.at.returns-in_err-check_samples c).Start)) (state (goal.at.returns-in_err-check_samples c).Start) (not-false _ c.if-not-shape.false) _ (judged-number (state (goal.at.returns-in_err-check_samples c).Start) c.in_err-check_samples.ensures) (not-zero _)))

pub stage_samples-requires : goal.stage_samples-requires
stage_samples-requires c =
    let p = c in
    let s = p in
    samples-asked (is-asked (state (goal.at.stage_samples-requires s).Start) s.requires (not-false _ p.if-not-shape.false) p.in_ok-check_samples.ensures refl)

pub returns : goal.returns
unfolding ask_stage_samples
returns c =
    let w = c in
    let p = w in
    let s = p in
    let a = s.args in
    let stands = not-false _ p.if-not-shape.false in
    list-replied (state (goal.at.returns s).Start) (lent (goal.at.returns s).Start) _ _ _ _ _ _ _
    (samples-are a.shape.counts a.starts.now a.numbers.now a.xs.now a.ys.now a.blocks.now a.shape.manifest a.ends.now (lent (goal.at.returns s).Start)
    ∙ ap (λ (x : ClipSet). stage_samples x (lent (goal.at.returns s).Start)) (lent-is (state (goal.at.returns s).Start) s.requires stands p.in_ok-check_samples.ensures refl))
    w.stage_samples.ensures
    (samples-passed (lent (goal.at.returns s).Start) (λ (x : ClipSet). room_number (min (length s.args.outtimes.now) (length s.args.outmarks.now)) (length (stage_samples x (lent (goal.at.returns s).Start)))) (λ (x : ClipSet). stage_samples x (lent (goal.at.returns s).Start)) (state (goal.at.returns s).Start) stands (sym (judged-number (state (goal.at.returns s).Start) p.in_ok-check_samples.ensures) ∙ refl))
