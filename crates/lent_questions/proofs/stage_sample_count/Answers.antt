-- `lent_questions::stage_sample_count` meets its contract: 20, the samples' number, else the count. Assumes nothing.
use Prim.Native.Nat.{ℕ}
use mathlib.Core.Path.{refl, sym, ap, ◌∙◌}
use lib.ListN.{length}
use Rattle.std.proofs.lemmas.Result.{err_from_is_err_and}
use Rattle.definitions.proofs.Refused.{not-zero}
use borrow.Author.Tests.{not-true, not-false}
use Rattle.definitions.specs.ClipSet.{ClipSet}
use Rattle.definitions.specs.Samples.{Samples}
use Rattle.laws.specs.cell.Lent.{samples_of}
use Rattle.definitions.specs.StageSamples.{stage_sample_times}
use Rattle.definitions.specs.Questions.{replied, ask_stage_sample_count}
use Rattle.standing.proofs.Asked.{times-asked, times-are}
use Rattle.resolver.specs.declared.Resolver.{Resolver}
use Rattle.resolver.specs.State.{lent_state}
use Rattle.resolver.proofs.Laws.{asked-20, judged-number, plainly-refused, plainly-replied, lent-is, is-asked}
use Rattle.lent_questions.proofs.stage_sample_count.Goals.{Start as At-start}
use Rattle.lent_questions.proofs.stage_sample_count.Goals as goal

abbrev state : At-start → Resolver
state s = let a = s.args in lent_state a.shape a.starts.now a.numbers.now a.xs.now a.ys.now a.blocks.now

abbrev lent : At-start → Samples
lent s = samples_of s.args.times.now s.args.values.now s.args.marks.now s.args.ends.now

-- the count in a set
abbrev many : At-start → ClipSet → ℕ
many s set = length (stage_sample_times set (lent s))

pub returns-then-not-shape : goal.returns-then-not-shape
unfolding ask_stage_sample_count
returns-then-not-shape c = asked-20 _ (state (goal.at.returns-then-not-shape c).Start) (not-true _ c.if-not-shape.true)

pub returns-in_err-check_samples : goal.returns-in_err-check_samples
unfolding ask_stage_sample_count
returns-in_err-check_samples c =
    let p = err_from_is_err_and c.from_residual.result c.from_residual.ensures.1 in
    rw (p.1, p.2)
    ((plainly-refused (lent (goal.at.returns-in_err-check_samples c).Start) (many (goal.at.returns-in_err-check_samples c).Start) (state (goal.at.returns-in_err-check_samples c).Start) (not-false _ c.if-not-shape.false) _ (judged-number (state (goal.at.returns-in_err-check_samples c).Start) c.in_err-check_samples.ensures) (not-zero _)))

pub stage_sample_count-requires : goal.stage_sample_count-requires
stage_sample_count-requires c =
    let s = c in
    times-asked (is-asked (state (goal.at.stage_sample_count-requires s).Start) s.requires (not-false _ c.if-not-shape.false) c.in_ok-check_samples.ensures refl)

pub returns : goal.returns
unfolding ask_stage_sample_count
returns c =
    let p = c in
    let s = p in
    let stands = not-false _ p.if-not-shape.false in
    ap replied
    (c.stage_sample_count.ensures
    ∙ ap length (times-are (is-asked (state (goal.at.returns s).Start) s.requires stands p.in_ok-check_samples.ensures refl))
    ∙ ap (many (goal.at.returns s).Start) (lent-is (state (goal.at.returns s).Start) s.requires stands p.in_ok-check_samples.ensures refl))
    ∙ plainly-replied (lent (goal.at.returns s).Start) (many (goal.at.returns s).Start) (state (goal.at.returns s).Start) stands (sym (judged-number (state (goal.at.returns s).Start) p.in_ok-check_samples.ensures) ∙ refl)
