-- `set_questions::bake` meets its contract: the order list's number, the samples', else the track of the set that answers. Assumes nothing.
use mathlib.Core.Path.{◌≡◌, sym, subst}
use Rattle.std.specs.Prelude.{Ok, Err}
use Rattle.track.specs.declared.bake.Baked.{Baked}
use Rattle.set_questions.specs.declared.Placed.{Placed}
use mathlib.Core.Option.{Option}
use Rattle.definitions.specs.Track.{Outputs}
use Rattle.definitions.specs.Moments.{outputs}
use Rattle.std.proofs.lemmas.Result.{err_from_is_err_and}
use Rattle.dispatch.specs.SetOrder.{OrderList, order_number}
use Rattle.dispatch.specs.SetSamples.{SetSamples}
use Rattle.set_samples.specs.Parting.{lent_samples}
use Rattle.pages.specs.Pages.{Pages, pages}
use Rattle.set_questions.specs.Asking.{order_of, bake_arguments, BakesTrack}
use Rattle.set_questions.proofs.Asked.{then-none, clip-counts, names-sorted}
use Rattle.set_questions.proofs.AskedAnswers.{asks, answers-below, bakes-number, bakes-set, bakes-nobody}
use Rattle.set_questions.proofs.bake.Goals.{In_ok-check_question, Start as At-start}
use Rattle.set_questions.proofs.bake.Goals as goal

abbrev sets : At-start → Pages
sets s = let a = s.args in pages a.starts.now a.numbers.now a.xs.now a.ys.now a.blocks.now a.defaults.now a.counts.now a.bytes.now

abbrev order : At-start → Option OrderList
order s = order_of s.args.given s.args.listed.now s.args.nameends.now

abbrev lent : At-start → SetSamples
lent s = lent_samples s.args.lens.now s.args.ends.now s.args.times.now s.args.values.now s.args.marks.now

abbrev before : At-start → Outputs
before s = outputs s.args.outtimes.now s.args.outvalues.now s.args.outmarks.now

pub check_question-requires : goal.check_question-requires
check_question-requires c =
    let s = c in
    clip-counts (sets (goal.at.check_question-requires s).Start) s.requires

passed : (c : In_ok-check_question) → asks (sets (goal.at.In_ok-check_question c).Start) (order (goal.at.In_ok-check_question c).Start) (lent (goal.at.In_ok-check_question c).Start) ≡ 0
passed c = sym c.in_ok-check_question.ensures

pub returns-in_err-check_question : goal.returns-in_err-check_question
returns-in_err-check_question c =
    let s = (goal.at.returns-in_err-check_question c).Start in
    let p = err_from_is_err_and c.from_residual.result c.from_residual.ensures.1 in
    rw (p.1, p.2)
    (bakes-number (sets s) c.requires (order s) (lent s) _ c.in_err-check_question.ensures (before s))

pub answering-requires : goal.answering-requires
answering-requires c =
    let s = c in
    record { fact_1 = names-sorted (sets (goal.at.answering-requires s).Start) s.requires; fact_2 = (then-none (order_number (order (goal.at.answering-requires s).Start)) _ (passed c)).0 }

pub bake_own-requires : goal.bake_own-requires
bake_own-requires c =
    let s = (goal.at.bake_own-requires c).Start in record {
      fact_1 = c.requires;
      fact_2 = answers-below (sets s) c.requires (order s) c.in-Some.set c.in-Some.ensures;
      fact_3 = (then-none (order_number (order s)) _ (passed (goal.at.bake_own-requires c).In_ok-check_question)).1;
    }

pub returns-in_err-answer-in-Some : goal.returns-in_err-answer-in-Some
returns-in_err-answer-in-Some c =
    let s = (goal.at.returns-in_err-answer-in-Some c).Start in
    let p = err_from_is_err_and c.from_residual-in_err-answer-in-Some.result c.from_residual-in_err-answer-in-Some.ensures.1 in
    rw (p.1, p.2)
    (bakes-set (sets s) c.requires (order s) (lent s) (passed (goal.at.returns-in_err-answer-in-Some c).In_ok-check_question)
    c.in-Some.set c.in-Some.ensures _ _ (Err _) c.in_err-answer-in-Some.ensures)

pub returns-in_ok-answer-in-Some : goal.returns-in_ok-answer-in-Some
returns-in_ok-answer-in-Some c =
    let s = (goal.at.returns-in_ok-answer-in-Some c).Start in
    bakes-set (sets s) c.requires (order s) (lent s) (passed (goal.at.returns-in_ok-answer-in-Some c).In_ok-check_question)
    c.in-Some.set c.in-Some.ensures _ _ (Ok _) c.in_ok-answer-in-Some.ensures

pub returns-in-None : goal.returns-in-None
returns-in-None c =
    let s = (goal.at.returns-in-None c).Start in
    let z = passed (goal.at.returns-in-None c).In_ok-check_question in
    subst (λ (x : Placed Baked). BakesTrack (sets s) (bake_arguments (order s) (lent s)) (before s) (Ok x) (before s)) (sym c.no_track.ensures)
    (bakes-nobody (sets s) c.requires (order s) (lent s) z c.in-None.ensures (before s))
