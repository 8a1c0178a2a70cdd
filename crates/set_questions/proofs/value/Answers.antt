-- `set_questions::value` meets its contract: the order list's number, the samples', 10, else the value of the set that answers. Assumes nothing.
use mathlib.Core.Path.{◌≡◌, sym, ap, ◌∙◌, subst}
use Rattle.std.specs.Prelude.{Ok}
use Rattle.definitions.specs.declared.ValueRead.{ValueRead}
use Rattle.set_questions.specs.declared.Placed.{Placed}
use mathlib.Core.Option.{Option}
use mathlib.Core.Bool.{true}
use lib.Dec.{T}
use lib.Ieee.Scale.{finite}
use Rattle.std.proofs.lemmas.Result.{err_from_is_err_and}
use Rattle.definitions.proofs.Refused.{not-zero}
use Rattle.dispatch.specs.SetOrder.{OrderList, order_number}
use Rattle.dispatch.specs.SetSamples.{SetSamples}
use Rattle.set_samples.specs.Parting.{lent_samples}
use Rattle.pages.specs.Pages.{Pages, pages}
use Rattle.set_questions.specs.Asking.{order_of, read_reply}
use Rattle.set_questions.proofs.Asked.{then-none, clip-counts, names-sorted}
use Rattle.set_questions.proofs.AskedAnswers.{asks, answers-below, tells-number, tells-10, tells-set, tells-nobody}
use Rattle.set_questions.proofs.value.Goals.{Else-not-is_finite, In_ok-check_question, Start as At-start}
use Rattle.set_questions.proofs.value.Goals as goal

abbrev sets : At-start → Pages
sets s = let a = s.args in pages a.starts.now a.numbers.now a.xs.now a.ys.now a.blocks.now a.defaults.now a.counts.now a.bytes.now

abbrev order : At-start → Option OrderList
order s = order_of s.args.given s.args.listed.now s.args.nameends.now

abbrev lent : At-start → SetSamples
lent s = lent_samples s.args.lens.now s.args.ends.now s.args.times.now s.args.values.now s.args.marks.now

pub check_question-requires : goal.check_question-requires
check_question-requires c =
    let s = c in
    clip-counts (sets (goal.at.check_question-requires s).Start) s.requires

passed : (c : In_ok-check_question) → asks (sets (goal.at.In_ok-check_question c).Start) (order (goal.at.In_ok-check_question c).Start) (lent (goal.at.In_ok-check_question c).Start) ≡ 0
passed c = sym c.in_ok-check_question.ensures

pub returns-in_err-check_question : goal.returns-in_err-check_question
returns-in_err-check_question c =
    let s = (goal.at.returns-in_err-check_question c).Start in
    let p = err_from_is_err_and c.from_residual.result c.from_residual.ensures.1 in
    rw (p.1, p.2)
    (tells-number (sets s) c.requires (order s) (lent s) c.args.t _ c.in_err-check_question.ensures (not-zero _))

pub returns-then-not-is_finite : goal.returns-then-not-is_finite
returns-then-not-is_finite c =
    let l = c in
    let s = l in
    tells-10 (sets (goal.at.returns-then-not-is_finite s).Start) s.requires (order (goal.at.returns-then-not-is_finite s).Start) (lent (goal.at.returns-then-not-is_finite s).Start) s.args.t (passed (goal.at.returns-then-not-is_finite l).In_ok-check_question) (sym c.is_finite.ensures ∙ c.if-not-is_finite.true)

pub answering-requires : goal.answering-requires
answering-requires c =
    let l = c in
    let s = l in
    record { fact_1 = names-sorted (sets (goal.at.answering-requires s).Start) s.requires; fact_2 = (then-none (order_number (order (goal.at.answering-requires s).Start)) _ (passed (goal.at.answering-requires l).In_ok-check_question)).0 }

finitely : (c : Else-not-is_finite) → finite c.args.t.0 ≡ true
finitely c = sym c.is_finite.ensures ∙ c.if-not-is_finite.false

pub read_own-answer-requires : goal.read_own-answer-requires
read_own-answer-requires c =
    let s = (goal.at.read_own-answer-requires c).Start in record {
      fact_1 = c.requires;
      fact_2 = answers-below (sets s) c.requires (order s) c.in-Some.set c.in-Some.ensures;
      fact_3 = (then-none (order_number (order s)) _ (passed (goal.at.read_own-answer-requires c).In_ok-check_question)).1;
      fact_4 = subst T (sym (finitely (goal.at.read_own-answer-requires c).Else-not-is_finite)) tt;
    }

pub returns-in-Some : goal.returns-in-Some
returns-in-Some c =
    let s = (goal.at.returns-in-Some c).Start in
    tells-set (sets s) c.requires (order s) (lent s) c.args.t (passed (goal.at.returns-in-Some c).In_ok-check_question) (finitely (goal.at.returns-in-Some c).Else-not-is_finite)
    c.in-Some.set c.in-Some.ensures c.read_own-answer.result c.read_own-answer.ensures

pub returns-in-None : goal.returns-in-None
returns-in-None c =
    let s = (goal.at.returns-in-None c).Start in
    ap (λ (x : Placed ValueRead). read_reply (Ok x)) c.nobody_reads.ensures
    ∙ tells-nobody (sets s) c.requires (order s) (lent s) c.args.t (passed (goal.at.returns-in-None c).In_ok-check_question) (finitely (goal.at.returns-in-None c).Else-not-is_finite) c.in-None.ensures
