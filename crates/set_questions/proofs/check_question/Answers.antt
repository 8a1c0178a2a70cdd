-- `set_questions::check_question` meets its contract: the order list's number before the samples'. Assumes nothing.
use Prim.Native.Nat.{ℕ}
use mathlib.Core.Path.{◌≡◌, sym, ap, ◌∙◌, subst}
use mathlib.Core.List.{List}
use lib.ListN.{get_or}
use Rattle.std.proofs.lemmas.Result.{err_from_is_err_and}
use Rattle.definitions.proofs.Refused.{not-zero}
use Rattle.dispatch.specs.SetOrder.{order_number}
use Rattle.dispatch.specs.SetSamples.{SetSamples, set_samples_number}
use Rattle.set_samples.specs.Parting.{lent_samples, FewClips}
use Rattle.set_questions.specs.Asking.{order_of}
use Rattle.pages.proofs.Parts.{part-to}
use Rattle.set_questions.proofs.Asked.{then-first, then_next, listed-number, unlisted-number}
use Rattle.set_questions.proofs.check_question.Goals.{Joined-given, Start as At-start, else-given, then-given+in_ok-check_order}
use Rattle.set_questions.proofs.check_question.Goals as goal

abbrev asked : At-start → ℕ
asked s = order_number (order_of s.args.given s.args.listed.now s.args.nameends.now)

abbrev lent : At-start → SetSamples
lent s = lent_samples s.args.lens.now s.args.ends.now s.args.times.now s.args.values.now s.args.marks.now

pub returns-in_err-check_order : goal.returns-in_err-check_order
returns-in_err-check_order c =
    let p = err_from_is_err_and c.from_residual.result c.from_residual.ensures.1 in
    rw (p.1, p.2)
    (then-first _ (asked (goal.at.returns-in_err-check_order c).Start) _ (listed-number c.args.given _ _ _ c.if-given.true c.in_err-check_order.ensures) (not-zero _))

pub check_samples-requires : goal.check_samples-requires
check_samples-requires c =
    let s = c in
    let l = s.args.counts.now in
    subst FewClips (sym (part-to 1 (get_or l 0 0) l)) s.requires.few

-- no number of an order list came before
passed : (c : Joined-given) → asked (goal.at.Joined-given c).Start ≡ 0
passed c =
    let s = c in
    elim c.if-given.branch [
      | then-given+in_ok-check_order w ↦ sym (listed-number s.args.given _ _ _ w.if-given.true w.in_ok-check_order.ensures)
      | else-given w ↦ unlisted-number s.args.given _ _ w.if-given.false
    ]

pub returns : goal.returns
returns c =
    let j = c in
    let s = j in
    let l = s.args.counts.now in
    then_next _ (asked (goal.at.returns s).Start) _ (passed (goal.at.returns j).Joined-given) (c.check_samples.ensures ∙ ap (λ (x : List ℕ). set_samples_number x (lent (goal.at.returns s).Start)) (part-to 1 (get_or l 0 0) l))
