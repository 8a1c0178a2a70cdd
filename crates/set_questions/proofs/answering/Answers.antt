-- `set_questions::answering` meets its contract: the parts that it lends are the sets' starts, whether they declare, and their numbers by name. Assumes nothing.
use mathlib.Core.Path.{sym, ap, ◌∙◌}
use mathlib.Core.Bool.{Bool}
use Rattle.dispatch.specs.SetOrder.{order_number}
use Rattle.set_questions.specs.Asking.{order_of}
use Rattle.set_questions.proofs.Asked.{as_many, names-paged, few-sets, in-order-below, answers-listed, answers-unlisted}
use Rattle.set_questions.proofs.answering.Goals as goal

pub first_listed-requires : goal.first_listed-requires
first_listed-requires c =
    let t = c in
    let s = t in
    let C = s.args.counts.now in
    let B = s.args.bytes.now in
    let S = s.requires.fact_1 in
    let z = ap (λ (b : Bool). order_number (order_of b s.args.listed.now s.args.nameends.now)) (sym t.if-given.true) ∙ s.requires.fact_2 in
    record { fact_1 = names-paged C B S; fact_2 = few-sets C B S; fact_3 = as_many C B S; fact_4 = z }

pub returns-then-given : goal.returns-then-given
returns-then-given c =
    let t = c in
    let s = t in
    answers-listed s.args.counts.now s.args.bytes.now s.requires.fact_1 s.args.given s.args.listed.now s.args.nameends.now c.first_listed.result t.if-given.true c.first_listed.ensures

pub first_in_order-requires : goal.first_in_order-requires
first_in_order-requires c =
    let s = c in
    record { fact_1 = as_many s.args.counts.now s.args.bytes.now s.requires.fact_1; fact_2 = in-order-below s.args.counts.now s.args.bytes.now s.requires.fact_1 }

pub returns : goal.returns
returns c =
    let t = c in
    let s = t in
    answers-unlisted s.args.counts.now s.args.bytes.now s.requires.fact_1 s.args.given s.args.listed.now s.args.nameends.now c.first_in_order.result t.if-given.false c.first_in_order.ensures
