-- `set_order::listed::first_listed` meets its contract: the names before the index are passed, and those from it on answer for all. Assumes nothing.
use Rattle.std.proofs.Common.{◌<◌, length, sym, ◌∙◌, arith}
use Rattle.set_names.proofs.InPages.{names-long}
use Rattle.set_order.proofs.Ends.{end_after, end-within}
use Rattle.set_order.proofs.Mentions.{found_below}
use Rattle.set_order.proofs.Passed.{none_passed, unknown, again, answers, placed, nobody}
use Rattle.set_order.proofs.listed.first_listed.Goals.{In-Some}
use Rattle.set_order.proofs.listed.first_listed.Goals as goal

is_set : (c : In-Some) → c.in-Some.number < length c.args.starts.now
is_set c = let a = c.args in omega (arith, found_below _ _ c.in-Some.number c.in-Some.ensures, names-long a.names.now (length a.starts.now))

-- ---- the needs
pub loop-end-init : goal.loop-end-init
loop-end-init c = none_passed _ _ _ _ _ c.requires.fact_4

pub slice_bounds-find-count : goal.slice_bounds-find-count
slice_bounds-find-count c = let k = c.loop-end in end_after _ _ k.begin k.end-index k.invariant.walk (omega arith)

pub slice_bounds-find-start : goal.slice_bounds-find-start
slice_bounds-find-start c = let k = c.loop-end in end_after _ _ k.begin k.end-index k.invariant.walk (omega arith)

pub slice_bounds-find-end : goal.slice_bounds-find-end
slice_bounds-find-end c = let k = c.loop-end in end-within _ _ k.begin k.end-index k.invariant.walk (omega arith)

pub loop-end-preserved-in_default : goal.loop-end-preserved-in_default
loop-end-preserved-in_default c = let k = c.loop-end in unknown _ _ _ _ _ k.met k.place k.begin k.end-index k.invariant (omega arith) c.in_default.ensures

pub bounds-met-number : goal.bounds-met-number
bounds-met-number c = omega (arith, is_set c, c.requires.fact_2)

pub loop-end-preserved-then-met-number : goal.loop-end-preserved-then-met-number
loop-end-preserved-then-met-number c = let k = c.loop-end in again _ _ _ _ _ k.met k.place k.begin k.end-index k.invariant (omega arith) _ c.in-Some.ensures c.if-met-number.true

pub qualifies-requires-clause-fact_1 : goal.qualifies-requires-clause-fact_1
qualifies-requires-clause-fact_1 c = is_set (goal.at.qualifies-requires-clause-fact_1 c).In-Some

pub returns-then-qualifies : goal.returns-then-qualifies
returns-then-qualifies c =
    let k = c.loop-end in
    let below = is_set (goal.at.returns-then-qualifies c).In-Some in
    answers _ _ _ _ _ k.met k.place k.begin k.end-index k.invariant (omega arith) _ c.in-Some.ensures c.if-met-number.false c.requires.fact_2 c.requires.fact_3 below (sym c.qualifies.ensures ∙ c.if-qualifies.true)

pub bounds-met-number-in-loop-end : goal.bounds-met-number-in-loop-end
bounds-met-number-in-loop-end c = omega (arith, is_set (goal.at.bounds-met-number-in-loop-end c).In-Some, c.requires.fact_2)

pub loop-end-preserved : goal.loop-end-preserved
loop-end-preserved c =
    let k = c.loop-end in
    let below = is_set (goal.at.loop-end-preserved c).In-Some in
    placed _ _ _ _ _ k.met k.place k.begin k.end-index k.invariant (omega arith) _ c.in-Some.ensures c.if-met-number.false c.requires.fact_2 c.requires.fact_3 below (sym c.qualifies.ensures ∙ c.if-qualifies.false)

pub returns : goal.returns
returns c = let k = c.loop-end in nobody _ _ _ _ _ k.met k.place k.begin k.end-index k.invariant (omega arith)
