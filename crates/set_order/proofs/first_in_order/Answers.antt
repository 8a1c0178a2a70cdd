-- `set_order::first_in_order` meets its contract: no set before the place qualifies. Assumes nothing.
use Rattle.std.proofs.Common.{◌≡◌, sym, ap, ◌∙◌, ◌∷◌, ℕ, ◌+◌, ◌<◌, length, get_or, drop, arith}
use Rattle.laws.proofs.list.Every.{every-at}
use Rattle.dispatch.specs.NamedSets.{first_qualifying}
use Rattle.set_order.specs.Answered.{fit_in}
use Rattle.set_order.proofs.Ends.{front, no_front}
use Rattle.set_order.proofs.Order.{first-here, first-later, first-none}
use Rattle.set_order.proofs.first_in_order.Goals.{In-loop-place}
use Rattle.set_order.proofs.first_in_order.Goals as goal

-- the number at the place is that of a set
is_set : (c : In-loop-place) → get_or c.args.order.now c.loop-place.place 0 < length c.args.starts.now
is_set c = every-at (λ (k : ℕ). k < length c.args.starts.now) c.args.order.now c.loop-place.place 0 c.requires.fact_2 (omega arith)

-- it answers, or those behind it
on : (c : In-loop-place)
    → let a = c.args in let place = c.loop-place.place in first_qualifying (fit_in a.starts.now a.declares.now) 0 a.order.now ≡ first_qualifying (fit_in a.starts.now a.declares.now) place (get_or a.order.now place 0 ∷ drop (place + 1) a.order.now)
on c = let a = c.args in c.loop-place.invariant ∙ ap (first_qualifying (fit_in a.starts.now a.declares.now) c.loop-place.place) (front a.order.now c.loop-place.place (omega arith))

pub qualifies-requires-clause-fact_1 : goal.qualifies-requires-clause-fact_1
qualifies-requires-clause-fact_1 c = is_set (goal.at.qualifies-requires-clause-fact_1 c).In-loop-place

pub returns-then-qualifies : goal.returns-then-qualifies
returns-then-qualifies c =
    let at = (goal.at.returns-then-qualifies c).In-loop-place in
    sym (on at ∙ first-here _ _ _ _ _ c.requires.fact_1 (is_set at) (sym c.qualifies.ensures ∙ c.if-qualifies.true))

pub loop-place-preserved : goal.loop-place-preserved
loop-place-preserved c =
    let at = (goal.at.loop-place-preserved c).In-loop-place in
    on at ∙ first-later _ _ _ _ _ c.requires.fact_1 (is_set at) (sym c.qualifies.ensures ∙ c.if-qualifies.false)

pub returns : goal.returns
returns c =
    let a = c.args in
    let fits = fit_in a.starts.now a.declares.now in
    let place = c.loop-place.place in
    sym (c.loop-place.invariant ∙ ap (first_qualifying fits place) (no_front a.order.now place (omega arith)) ∙ first-none fits place)
