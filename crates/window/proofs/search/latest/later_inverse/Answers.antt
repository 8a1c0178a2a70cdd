-- `window::search::latest::later_inverse` meets its contract. Assumes nothing.
use mathlib.Core.Path.{subst}
use mathlib.Core.Bool.{not}
use lib.Dec.{T}
use lib.Ieee.{Float, binary64, fits, is_nan, le}
use borrow.Author.Rules.{rules}
use Rattle.window.proofs.search.LatestLaws.{top-flat, last-number, top-over}
use Rattle.window.proofs.search.latest.later_inverse.Goals.{After-max}
use Rattle.window.proofs.search.latest.later_inverse.Goals as goal

held : (c : After-max) → T (fits binary64 c.max.result)
held c = search rules

pub returns-then-s : goal.returns-then-s
returns-then-s c = let a = c.args in top-flat (a.s.a, a.s.b) c.requires.fact_1 a.top c.requires.fact_2 c.if-s.true

pub returns : goal.returns
returns c =
    let a = c.args in
    let n = last-number (a.s.a, a.s.b) c.requires.fact_1 a.top c.requires.fact_2 c.if-s.false in
    let last = subst (λ (x : Float). T (not (is_nan x)) → T (le x c.max.result)) c.stage_time.ensures c.max.ensures.other_bound n.1 in
    top-over (a.s.a, a.s.b) c.requires.fact_1 a.top c.requires.fact_2 c.max.result (held (goal.at.returns c).After-max) (c.max.ensures.self_bound c.requires.fact_2.1) last
