-- `window::nearest::near_crossing` meets its contract. Assumes nothing.
use native.Mathlib.Omega.{arith}
use Rattle.window.proofs.nearest.CrossingLaws.{before_here, before-none, turn-searched}
use Rattle.window.proofs.nearest.near_crossing.Goals as goal

pub returns-then-n-eq0 : goal.returns-then-n-eq0
returns-then-n-eq0 c =
    let a = c.args in
    turn-searched a.t a.w c.requires.fact_3 (a.s.a, a.s.b) c.requires.fact_1 a.cs.now c.requires.fact_2 a.n c.requires.fact_4
    (before-none a.t a.w a.known a.cs.now (a.s.a, a.s.b) a.n c.if-n-eq0.true) c.near_sample.ensures

pub returns : goal.returns
returns c =
    let a = c.args in
    turn-searched a.t a.w c.requires.fact_3 (a.s.a, a.s.b) c.requires.fact_1 a.cs.now c.requires.fact_2 a.n c.requires.fact_4
    (before_here a.t a.w a.known a.cs.now (a.s.a, a.s.b) a.n (omega arith) c.near_sample-before.ensures) c.near_sample-2.ensures
