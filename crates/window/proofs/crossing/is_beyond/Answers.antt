-- `window::crossing::is_beyond` meets its contract. Assumes nothing.
use mathlib.Core.Path.{ap}
use lib.Ieee.{Float, lt, le}
use Rattle.window.specs.nearest.Crossings.{is_beyond}
use Rattle.window.proofs.crossing.is_beyond.Goals as goal

pub returns-then-cb-c : goal.returns-then-cb-c
unfolding is_beyond
returns-then-cb-c c = rw (c.if-ca-cb.true, c.if-cb-c.true)

pub returns-then-c-ca : goal.returns-then-c-ca
unfolding is_beyond
returns-then-c-ca c = rw (c.if-ca-cb.true, c.if-cb-c.false, c.if-c-ca.true)

pub returns-then-ca-cb : goal.returns-then-ca-cb
unfolding is_beyond
returns-then-ca-cb c = rw (c.if-ca-cb.true, c.if-cb-c.false, c.if-c-ca.false) (ap (lt c.args.t) c.inverse.ensures)

pub returns-then-ca-c : goal.returns-then-ca-c
unfolding is_beyond
returns-then-ca-c c = rw (c.if-ca-cb.false, c.if-ca-c.true)

pub returns-then-c-cb : goal.returns-then-c-cb
unfolding is_beyond
returns-then-c-cb c = rw (c.if-ca-cb.false, c.if-ca-c.false, c.if-c-cb.true)

pub returns : goal.returns
unfolding is_beyond
returns c = rw (c.if-ca-cb.false, c.if-ca-c.false, c.if-c-cb.false) (ap (λ (x : Float). le x c.args.t) c.inverse-2.ensures)
