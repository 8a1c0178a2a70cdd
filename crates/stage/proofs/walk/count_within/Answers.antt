-- `stage::walk::count_within` meets its contract: the times that were counted and those above the last one are all, and each has a key of its own. Assumes nothing.
use Rattle.std.specs.Prelude.{Option}
use Prim.Native.Nat.{ℕ, ◌+◌, ◌≤◌}
use mathlib.Core.Path.{◌≡◌, ap}
use mathlib.Core.List.{List}
use native.Mathlib.Omega.{arith}
use lib.ListN.{length}
use lib.Ieee.{Float, of_bits, neg}
use Rattle.gf.specs.Doubles.{key}
use Rattle.gf.proofs.KeyLaws.{finite→key}
use Rattle.stage.specs.Times.{times_of, times_after, NextTime}
use Rattle.stage.proofs.Times.{before_all, before-finite, times-all}
use Rattle.stage.proofs.Ordered.{after-rises}
use Rattle.stage.proofs.Writing.{count-done, count-over, count-on}
use Rattle.stage.proofs.walk.count_within.Goals.{After-next_time-next, Start as At-start}
use Rattle.stage.proofs.walk.count_within.Goals as goal

-- all stage sample times, and those above t
abbrev all : At-start → List Float
all s = times_of s.args.starts.now s.args.clips.now s.args.xs.now s.args.ys.now s.args.times.now s.args.ends.now

abbrev above : At-start → Float → List Float
above s t = times_after s.args.starts.now s.args.clips.now s.args.xs.now s.args.ys.now s.args.times.now s.args.ends.now t

from-none : (k : ℕ) → 0 + k ≤ k
from-none k = omega arith

pub loop-h-init : goal.loop-h-init
unfolding of_bits neg
loop-h-init c = let R = c.requires.fact_1 in (before-finite, omega arith, omega (arith, ap length (times-all R)), from-none (key before_all))

-- what the next time is
next-is : (k : After-next_time-next) (b : Option Float) → k.next_time-next.result.time ≡ b → NextTime k.args.starts.now k.args.clips.now k.args.xs.now k.args.ys.now k.args.times.now k.args.ends.now k.loop-h.t b
next-is k b e = rw e at k.next_time-next.ensures

pub next_time-next-requires : goal.next_time-next-requires
next_time-next-requires c = record { fact_1 = c.requires.fact_1; fact_2 = c.requires.fact_2; fact_3 = c.loop-h.invariant.0.finitely }

pub returns-in_default : goal.returns-in_default
returns-in_default c =
    let n = next-is (goal.at.returns-in_default c).After-next_time-next _ c.in_default.is in
    count-done (all (goal.at.returns-in_default c).Start) (above (goal.at.returns-in_default c).Start c.loop-h.t) c.loop-h.count c.args.room c.loop-h.invariant.2 c.loop-h.invariant.1 n

pub overflow_add-count : goal.overflow_add-count
overflow_add-count c =
    let i = c.loop-h.invariant in
    omega (arith, i.3, (finite→key _ i.0.fitting i.0.finitely).1)

pub returns-then-room-count : goal.returns-then-room-count
returns-then-room-count c =
    let n = next-is (goal.at.returns-then-room-count c).After-next_time-next _ c.in-Some.is in
    count-over (all (goal.at.returns-then-room-count c).Start) (above (goal.at.returns-then-room-count c).Start c.loop-h.t) c.loop-h.count c.args.room c.loop-h.invariant.2 c.in-Some.h _ c.loop-h.invariant.1 c.if-room-count.true n.1

pub loop-h-smaller : goal.loop-h-smaller
loop-h-smaller c = omega (arith, c.loop-h.invariant.1, c.if-room-count.false)

pub loop-h-preserved : goal.loop-h-preserved
loop-h-preserved c =
    let i = c.loop-h.invariant in
    let n = next-is (goal.at.loop-h-preserved c).After-next_time-next _ c.in-Some.is in
    let r = after-rises _ c.loop-h.t c.in-Some.h _ i.0 n.0 n.1 in
    (n.0, omega (arith, i.1, c.if-room-count.false), count-on (all (goal.at.loop-h-preserved c).Start) (above (goal.at.loop-h-preserved c).Start c.loop-h.t) c.loop-h.count c.args.room i.2 c.in-Some.h _ n.1, omega (arith, i.3))
