-- `stage::walk::write_times` meets its contract: the times that were written and those above the last one are all. Assumes nothing.
use Rattle.std.specs.Prelude.{Float, Option}
use Prim.Native.Nat.{◌<◌}
use mathlib.Core.Path.{◌≡◌, sym}
use mathlib.Core.List.{◌∷◌}
use native.Mathlib.Omega.{arith}
use lib.ListN.{length}
use lib.Ieee.{of_bits, neg}
use Rattle.stage.specs.Times.{times_of, times_after, NextTime}
use Rattle.stage.proofs.Times.{before-finite, times-all}
use Rattle.stage.proofs.Writing.{Wrote, wrote-start, wrote-room, wrote_on, wrote-end, wrote-rest}
use Rattle.stage.proofs.walk.write_times.Goals.{After-next_time-next, In-Some}
use Rattle.stage.proofs.walk.write_times.Goals as goal

pub loop-h-init : goal.loop-h-init
unfolding of_bits neg
loop-h-init c =
    (before-finite, wrote-rest _ _ _ 0 _ _ (sym (times-all c.requires.accepted_times_1)) (wrote-start _ _))

-- what the next time is
next-is : (k : After-next_time-next) (b : Option Float) → k.next_time-next.result.time ≡ b → NextTime k.args.starts.now k.args.clips.now k.args.xs.now k.args.ys.now k.args.times.now k.args.ends.now k.loop-h.t b
next-is k b e = rw e at k.next_time-next.ensures

pub next_time-next-requires : goal.next_time-next-requires
next_time-next-requires c = record { fact_1 = c.requires.accepted_times_1; fact_2 = c.requires.accepted_times_2; fact_3 = c.loop-h.invariant.0.finitely }

pub shape_of-out-in_default : goal.shape_of-out-in_default
shape_of-out-in_default c = c.loop-h.invariant.1.long

pub returns-in_default : goal.returns-in_default
returns-in_default c =
    wrote-end _ _ c.loop-h.out c.loop-h.count (wrote-rest _ _ _ _ _ _ (next-is (goal.at.returns-in_default c).After-next_time-next _ c.in_default.is) c.loop-h.invariant.1)

-- with the next time in front of what is left
left : (c : In-Some) → let h = c.in-Some.h in
    Wrote (times_of c.args.starts.now c.args.clips.now c.args.xs.now c.args.ys.now c.args.times.now c.args.ends.now) (h ∷ times_after c.args.starts.now c.args.clips.now c.args.xs.now c.args.ys.now c.args.times.now c.args.ends.now h)
    c.args.out.now c.loop-h.out c.loop-h.count
left c =
    wrote-rest _ _ _ _ _ _ (next-is (goal.at.In-Some c).After-next_time-next _ c.in-Some.is).1 c.loop-h.invariant.1

room : (c : In-Some) → c.loop-h.count < length c.loop-h.out
room c = wrote-room _ _ c.loop-h.out c.loop-h.count _ _ (left c) c.requires.ends_in_bounds

pub offset_bounds-out-count : goal.offset_bounds-out-count
offset_bounds-out-count c =
    omega (arith, room c, c.loop-h.invariant.1.long, c.well_formed.1.1.1.1.1.1.1.0)

pub bounds-out-count : goal.bounds-out-count
bounds-out-count c = room c

pub overflow_add-count : goal.overflow_add-count
overflow_add-count c =
    omega (arith, room c, c.loop-h.invariant.1.long, c.well_formed.1.1.1.1.1.1.1.0)

pub loop-h-smaller : goal.loop-h-smaller
loop-h-smaller c = let h = room c in let e = c.loop-h.invariant.1.long in omega arith

pub loop-h-preserved : goal.loop-h-preserved
loop-h-preserved c =
    ((next-is (goal.at.loop-h-preserved c).After-next_time-next _ c.in-Some.is).0, wrote_on _ _ c.loop-h.out c.loop-h.count _ _ (left c) (room c))
