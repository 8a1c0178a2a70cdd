-- `stage::stage_samples` meets its contract: the times are counted, then written, then the marks at them. Assumes nothing.
use Prim.Native.Nat.{◌≤◌, min}
use native.Mathlib.Nat.{min-le_left, min-le_right, le_trans}
use mathlib.Core.Path.{◌≡◌, refl, sym, ap, ◌∙◌}
use mathlib.Core.List.{List}
use native.Mathlib.Omega.{arith}
use lib.ListN.{length}
use lib.Seq.{length-take-le}
use lib.Ieee.{Float}
use Rattle.definitions.specs.ClipSet.{ClipSet}
use Rattle.definitions.specs.Samples.{Samples}
use Rattle.laws.specs.cell.Lent.{samples_of}
use Rattle.stage.specs.Times.{times_of}
use Rattle.stage.specs.Marks.{unblocked}
use Rattle.stage.proofs.Accepted.{accepted-times, stage-times}
use Rattle.stage.proofs.Writing.{length-written}
use Rattle.stage.proofs.Samples.{samples-written, samples-none}
use borrow.Author.Rules.{rules}
use Rattle.stage.proofs.stage_samples.Goals.{After-write_times-count, Start as At-start, Then-counted-room}
use Rattle.stage.proofs.stage_samples.Goals as goal

abbrev set : At-start → ClipSet
set s = unblocked s.args.starts.now s.args.clips.now s.args.xs.now s.args.ys.now s.args.m s.args.ends.now

abbrev lent : At-start → Samples
lent s = samples_of s.args.times.now s.args.values.now s.args.marks.now s.args.ends.now

abbrev all : At-start → List Float
all s = times_of s.args.starts.now s.args.clips.now s.args.xs.now s.args.ys.now s.args.times.now s.args.ends.now

-- the shorter list has room for all
room : (c : Then-counted-room) → length (all (goal.at.Then-counted-room c).Start) ≤ min (length c.args.outtimes.now) (length c.args.outmarks.now)
room c =
    let h = c.if-counted-room.true in
    omega arith

times-room : (c : Then-counted-room) → length (all (goal.at.Then-counted-room c).Start) ≤ length c.args.outtimes.now
times-room c = le_trans (room c) (min-le_left (length c.args.outtimes.now) (length c.args.outmarks.now))

marks-room : (c : Then-counted-room) → length (all (goal.at.Then-counted-room c).Start) ≤ length c.args.outmarks.now
marks-room c = le_trans (room c) (min-le_right (length c.args.outtimes.now) (length c.args.outmarks.now))

pub latest_inverses-reach-requires : goal.latest_inverses-reach-requires
latest_inverses-reach-requires c =
    let A = accepted-times c.requires in
    record { fact_1 = A.windows.readable.paired; fact_2 = A.few; fact_3 = A.windows.readable.segments }

pub count_within-counted-requires : goal.count_within-counted-requires
count_within-counted-requires c = search (rules, accepted-times)

pub write_times-count-requires : goal.write_times-count-requires
write_times-count-requires c =
    record { accepted_times_1 = accepted-times c.requires; accepted_times_2 = c.latest_inverses-reach.ensures; ends_in_bounds = times-room (goal.at.write_times-count-requires c).Then-counted-room }

times_long : (w : After-write_times-count) → length w.write_times-count.new.out ≡ length w.args.outtimes.now
times_long w = ap length w.write_times-count.ensures.1 ∙ length-written (all (goal.at.After-write_times-count w).Start) w.args.outtimes.now (times-room (goal.at.After-write_times-count w).Then-counted-room)

count_room : (w : After-write_times-count) → w.write_times-count.result ≤ length w.write_times-count.new.out
count_room w = omega (arith, times_long w, times-room (goal.at.After-write_times-count w).Then-counted-room, w.write_times-count.ensures.0)

pub slice_bounds-write_marks-end : goal.slice_bounds-write_marks-end
slice_bounds-write_marks-end c = count_room (goal.at.slice_bounds-write_marks-end c).After-write_times-count

pub slice_bounds-write_marks-end-then-counted-room : goal.slice_bounds-write_marks-end-then-counted-room
slice_bounds-write_marks-end-then-counted-room c = sym (length-take-le c.write_times-count.result c.write_times-count.new.out (count_room (goal.at.slice_bounds-write_marks-end-then-counted-room c).After-write_times-count))

pub write_marks-requires : goal.write_marks-requires
write_marks-requires c =
    record { fact_1 = c.requires; fact_2 = omega (arith, length-take-le c.write_times-count.result c.write_times-count.new.out (count_room (goal.at.write_marks-requires c).After-write_times-count), marks-room (goal.at.write_marks-requires c).Then-counted-room, c.write_times-count.ensures.0) }

pub returns-then-counted-room : goal.returns-then-counted-room
returns-then-counted-room c =
    samples-written (set (goal.at.returns-then-counted-room c).Start) (lent (goal.at.returns-then-counted-room c).Start) (all (goal.at.returns-then-counted-room c).Start) (stage-times c.requires) c.args.outtimes.now c.write_times-count.new.out c.args.outmarks.now _ c.write_times-count.result c.write_times-count.ensures.0 (room (goal.at.returns-then-counted-room c).Then-counted-room) c.write_times-count.ensures.1 c.write_marks.ensures

pub returns : goal.returns
returns c =
    let h = c.if-counted-room.false in
    samples-none (set (goal.at.returns c).Start) (lent (goal.at.returns c).Start) (all (goal.at.returns c).Start) (stage-times c.requires) c.args.outtimes.now c.args.outtimes.now c.args.outmarks.now c.args.outmarks.now
    (omega arith) refl refl
