-- `stage::stage_sample_times` meets its contract: the times are counted before any is written. Assumes nothing.
use mathlib.Core.Path.{refl}
use mathlib.Core.List.{List}
use lib.Ieee.{Float}
use lib.ListN.{length}
use Prim.Native.Nat.{◌≤◌}
use native.Mathlib.Omega.{arith}
use Rattle.stage.specs.Times.{times_of}
use Rattle.stage.proofs.stage_sample_times.Goals.{Start as At-start, Then-counted-room}
use Rattle.stage.proofs.stage_sample_times.Goals as goal

pub latest_inverses-reach-requires : goal.latest_inverses-reach-requires
latest_inverses-reach-requires c =
    record { fact_1 = c.requires.windows.readable.paired; fact_2 = c.requires.few; fact_3 = c.requires.windows.readable.segments }

-- all stage sample times
abbrev all : At-start → List Float
all s = times_of s.args.starts.now s.args.clips.now s.args.xs.now s.args.ys.now s.args.times.now s.args.ends.now

-- there is room for them
room : (c : Then-counted-room) → length (all (goal.at.Then-counted-room c).Start) ≤ length c.args.out.now
room c = let h = c.if-counted-room.true in omega arith

pub write_times-count-requires : goal.write_times-count-requires
write_times-count-requires c =
    record { accepted_times_1 = c.requires; accepted_times_2 = c.latest_inverses-reach.ensures; ends_in_bounds = room (goal.at.write_times-count-requires c).Then-counted-room }

pub returns-then-counted-room : goal.returns-then-counted-room
returns-then-counted-room c =
    (c.write_times-count.ensures.0, room (goal.at.returns-then-counted-room c).Then-counted-room, c.write_times-count.ensures.1)

pub returns : goal.returns
returns c = let h = c.if-counted-room.false in (omega arith, refl)
