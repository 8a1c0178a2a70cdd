-- `normal_form::merging::write` meets its contract: an output without room refuses before anything is written. Assumes nothing.
use native.Mathlib.Omega.{arith}
use lib.ListN.{length}
use lib.Ieee.{nan}
use Rattle.definitions.specs.Track.{Outputs}
use Rattle.definitions.specs.Moments.{outputs}
use Rattle.normal_form.proofs.Normal.{short-times, short-values, short-marks}
use Rattle.normal_form.proofs.Written.{first-length, last-length, first-inside, last-values, last-marks, no_room, written}
use Rattle.normal_form.proofs.merging.write.Goals.{Start as At-start}
use Rattle.normal_form.proofs.merging.write.Goals as goal

abbrev lent : At-start → Outputs
lent e = outputs e.args.outtimes.now e.args.outvalues.now e.args.outmarks.now

pub returns-then-outtimes-count : goal.returns-then-outtimes-count
returns-then-outtimes-count c =
    let e = c in
    no_room _ _ _ _ _ e.requires (lent (goal.at.returns-then-outtimes-count e).Start) (short-times (lent (goal.at.returns-then-outtimes-count e).Start) (length e.args.firsts.now) c.if-outtimes-count.true)

pub returns-then-outvalues-count : goal.returns-then-outvalues-count
returns-then-outvalues-count c =
    let e = c in
    no_room _ _ _ _ _ e.requires (lent (goal.at.returns-then-outvalues-count e).Start) (short-values (lent (goal.at.returns-then-outvalues-count e).Start) (length e.args.firsts.now) c.if-outvalues-count.true)

pub returns-then-outmarks-count : goal.returns-then-outmarks-count
returns-then-outmarks-count c =
    let e = c in
    no_room _ _ _ _ _ e.requires (lent (goal.at.returns-then-outmarks-count e).Start) (short-marks (lent (goal.at.returns-then-outmarks-count e).Start) (length e.args.firsts.now) c.if-outmarks-count.true)

pub gather-requires : goal.gather-requires
gather-requires c =
    let e = c in
    (first-inside _ _ _ _ _ e.requires, omega arith)

pub gather-requires-2 : goal.gather-requires-2
gather-requires-2 c =
    let e = c in
    (last-values _ _ _ _ _ e.requires, omega (arith, first-length _ _ _ _ _ e.requires, last-length _ _ _ _ _ e.requires))

pub gather-requires-3 : goal.gather-requires-3
gather-requires-3 c =
    let e = c in
    (last-marks _ _ _ _ _ e.requires, omega (arith, first-length _ _ _ _ _ e.requires, last-length _ _ _ _ _ e.requires))

pub returns : goal.returns
returns c =
    let e = c in
    let k = c in
    written _ _ _ _ _ e.requires (lent (goal.at.returns e).Start) _ _ _ k.if-outtimes-count.false k.if-outvalues-count.false k.if-outmarks-count.false
    (c.gather.ensures nan) (c.gather-2.ensures nan) (c.gather-3.ensures 0)
