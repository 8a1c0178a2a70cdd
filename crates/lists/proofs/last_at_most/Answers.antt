-- `lists::last_at_most` meets its contract. The number of times that are at most t stays between lo and hi, and hi - lo falls. Assumes nothing.
use Rattle.std.proofs.Common.{◌+◌, ◌-◌, ◌/◌, ◌<◌, T, sym, subst, arith}
use lib.Ieee.{nan, binary64, fits}
use Rattle.laws.proofs.list.Places.{at_most, at-most-length, beyond, up_to, last-is}
use Rattle.lists.proofs.last_at_most.Goals.{Start as At-start}
use Rattle.lists.proofs.last_at_most.Goals as goal

-- what owning an `f64` tells: the format holds it
held : (c : At-start) → T (fits binary64 c.args.t)
held c = subst T (sym c.well_formed.1.0.1) tt

pub loop-lo-init : goal.loop-lo-init
loop-lo-init c = (omega arith, at-most-length _ _, omega arith)

pub loop-lo-preserved-then-times-mid : goal.loop-lo-preserved-then-times-mid
loop-lo-preserved-then-times-mid c =
    let l = c.loop-lo in
    let a = c.args in
    let mid = l.lo + (l.hi - l.lo) / 2 in
    let k : mid < at_most a.times.now a.t = beyond a.t (held (goal.at.loop-lo-preserved-then-times-mid c).Start) nan a.times.now c.requires mid (omega arith) c.if-times-mid.true in
    (omega arith, l.invariant.1, l.invariant.2)

pub loop-lo-preserved : goal.loop-lo-preserved
loop-lo-preserved c =
    let l = c.loop-lo in
    let a = c.args in
    let mid = l.lo + (l.hi - l.lo) / 2 in
    (l.invariant.0, up_to a.t (held (goal.at.loop-lo-preserved c).Start) nan a.times.now c.requires mid (omega arith) c.if-times-mid.false, omega arith)

pub returns : goal.returns
returns c = let e = last-is c.args.t (held (goal.at.returns c).Start) c.args.times.now c.requires in omega (arith, c.saturating_sub.ensures)
