-- `value::jump::is_jump` meets its contract: no two knots from i on share such an x. Assumes nothing.
use Prim.Native.Nat.{◌+◌, ◌-◌, ◌<◌}
use mathlib.Core.Path.{sym}
use native.Mathlib.Omega.{arith}
use borrow.Author.Rules.{rules}
use lib.Dec.{T}
use lib.ListN.{length}
use lib.Ieee.{binary64, fits}
use Rattle.value.specs.Jumps.{jumps_at}
use Rattle.value.proofs.Jumps.{any_none, none_above, none-all, one-here, last-place}
use Rattle.value.proofs.jump.is_jump.Goals.{At-loop-i, Start as At-start}
use Rattle.value.proofs.jump.is_jump.Goals as goal

-- what owning them tells: the format holds them
fits-lower : (s : At-start) → T (fits binary64 s.args.lower)
fits-lower s = search rules

fits-upper : (s : At-start) → T (fits binary64 s.args.upper)
fits-upper s = search rules

-- a place down from the last knot at most the upper one is a knot's
inside : (k : At-loop-i) → 0 < k.loop-i.i → k.loop-i.i < length k.args.xs.now
inside k h =
    let a = k.args in
    let s = (goal.at.At-loop-i k).Start in
    last-place a.xs.now k.requires a.lower a.upper (fits-lower s) (fits-upper s) k.loop-i.i k.loop-i.invariant.0 h

pub loop-i-init : goal.loop-i-init
loop-i-init c =
    let a = c.args in
    let s = (goal.at.loop-i-init c).Start in
    (omega (arith, c.last_at_most_near-last.ensures), λ j l h. none_above a.xs.now c.requires a.lower a.upper (fits-lower s) (fits-upper s) j (omega (arith, c.last_at_most_near-last.ensures)) h)

pub offset_bounds-xs-i : goal.offset_bounds-xs-i
offset_bounds-xs-i c = let h : c.loop-i.i - 1 + 1 < length c.args.xs.now = omega (arith, inside (goal.at.offset_bounds-xs-i c).At-loop-i (omega arith)) in search rules

pub bounds-xs-i : goal.bounds-xs-i
bounds-xs-i c = omega (arith, inside (goal.at.bounds-xs-i c).At-loop-i (omega arith))

pub returns-then-not-lower-x : goal.returns-then-not-lower-x
returns-then-not-lower-x c =
    let a = c.args in
    let s = (goal.at.returns-then-not-lower-x c).Start in
    let at = inside (goal.at.returns-then-not-lower-x c).At-loop-i (omega arith) in
    sym (none-all a.xs.now c.requires a.lower a.upper (fits-lower s) (fits-upper s) (c.loop-i.i - 1 + 1) c.if-not-lower-x.true (omega (arith, at)) (λ j l h. c.loop-i.invariant.1 j (omega arith) h))

pub offset_bounds-xs-i-in-loop-i : goal.offset_bounds-xs-i-in-loop-i
offset_bounds-xs-i-in-loop-i c = let h : c.loop-i.i - 1 < length c.args.xs.now = omega (arith, inside (goal.at.offset_bounds-xs-i-in-loop-i c).At-loop-i (omega arith)) in search rules

pub bounds-xs-i-in-loop-i : goal.bounds-xs-i-in-loop-i
bounds-xs-i-in-loop-i c = omega (arith, inside (goal.at.bounds-xs-i-in-loop-i c).At-loop-i (omega arith))

pub returns-then-xs-i : goal.returns-then-xs-i
returns-then-xs-i c =
    let a = c.args in
    let k = c.loop-i in
    let s = (goal.at.returns-then-xs-i c).Start in
    let at = inside (goal.at.returns-then-xs-i c).At-loop-i (omega arith) in
    sym
    (one-here a.xs.now c.requires a.lower a.upper (fits-lower s) (fits-upper s) (k.i - 1) (k.i - 1 + 1) (omega arith) (omega (arith, k.invariant.0)) (omega (arith, at)) c.if-not-lower-x.false c.if-xs-i.true)

pub returns : goal.returns
returns c = let a = c.args in sym (any_none (jumps_at a.lower a.upper) a.xs.now (λ j h. c.loop-i.invariant.1 j (omega arith) h))
