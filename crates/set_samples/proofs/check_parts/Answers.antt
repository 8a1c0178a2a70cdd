-- `set_samples::check_parts` meets its contract: each set's own samples are judged as one set's. Assumes nothing.
use Prim.Native.Nat.{ℕ, ◌+◌, ◌≤◌}
use native.Mathlib.Omega.{arith}
use mathlib.Core.List.{List}
use lib.ListN.{length, get_or}
use Rattle.definitions.specs.Refusals.{number_in}
use Rattle.dispatch.specs.SetSamples.{SetSamples}
use Rattle.set_samples.specs.Parting.{lent_samples}
use Rattle.set_samples.proofs.Walk.{samples-room, ends-room}
use Rattle.set_samples.proofs.Judged.{begins, ended, next}
use Rattle.set_samples.proofs.check_parts.Goals.{At-loop-i, In-loop-i}
use Rattle.set_samples.proofs.check_parts.Goals as goal

-- ---- what is known at the places
abbrev clips_at : At-loop-i → List ℕ
clips_at c = c.args.clips.now

abbrev lent_at : At-loop-i → SetSamples
lent_at c = let s = c.args in lent_samples s.counts.now s.ends.now s.times.now s.values.now s.marks.now

samples-in : (c : In-loop-i) → c.loop-i.a + get_or (lent_at (goal.at.In-loop-i c).At-loop-i).counts c.loop-i.i 0 ≤ length (lent_at (goal.at.In-loop-i c).At-loop-i).times
samples-in c = let k = c.loop-i in samples-room (clips_at (goal.at.In-loop-i c).At-loop-i) (lent_at (goal.at.In-loop-i c).At-loop-i) k.i k.a k.e k.invariant.before (omega arith)

ends-in : (c : In-loop-i) → c.loop-i.e + get_or (clips_at (goal.at.In-loop-i c).At-loop-i) c.loop-i.i 0 ≤ length (lent_at (goal.at.In-loop-i c).At-loop-i).ends
ends-in c = let k = c.loop-i in ends-room (clips_at (goal.at.In-loop-i c).At-loop-i) (lent_at (goal.at.In-loop-i c).At-loop-i) k.i k.a k.e k.invariant.before (omega arith)

-- ---- the needs
pub loop-i-init : goal.loop-i-init
loop-i-init c = begins _ _ c.requires.fact_2

pub overflow_add-b : goal.overflow_add-b
overflow_add-b c = omega (arith, samples-in (goal.at.overflow_add-b c).In-loop-i)

pub overflow_add-f : goal.overflow_add-f
overflow_add-f c = omega (arith, ends-in (goal.at.overflow_add-f c).In-loop-i)

pub slice_bounds-check_samples-end : goal.slice_bounds-check_samples-end
slice_bounds-check_samples-end c = omega (arith, samples-in (goal.at.slice_bounds-check_samples-end c).In-loop-i)

pub slice_bounds-check_samples-end-in-loop-i : goal.slice_bounds-check_samples-end-in-loop-i
slice_bounds-check_samples-end-in-loop-i c = let b = c in omega (arith, samples-in (goal.at.slice_bounds-check_samples-end-in-loop-i b).In-loop-i, b.loop-i.invariant.before.parts.values-alike)

pub slice_bounds-check_samples-end-in-loop-i-2 : goal.slice_bounds-check_samples-end-in-loop-i-2
slice_bounds-check_samples-end-in-loop-i-2 c = let b = c in omega (arith, samples-in (goal.at.slice_bounds-check_samples-end-in-loop-i-2 b).In-loop-i, b.loop-i.invariant.before.parts.marks-alike)

pub slice_bounds-check_samples-end-in-loop-i-3 : goal.slice_bounds-check_samples-end-in-loop-i-3
slice_bounds-check_samples-end-in-loop-i-3 c = omega (arith, ends-in (goal.at.slice_bounds-check_samples-end-in-loop-i-3 c).In-loop-i)

pub loop-i-preserved : goal.loop-i-preserved
loop-i-preserved c =
    let b = c in
    let k = b.loop-i in
    next (clips_at (goal.at.loop-i-preserved b).At-loop-i) (lent_at (goal.at.loop-i-preserved b).At-loop-i) k.i k.a k.e (number_in k.w) k.invariant (omega arith) _ _ c.check_samples-own.ensures.number c.first_of-w.ensures

pub returns : goal.returns
returns c = let k = c.loop-i in ended (clips_at (goal.at.returns c).At-loop-i) (lent_at (goal.at.returns c).At-loop-i) k.i k.a k.e (number_in k.w) (omega arith) k.invariant
