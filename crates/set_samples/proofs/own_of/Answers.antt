-- `set_samples::own_of` meets its contract: the walk of `parts_number` up to the k-th set, of samples that are accepted. Assumes nothing.
use Prim.Native.Nat.{ℕ, ◌+◌, ◌≤◌, ◌<◌}
use native.Mathlib.Omega.{arith}
use mathlib.Core.Path.{◌≡◌, subst}
use mathlib.Core.List.{List}
use lib.ListN.{length, get_or}
use Rattle.dispatch.specs.SetSamples.{SetSamples}
use Rattle.set_samples.specs.Parting.{lent_samples}
use Rattle.set_samples.proofs.Walk.{Before, before-next, samples-room, ends-room}
use Rattle.set_samples.proofs.Judged.{starts, found}
use Rattle.set_samples.proofs.own_of.Goals.{At-loop-i}
use Rattle.set_samples.proofs.own_of.Goals as goal

-- ---- what is known at the places
abbrev clips_at : At-loop-i → List ℕ
clips_at c = c.args.clips.now

abbrev lent_at : At-loop-i → SetSamples
lent_at c = let s = c.args in lent_samples s.counts.now s.ends.now s.times.now s.values.now s.marks.now

inside : (c : At-loop-i) → c.loop-i.i < length (clips_at c)
inside c = omega (arith, c.requires.fact_2)

samples-in : (c : At-loop-i) → c.loop-i.a + get_or (lent_at c).counts c.loop-i.i 0 ≤ length (lent_at c).times
samples-in c = let k = c.loop-i in samples-room (clips_at c) (lent_at c) k.i k.a k.e k.invariant (inside c)

ends-in : (c : At-loop-i) → c.loop-i.e + get_or (clips_at c) c.loop-i.i 0 ≤ length (lent_at c).ends
ends-in c = let k = c.loop-i in ends-room (clips_at c) (lent_at c) k.i k.a k.e k.invariant (inside c)

-- behind the loop
reached : (c : At-loop-i) → c.args.k ≤ c.loop-i.i → Before (clips_at c) (lent_at c) c.args.k c.loop-i.a c.loop-i.e
reached c h = let z : c.loop-i.i ≡ c.args.k = omega arith in subst (λ (n : ℕ). Before (clips_at c) (lent_at c) n c.loop-i.a c.loop-i.e) z c.loop-i.invariant

-- ---- the needs
pub loop-i-init : goal.loop-i-init
loop-i-init c = starts _ _ c.requires.fact_3

pub overflow_add-a : goal.overflow_add-a
overflow_add-a c = omega (arith, samples-in (goal.at.overflow_add-a c).At-loop-i)

pub overflow_add-e : goal.overflow_add-e
overflow_add-e c = omega (arith, ends-in (goal.at.overflow_add-e c).At-loop-i)

pub loop-i-preserved : goal.loop-i-preserved
loop-i-preserved c = let l = c in let k = l.loop-i in before-next (clips_at (goal.at.loop-i-preserved l).At-loop-i) (lent_at (goal.at.loop-i-preserved l).At-loop-i) k.i k.a k.e k.invariant (inside (goal.at.loop-i-preserved l).At-loop-i)

pub overflow_add-result : goal.overflow_add-result
overflow_add-result c = let l = c in omega (arith, samples-room (clips_at (goal.at.overflow_add-result l).At-loop-i) (lent_at (goal.at.overflow_add-result l).At-loop-i) l.args.k l.loop-i.a l.loop-i.e (reached (goal.at.overflow_add-result l).At-loop-i (omega arith)) l.requires.fact_2)

pub overflow_add-result-2 : goal.overflow_add-result-2
overflow_add-result-2 c = let l = c in omega (arith, ends-room (clips_at (goal.at.overflow_add-result-2 l).At-loop-i) (lent_at (goal.at.overflow_add-result-2 l).At-loop-i) l.args.k l.loop-i.a l.loop-i.e (reached (goal.at.overflow_add-result-2 l).At-loop-i (omega arith)) l.requires.fact_2)

pub returns : goal.returns
returns c = let l = c in found (clips_at (goal.at.returns l).At-loop-i) (lent_at (goal.at.returns l).At-loop-i) l.requires.fact_3 l.args.k l.loop-i.a l.loop-i.e (reached (goal.at.returns l).At-loop-i (omega arith)) l.requires.fact_2
