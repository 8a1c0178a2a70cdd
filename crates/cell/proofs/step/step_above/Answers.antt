-- `cell::step::step_above` meets its contract. The invariant: the sample at q is read at a, which is the steps so far above k. The measure is hi - a. Assumes nothing.
use mathlib.Core.Path.{◌≡◌, sym, ap, ◌∙◌}
use Prim.Native.Nat.{ℕ}
use native.Mathlib.Omega.{arith}
use lib.Dec.{eqb}
use lib.Ieee.{Float}
use borrow.Author.Tests.{eqb-true, eqb-false}
use Rattle.definitions.specs.Timing.{last_at_most}
use Rattle.laws.specs.track.Steps.{Once}
use Rattle.laws.specs.cell.Keys.{Keys}
use Rattle.cell.specs.step.Lines.{place_on}
use Rattle.cell.proofs.step.StepIn.{once-part, level-whole}
use Rattle.cell.proofs.step.step_above.Goals.{After-is_place, At-loop-width, Start as At-start}
use Rattle.cell.proofs.step.step_above.Goals as goal

-- from the function's entry: the place read, the keys, and that it is left once
abbrev f : At-start → ℕ → ℕ
f a = place_on a.args.ts.now a.args.line

keys : (a : At-start) → Keys a.args.k a.args.hi
keys a = a.requires.keys

once : (a : At-start) → Once (f a) a.args.k a.args.hi
once a = a.requires.once

at : (a : At-start) → f a a.args.k ≡ a.args.q
at a = a.requires.k_value

-- at the loop's head: the sample read at a is that at k
same : (b : At-loop-width) → f (goal.at.At-loop-width b).Start b.loop-width.a ≡ f (goal.at.At-loop-width b).Start b.args.k
same b = b.loop-width.invariant.3 ∙ sym (at (goal.at.At-loop-width b).Start)

-- what the last test says: whether the sample is read at hi
at_last : (c : After-is_place) → c.is_place.result ≡ eqb (f (goal.at.After-is_place c).Start c.args.hi) c.args.q
unfolding place_on
at_last c = c.is_place.ensures ∙ ap (λ (t : Float). eqb (last_at_most c.args.ts.now t) c.args.q) c.requires.top_value

pub returns-then-is_place : goal.returns-then-is_place
returns-then-is_place c =
    level-whole (once (goal.at.returns-then-is_place c).Start) (eqb-true _ _ (sym (at_last (goal.at.returns-then-is_place c).After-is_place) ∙ c.if-is_place.true) ∙ sym (at (goal.at.returns-then-is_place c).Start))

pub step_between-requires-2 : goal.step_between-requires-2
step_between-requires-2 c =
    let K = keys (goal.at.step_between-requires-2 c).Start in
    record { ascending_1 = c.requires.ascending_1; ascending_2 = c.requires.ascending_2; keys = record { low = omega (arith, K.low); order = omega arith; high = K.high }; once = once-part (once (goal.at.step_between-requires-2 c).Start) _ _ (omega arith) (omega arith) (same (goal.at.step_between-requires-2 c).At-loop-width); k_value = c.loop-width.invariant.3; fact = eqb-false _ _ (sym (at_last (goal.at.step_between-requires-2 c).After-is_place) ∙ c.if-is_place.false) }
