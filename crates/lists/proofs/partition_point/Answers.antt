-- `lists::partition_point` meets its contract. What the search finds from here on is what it finds in the whole list, and ever fewer places are left. Assumes nothing.
use Prim.Native.Nat.{ℕ, ◌+◌, ◌-◌, ◌/◌, ◌≤◌, ◌<◌}
use mathlib.Core.Path.{◌≡◌, refl, sym, ap, ◌∙◌}
use mathlib.Core.Bool.{Bool, true, false, cond}
use mathlib.Core.List.{List}
use native.Mathlib.Omega.{arith}
use lib.ListN.{length, take, drop}
use lib.Ieee.{Float, nan, le}
use Rattle.std.proofs.Common.{count_by}
use Rattle.lists.proofs.Counted.{row-counted}
use Rattle.definitions.specs.Reading.{by_halves, partition_point}
use Rattle.definitions.proofs.Reading.{halves-few, halves-by, partition-within}
use Rattle.lists.proofs.partition_point.Invariants.{at_most}
use Rattle.lists.proofs.partition_point.Goals.{After-count_at_most}
use Rattle.lists.proofs.partition_point.Goals.{then-times-mid, else-times-mid}
use Rattle.lists.proofs.partition_point.Goals as goal

pub loop-n-init : goal.loop-n-init
unfolding partition_point
loop-n-init c = (omega arith, refl)

-- one step, by the test in the middle
module _ (xs : List Float) (t : Float) (at n : ℕ) (h : 16 < n) (inside : at + n ≤ length xs) (same : by_halves (at_most xs t) n at n ≡ partition_point xs t) where
  goes_on : (b : Bool) → at_most xs t (at + n / 2) ≡ b → (k : ℕ) → k ≡ cond b (at + n / 2) at → (k + (n - n / 2) ≤ length xs) × (by_halves (at_most xs t) (n - n / 2) k (n - n / 2) ≡ partition_point xs t)
  goes_on b e k q = (within b q, ap (λ (k : ℕ). by_halves (at_most xs t) (n - n / 2) k (n - n / 2)) q ∙ sym (halves-by (at_most xs t) at n h b e) ∙ same)
    where
      within : (b : Bool) → k ≡ cond b (at + n / 2) at → k + (n - n / 2) ≤ length xs
      within true q = omega arith
      within false q = omega arith

pub loop-n-preserved : goal.loop-n-preserved
loop-n-preserved c =
    let l = c in
    let a = l.args in
    let on = goes_on a.times.now a.t l.loop-n.at l.loop-n.n (omega arith) l.loop-n.invariant.0 l.loop-n.invariant.1 in
    elim c.if-times-mid.branch [
      | then-times-mid w ↦ on true w.if-times-mid.true c.if-times-mid.at w.at-is
      | else-times-mid w ↦ on false w.if-times-mid.false c.if-times-mid.at w.at-is
    ]

-- as many as are found
found-is : (c : After-count_at_most) → c.loop-n.at + c.count_at_most.result ≡ partition_point c.args.times.now c.args.t
found-is c =
    let l = c.loop-n in
    let xs = c.args.times.now in
    let t = c.args.t in
    let n : l.at + l.n - l.at ≡ l.n = omega arith in
    ap (λ (k : ℕ). l.at + k)
    (c.count_at_most.ensures ∙ ap (λ (k : ℕ). count_by (λ (x : Float). le x t) (take k (drop l.at xs))) n ∙ row-counted (λ (x : Float). le x t) xs nan l.n l.at l.invariant.0)
    ∙ sym (halves-few (at_most xs t) l.n l.at l.n (omega arith)) ∙ l.invariant.1

pub overflow_add-result : goal.overflow_add-result
overflow_add-result c = let e = found-is c in let a = c.args in omega (arith, partition-within a.times.now a.t)

pub returns : goal.returns
returns c = found-is c
