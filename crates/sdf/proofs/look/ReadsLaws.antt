-- A clip's part of the lent lists by its two ends, and what is read of it. Assumes nothing.
use Prim.Native.Nat.{ℕ, ◌+◌, ◌-◌, ◌≤◌, ◌<◌}
use native.Mathlib.Omega.{arith}
use mathlib.Core.Path.{◌≡◌, refl, ap, ◌∙◌}
use mathlib.Core.List.{List, [], ◌∷◌}
use mathlib.Core.Option.{none, some}
use Rattle.std.specs.Prelude.{None, Some}
use lib.ListN.{length, drop, length-drop}
use lib.Seq.{length-take-le}
use lib.Dec.{T}
use lib.Ieee.{Float, binary64, fits}
use Rattle.definitions.specs.declared.ClipTime.{ClipTime}
use Rattle.definitions.specs.Timing.{last_at_most}
use Rattle.definitions.specs.Samples.{held_place}
use Rattle.laws.proofs.list.Places.{last-inside}
use Rattle.sdf.specs.look.Reads.{part, Inside, Readable, marked_at, told, held_reading}

-- ---- what the code finds

module _ (times : List Float) (begin end : ℕ) (t : ClipTime) where
  pub place_none : begin ≡ end → none ≡ held_place (part times begin end) t
  unfolding held_place
  place_none e = let z : end - begin ≡ 0 = omega arith in rw z

  part_length : end ≤ length times → length (part times begin end) ≡ end - begin
  part_length h = length-take-le (end - begin) (drop begin times) (omega (arith, length-drop begin times))

  pub place-some : begin < end → end ≤ length times → some (last_at_most (part times begin end) t.0) ≡ held_place (part times begin end) t
  unfolding held_place
  place-some h k = held (part times begin end) (omega (arith, part_length k))
    where
      held : (l : List Float) → 0 < length l → some (last_at_most l t.0) ≡ held_place l t
      held [] h = absurd (omega arith)
      held (x ∷ l) h = refl

module _ (times values : List Float) (marks : List ℕ) (begin end : ℕ) (t : ClipTime) where
  pub held_none : begin ≡ end → None ≡ held_reading times values marks begin end t
  held_none e = ap (told values marks begin) (place_none times begin end t e)

  module _ (R : Readable times values marks begin end) (n : begin ≡ end → ⊥) (i : ℕ) (e : i ≡ last_at_most (part times begin end) t.0) where
    less : begin < end
    less = omega (arith, R.from, n)

    pub held-some : Some (i, marked_at values marks (begin + i)) ≡ held_reading times values marks begin end t
    held-some = ap (λ (j : ℕ). told values marks begin (some j)) e ∙ ap (told values marks begin) (place-some times begin end t less R.inside)

    -- the place lies before the end
    pub held-inside : T (fits binary64 t.0) → Inside values marks (begin + i)
    held-inside ft =
        let l = part_length times begin end t R.inside in
        let h : begin + i < end = omega (arith, less, last-inside t.0 ft (part times begin end) R.rising (omega (arith, less))) in
        record { value = omega (arith, R.values-reach); mark = omega (arith, R.marks-reach) }
