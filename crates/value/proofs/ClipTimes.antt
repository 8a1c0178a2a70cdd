-- The clip time on a segment that holds the time: it is that of the segment. Assumes nothing.
use mathlib.Core.Path.{◌≡◌, ◌∙◌}
use mathlib.Core.Bool.{true, false, ◌&&◌}
use mathlib.Core.List.{List, [], ◌∷◌}
use Prim.Native.Nat.{ℕ, suc, ◌+◌, ◌-◌, ◌<◌}
use native.Mathlib.Numerals.{add-one}
use native.Mathlib.Omega.{arith}
use lib.Dec.{ltb, ltb→lt}
use lib.ListN.{length, get_or}
use lib.Ieee.{Float, nan, lt, le}
use Rattle.gf.proofs.KeyLaws.{le_trans, lt_not_le}
use Rattle.definitions.specs.Explicit.{knot}
use Rattle.definitions.specs.Timing.{last_at_most, last_knot, on_segment, map_time}
use Rattle.laws.proofs.list.Tests.{is_false, is_true, holds, both_l, both_r}
use Rattle.laws.proofs.list.Every.{zip-at}
use Rattle.laws.proofs.set.LastKnot.{last-knot-is}
use Rattle.laws.specs.list.Places.{Ascending, Fits}
use Rattle.laws.proofs.list.Places.{beyond, up_to, last-is}
use Rattle.laws.specs.cell.Lent.{knots_of}
use Rattle.laws.proofs.cell.Lent.{knot-times, zip_length}
use Rattle.lists.specs.Segments.{knot_at}
use Rattle.window.proofs.nearest.Beside.{number_at}
use Rattle.value.proofs.Jumps.{step-le}
use Rattle.value.specs.ClipTimes.{OnSegment, is_between}

-- the test tells it
pub on-between : (xs : List Float) (t : Float) (i : ℕ) → is_between xs t i ≡ true → OnSegment xs t i
unfolding is_between
on-between xs t i e =
    let h = holds _ e in
    let p = both_l (ltb (i + 1) (length xs) && le (get_or xs i nan) t) (lt t (get_or xs (i + 1) nan)) h in
    record {
      place = ltb→lt (i + 1) (length xs) (both_l (ltb (i + 1) (length xs)) (le (get_or xs i nan) t) p);
      from = is_true _ (both_r (ltb (i + 1) (length xs)) (le (get_or xs i nan) t) p);
      upto = is_true _ (both_r (ltb (i + 1) (length xs) && le (get_or xs i nan) t) (lt t (get_or xs (i + 1) nan)) h);
    }

module _ (xs ys : List Float) (a : Ascending xs) (e : length xs ≡ length ys) (t : Float) (ft : Fits t) (i : ℕ) (O : OnSegment xs t i) where
  fits-at : (j : ℕ) → j < length xs → Fits (get_or xs j nan)
  fits-at j h = (number_at xs a j h).0

  next : le (get_or xs (i + 1) nan) t ≡ false
  next = is_false (le (get_or xs (i + 1) nan) t) (λ h. lt_not_le t (get_or xs (i + 1) nan) ft (fits-at (i + 1) O.place) (holds (lt t (get_or xs (i + 1) nan)) O.upto) h)

  pub found : i ≡ last_at_most xs t
  found =
      let p = beyond t ft nan xs a i (omega (arith, O.place)) O.from in
      let q = up_to t ft nan xs a (i + 1) O.place next in
      omega (arith, last-is t ft xs a)

  first : lt t (get_or xs 0 nan) ≡ false
  first =
      let l : i < length xs = omega (arith, O.place) in
      let z : 0 < length xs = omega (arith, O.place) in
      is_false (lt t (get_or xs 0 nan))
      (λ h. lt_not_le t (get_or xs 0 nan) ft (fits-at 0 z) h (le_trans (get_or xs 0 nan) (get_or xs i nan) t (fits-at 0 z) (fits-at i l) ft (step-le xs a t t ft ft 0 i (omega arith) l) (holds (le (get_or xs i nan) t) O.from)))

  last : le (get_or xs (length xs - 1) nan) t ≡ false
  last =
      let l : length xs - 1 < length xs = omega (arith, O.place) in
      is_false (le (get_or xs (length xs - 1) nan) t)
      (λ h. lt_not_le t (get_or xs (i + 1) nan) ft (fits-at (i + 1) O.place) (holds (lt t (get_or xs (i + 1) nan)) O.upto)
      (le_trans (get_or xs (i + 1) nan) (get_or xs (length xs - 1) nan) t (fits-at (i + 1) O.place) (fits-at (length xs - 1) l) ft (step-le xs a t t ft ft (i + 1) (length xs - 1) (omega (arith, O.place)) l) h))

  pub on-segment : on_segment (knot_at xs ys i) (knot_at xs ys (i + 1)) t ≡ map_time (knots_of xs ys) t
  unfolding map_time
  on-segment = go xs ys e (length xs - 1) (omega (arith, O.place)) first last found O.place
    where
      go : (xs ys : List Float) → length xs ≡ length ys → (n : ℕ) → suc n ≡ length xs → lt t (get_or xs 0 nan) ≡ false → le (get_or xs n nan) t ≡ false → i ≡ last_at_most xs t → i + 1 < length xs
          → on_segment (knot_at xs ys i) (knot_at xs ys (i + 1)) t ≡ map_time (knots_of xs ys) t
      go [] ys e n m p q l b = absurd (omega arith)
      go (x ∷ xs) [] e n m p q l b = absurd (omega arith)
      go (x ∷ xs) (y ∷ ys) e n m p q l b =
          let z : length xs ≡ n = omega arith in
          let d = knot x y in
          let w : last_knot d (knots_of xs ys) ≡ knot (get_or (x ∷ xs) (length xs) nan) (get_or (y ∷ ys) (length xs) nan) =
          last-knot-is d (knots_of xs ys) d ∙ rw (zip_length knot xs ys (omega arith)) (zip-at knot (x ∷ xs) (y ∷ ys) (length xs) nan nan d (omega arith) (omega arith)) in
          let f : get_or (knots_of (x ∷ xs) (y ∷ ys)) (suc i) d ≡ knot (get_or (x ∷ xs) (i + 1) nan) (get_or (y ∷ ys) (i + 1) nan) = rw add-one (zip-at knot (x ∷ xs) (y ∷ ys) (suc i) nan nan d (omega arith) (omega arith)) in
          rw (p, w, z, q, knot-times (x ∷ xs) (y ∷ ys) e, ← l, zip-at knot (x ∷ xs) (y ∷ ys) i nan nan d (omega arith) (omega arith), f)
