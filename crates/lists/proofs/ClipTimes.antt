-- The clip time by knots that are lent as two lists, case by case. Assumes nothing.
use mathlib.Core.Path.{◌≡◌, refl, ◌∙◌}
use Prim.Native.Nat.{ℕ, suc, ◌+◌, ◌≤◌, ◌<◌}
use native.Mathlib.Numerals.{add-one}
use native.Mathlib.Omega.{arith}
use mathlib.Core.Bool.{true, false}
use mathlib.Core.List.{List, [], ◌∷◌}
use lib.ListN.{length, get_or, get_or-eq_default}
use lib.Ieee.{Float, lt, le}
use Rattle.definitions.specs.declared.Knot.{Knot}
use Rattle.definitions.specs.Lists.{zip_with}
use Rattle.definitions.specs.Explicit.{knot}
use Rattle.definitions.specs.Timing.{last_at_most, last_knot, on_segment, map_time}
use Rattle.laws.proofs.list.Every.{zip-at}
use Rattle.laws.proofs.set.LastKnot.{last-knot-is}
use Rattle.laws.proofs.cell.Lent.{knot-times, zip_length}

pub map-none : (xs ys : List Float) (t : Float) → length xs ≡ 0 → map_time (zip_with knot xs ys) t ≡ t
unfolding map_time
map-none [] ys t h = refl
map-none (x ∷ xs) ys t h = absurd (omega arith)

module _ (d : Float) where
  last_of : (x y : Float) (xs ys : List Float) → length xs ≡ length ys → last_knot (knot x y) (zip_with knot xs ys) ≡ knot (get_or (x ∷ xs) (length xs) d) (get_or (y ∷ ys) (length xs) d)
  last_of x y xs ys e =
      last-knot-is (knot x y) (zip_with knot xs ys) (knot x y) ∙ rw (zip_length knot xs ys e) (zip-at knot (x ∷ xs) (y ∷ ys) (length xs) d d (knot x y) (omega arith) (omega arith))

  pub map_first : (xs ys : List Float) (t : Float) → length xs ≡ length ys → 0 < length xs → lt t (get_or xs 0 d) ≡ true → map_time (zip_with knot xs ys) t ≡ get_or ys 0 d
  unfolding map_time
  map_first [] ys t e h p = absurd (omega arith)
  map_first (x ∷ xs) [] t e h p = absurd (omega arith)
  map_first (x ∷ xs) (y ∷ ys) t e h p = rw p

  pub map_last : (xs ys : List Float) (t : Float) (last : ℕ) → length xs ≡ length ys → suc last ≡ length xs → lt t (get_or xs 0 d) ≡ false → le (get_or xs last d) t ≡ true
      → map_time (zip_with knot xs ys) t ≡ get_or ys last d
  unfolding map_time
  map_last [] ys t last e n p q = absurd (omega arith)
  map_last (x ∷ xs) [] t last e n p q = absurd (omega arith)
  map_last (x ∷ xs) (y ∷ ys) t last e n p q = let m : length xs ≡ last = omega arith in rw (p, last_of x y xs ys (omega arith), m, q)

  -- between the knot `lo` and the one after it, for which the first knot stands where there is none
  pub map-between : (xs ys : List Float) (t : Float) (last lo : ℕ) (k : Knot) → length xs ≡ length ys → suc last ≡ length xs → lt t (get_or xs 0 d) ≡ false → le (get_or xs last d) t ≡ false
      → lo ≡ last_at_most xs t → lo < length xs → get_or (zip_with knot xs ys) (suc lo) (knot (get_or xs 0 d) (get_or ys 0 d)) ≡ k
      → on_segment (knot (get_or xs lo d) (get_or ys lo d)) k t ≡ map_time (zip_with knot xs ys) t
  unfolding map_time
  map-between [] ys t last lo k e n p q l b f = absurd (omega arith)
  map-between (x ∷ xs) [] t last lo k e n p q l b f = absurd (omega arith)
  map-between (x ∷ xs) (y ∷ ys) t last lo k e n p q l b f =
      let m : length xs ≡ last = omega arith in
      rw (p, last_of x y xs ys (omega arith), m, q, knot-times (x ∷ xs) (y ∷ ys) e, ← l, zip-at knot (x ∷ xs) (y ∷ ys) lo d d (knot x y) b (omega arith), f)

  pub next-knot : (xs ys : List Float) (i : ℕ) (c : Knot) → length xs ≡ length ys → suc i < length xs → get_or (zip_with knot xs ys) (suc i) c ≡ knot (get_or xs (i + 1) d) (get_or ys (i + 1) d)
  next-knot xs ys i c e h = rw add-one (zip-at knot xs ys (suc i) d d c h (omega arith))

  -- behind a single knot
  pub no_knot : (xs ys : List Float) (i : ℕ) → length xs ≡ length ys → length xs ≤ suc i → i ≡ 0
      → get_or (zip_with knot xs ys) (suc i) (knot (get_or xs 0 d) (get_or ys 0 d)) ≡ knot (get_or xs i d) (get_or ys i d)
  no_knot xs ys i e h z = get_or-eq_default (zip_with knot xs ys) (knot (get_or xs 0 d) (get_or ys 0 d)) (omega (arith, zip_length knot xs ys e)) ∙ rw z
