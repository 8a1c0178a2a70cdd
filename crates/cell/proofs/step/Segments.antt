-- The line of a stage time by its tests, with the knots as two lists of numbers: what `line_of` finds at each of its ways out. Assumes nothing.
use mathlib.Core.Path.{◌≡◌, refl, sym, ap, ap₂, ◌∙◌}
use mathlib.Core.Logic.{inl, inr}
use mathlib.Core.Bool.{true, false, not, false≢true}
use mathlib.Core.List.{List, [], ◌∷◌}
use Prim.Native.Nat.{ℕ, zero, suc, ◌+◌, ◌-◌, ◌<◌}
use native.Mathlib.Omega.{arith}
use native.Mathlib.Numerals.{add-one}
use lib.Dec.{T}
use lib.ListN.{length, get_or}
use lib.Ieee.{Float, nan, is_nan, lt, le}
use Rattle.gf.proofs.KeyLaws.{le-or-lt, finite-no-nan}
use Rattle.definitions.specs.declared.Knot.{Knot}
use Rattle.definitions.specs.Doubles.{FiniteDouble}
use Rattle.definitions.specs.Explicit.{knot}
use Rattle.definitions.specs.ClipSet.{knot_times}
use Rattle.definitions.specs.Timing.{last_at_most, last_knot}
use Rattle.laws.proofs.list.Tests.{is_true}
use Rattle.laws.proofs.list.Every.{every-at}
use Rattle.laws.specs.list.Places.{Fits, Ascending}
use Rattle.laws.proofs.list.Places.{up_to, last-is}
use Rattle.laws.specs.cell.Knots.{plain, flat, segment, line_of}
use Rattle.laws.specs.cell.Lent.{knots_of}
use Rattle.laws.proofs.cell.Lent.{knot-times}

-- ---- the knot at a place

pub knot-at : (xs ys : List Float) (i : ℕ) (d : Knot) → length xs ≡ length ys → i < length xs → get_or (knots_of xs ys) i d ≡ knot (get_or xs i nan) (get_or ys i nan)
knot-at [] ys i d e h = absurd (omega arith)
knot-at (x ∷ xs) [] i d e h = absurd (omega arith)
knot-at (x ∷ xs) (y ∷ ys) zero d e h = refl
knot-at (x ∷ xs) (y ∷ ys) (suc i) d e h = knot-at xs ys i d (omega arith) (omega arith)

last-at : (x y : Float) (xs ys : List Float) → length xs ≡ length ys → last_knot (knot x y) (knots_of xs ys) ≡ knot (get_or (x ∷ xs) (length xs) nan) (get_or (y ∷ ys) (length xs) nan)
last-at x y [] ys e = refl
last-at x y (a ∷ xs) [] e = absurd (omega arith)
last-at x y (a ∷ xs) (b ∷ ys) e = last-at a b xs ys (omega arith)

-- ---- the line by the tests

module _ (xs ys : List Float) (e : length xs ≡ length ys) (t : Float) where
  pub line_plain : length xs ≡ 0 → line_of (knots_of xs ys) t ≡ plain
  unfolding line_of
  line_plain n = go xs n
    where
      go : (l : List Float) → length l ≡ 0 → line_of (knots_of l ys) t ≡ plain
      go [] n = refl
      go (x ∷ l) n = absurd (omega arith)

  pub line-below : 0 < length xs → lt t (get_or xs 0 nan) ≡ true → line_of (knots_of xs ys) t ≡ flat (get_or ys 0 nan)
  unfolding line_of
  line-below n b = go xs ys e n b
    where
      go : (l m : List Float) → length l ≡ length m → 0 < length l → lt t (get_or l 0 nan) ≡ true → line_of (knots_of l m) t ≡ flat (get_or m 0 nan)
      go [] m e n b = absurd (omega arith)
      go (x ∷ l) [] e n b = absurd (omega arith)
      go (x ∷ l) (y ∷ m) e n b = rw b

  pub line-last : 0 < length xs → lt t (get_or xs 0 nan) ≡ false → le (get_or xs (length xs - 1) nan) t ≡ true → line_of (knots_of xs ys) t ≡ flat (get_or ys (length xs - 1) nan)
  unfolding line_of
  line-last n b f = go xs ys e n b f
    where
      go : (l m : List Float) → length l ≡ length m → 0 < length l → lt t (get_or l 0 nan) ≡ false → le (get_or l (length l - 1) nan) t ≡ true
          → line_of (knots_of l m) t ≡ flat (get_or m (length l - 1) nan)
      go [] m e n b f = absurd (omega arith)
      go (x ∷ l) [] e n b f = absurd (omega arith)
      go (x ∷ l) (y ∷ m) e n b f =
          let i : suc (length l) - 1 ≡ length l = omega arith in
          let g : le (get_or (x ∷ l) (length l) nan) t ≡ true = ap (λ (j : ℕ). le (get_or (x ∷ l) j nan) t) (sym i) ∙ f in
          rw (b, last-at x y l m (omega arith), g, i)

  pub line-segment : lt t (get_or xs 0 nan) ≡ false → le (get_or xs (length xs - 1) nan) t ≡ false → last_at_most xs t + 1 < length xs
      → line_of (knots_of xs ys) t ≡ segment (knot (get_or xs (last_at_most xs t) nan) (get_or ys (last_at_most xs t) nan)) (knot (get_or xs (last_at_most xs t + 1) nan) (get_or ys (last_at_most xs t + 1) nan))
  unfolding line_of
  line-segment b f n = go xs ys e b f (last_at_most xs t) (ap (λ (l : List Float). last_at_most l t) (knot-times xs ys e)) n
    where
      go : (l m : List Float) → length l ≡ length m → lt t (get_or l 0 nan) ≡ false → le (get_or l (length l - 1) nan) t ≡ false
          → (i : ℕ) → last_at_most (knot_times (knots_of l m)) t ≡ i → i + 1 < length l
          → line_of (knots_of l m) t ≡ segment (knot (get_or l i nan) (get_or m i nan)) (knot (get_or l (i + 1) nan) (get_or m (i + 1) nan))
      go [] m e b f i q n = absurd (omega arith)
      go (x ∷ l) [] e b f i q n = absurd (omega arith)
      go (x ∷ l) (y ∷ m) e b f i q n =
          let j : suc (length l) - 1 ≡ length l = omega arith in
          let g : le (get_or (x ∷ l) (length l) nan) t ≡ false = ap (λ (j : ℕ). le (get_or (x ∷ l) j nan) t) (sym j) ∙ f in
          rw (b, last-at x y l m (omega arith), g, q)
          (ap₂ segment (knot-at (x ∷ l) (y ∷ m) i (knot x y) (omega arith) (omega arith))
          (ap (λ (k : ℕ). get_or (knots_of (x ∷ l) (y ∷ m)) k (knot x y)) (sym (add-one i)) ∙ knot-at (x ∷ l) (y ∷ m) (i + 1) (knot x y) (omega arith) (omega arith)))

  -- there is a next knot
  pub next-knot : Ascending xs → Fits t → T (not (is_nan t)) → 0 < length xs → lt t (get_or xs 0 nan) ≡ false → le (get_or xs (length xs - 1) nan) t ≡ false → last_at_most xs t + 1 < length xs
  next-knot a ft nt n b f =
      let u = up_to t ft nan xs a (length xs - 1) (omega arith) f in
      let l = last-is t ft xs a in
      let two : (length xs ≡ 1 → ⊥) = one in
      omega arith
    where
      one : length xs ≡ 1 → ⊥
      one q =
          let x = every-at FiniteDouble xs 0 nan a.numbers n in
          let z : length xs - 1 ≡ 0 = omega arith in
          elim (le-or-lt (get_or xs 0 nan) t x.fitting ft (finite-no-nan (get_or xs 0 nan) x.finitely) nt) [
            | inl l ↦ false≢true (sym f ∙ ap (λ (j : ℕ). le (get_or xs j nan) t) z ∙ is_true (le (get_or xs 0 nan) t) l)
            | inr l ↦ false≢true (sym b ∙ is_true (lt t (get_or xs 0 nan)) l)
          ]
