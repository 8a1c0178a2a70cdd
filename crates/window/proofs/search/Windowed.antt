-- A window as it is handed on: its times, and what is read in it. Assumes nothing.
use mathlib.Core.Path.{◌≡◌, refl, sym, subst}
use mathlib.Core.Bool.{Bool, true, false, cond}
use mathlib.Core.List.{List, [], ◌∷◌, ◌++◌}
use Prim.Native.Nat.{ℕ, ◌<◌}
use native.Mathlib.Omega.{arith}
use lib.ListN.{length}
use lib.Ieee.{Float, inf, lt}
use Rattle.definitions.specs.Lists.{keep}
use Rattle.definitions.specs.Doubles.{FiniteDouble}
use Rattle.definitions.specs.Timing.{last_at_most}
use Rattle.laws.specs.list.Every.{Every}
use Rattle.laws.specs.list.Places.{Ascending, Number, Fits}
use Rattle.laws.proofs.list.Every.{every_map, every_append, every-left, every-right, every-keep}
use Rattle.laws.specs.cell.Lent.{knots_of}
use Rattle.window.specs.declared.Neighbours.{Neighbours}
use Rattle.window.specs.Bounds.{inside, nothing, NeighboursAre}
use Rattle.window.specs.Inverses.{inverses_of}
use Rattle.window.proofs.Inverses.{inverses-none}
use Rattle.window.specs.nearest.Nearest.{with_near, Searched}
use Rattle.window.proofs.nearest.Nearest.{searched-one, searched-then, searched-same, nearest-of}
use Rattle.window.specs.nearest.Beside.{TimeInside}
use Rattle.window.proofs.nearest.Beside.{facing, finite_number}
use Rattle.window.specs.declared.search.Window.{Window}
use Rattle.window.specs.search.Reaches.{Searchable, Around}
use Rattle.window.proofs.search.Reaches.{around-searched, inverses-number}
use Rattle.window.specs.search.Windowed.{interval_of, next_of, starts_of, window_times, Nearing}

-- ---- the starts

module _ (w : Window) (t : Float) {h : Neighbours} (first : h ≡ with_near t nothing w.start) where
  start-searched : Searched t (w.start ∷ []) nothing h
  start-searched = subst (λ (n : Neighbours). Searched t (w.start ∷ []) nothing n) (sym first) (searched-one t nothing w.start)

  pub starts-two : {r : Neighbours} → lt w.max (inf false) ≡ true → r ≡ with_near t h w.max → Searched t (starts_of w) nothing r
  starts-two {r} e q =
      subst (λ (b : Bool). Searched t (w.start ∷ cond b (w.max ∷ []) []) nothing r) (sym e)
      (searched-then t start-searched (subst (λ (n : Neighbours). Searched t (w.max ∷ []) h n) (sym q) (searched-one t h w.max)))

  pub starts-one : lt w.max (inf false) ≡ false → Searched t (starts_of w) nothing h
  starts-one e = subst (λ (b : Bool). Searched t (w.start ∷ cond b (w.max ∷ []) []) nothing h) (sym e) start-searched

-- ---- a search among them

module _ (xs ys latest cs : List Float) (w : Window) (t : Float) (A : Nearing xs ys latest cs w t) (fa : Fits w.min) (fb : Fits w.max) where
  abbrev in_window : Float → Bool
  in_window = inside (interval_of w)

  pub near-faces : TimeInside (interval_of w) t
  near-faces = facing (interval_of w) t A.time.fitting fa fb A.from A.upto

  pub near-searchable : Searchable xs ys cs (interval_of w) t
  near-searchable = record { knots = A.knots; paired = A.paired; segments = A.segments; samples = A.samples; time = A.time; faces = near-faces }

  numbers : (cs : List Float) → Ascending cs → Every Number (keep in_window cs)
  numbers cs a = every-keep Number in_window cs (every_map FiniteDouble Number finite_number cs a.numbers)

  -- the starts first, or as gathered
  module _ (P : Float → Type 0) (l : List Float) where
    starts-last : Every P (starts_of w ++ l) → Every P (w.start ∷ (l ++ next_of w))
    starts-last h = (h.0, every_append P l (next_of w) (every-right P (next_of w) l h.1) (every-left P (next_of w) l h.1))

    starts_first : Every P (w.start ∷ (l ++ next_of w)) → Every P (starts_of w ++ l)
    starts_first h = (h.0, every_append P (next_of w) l (every-right P l (next_of w) h.1) (every-left P l (next_of w) h.1))

  next-number : Every Number (next_of w)
  next-number = go (lt w.max (inf false))
    where
      go : (b : Bool) → Every Number (cond b (w.max ∷ []) [])
      go true = (near-faces.max, tt)
      go false = tt

  found : {h r : Neighbours} (l m : List Float) → Searched t (starts_of w) nothing h → Searched t (l ++ m) h r → Every Number l → Every Number m → NeighboursAre (w.start ∷ ((l ++ m) ++ next_of w)) t r
  found {h} {r} l m S R N M =
      nearest-of t near-faces.time (w.start ∷ ((l ++ m) ++ next_of w)) (finite_number w.start A.start, every_append Number (l ++ m) (next_of w) (every_append Number l m N M) next-number) r
      (searched-same t (λ P e. starts-last P (l ++ m) e) (λ P e. starts_first P (l ++ m) e) (searched-then t S R))

  -- with knots
  pub near-knots : {h m r : Neighbours} (i : ℕ) → i ≡ last_at_most xs t → i < length xs → Searched t (starts_of w) nothing h → Searched t (keep in_window xs) h m → Around t (interval_of w) xs ys cs m r → NeighboursAre (window_times xs ys cs w) t r
  unfolding window_times
  near-knots i at l S K R =
      found (keep in_window xs) (keep in_window (inverses_of (knots_of xs ys) cs)) S (around-searched t (interval_of w) xs ys cs K R) (numbers xs A.knots)
      (inverses-number t (interval_of w) xs ys cs near-faces A.time A.knots A.paired A.segments i at l)

  -- "with no knots c itself"
  pub near-plain : {h r : Neighbours} → length xs ≡ 0 → Searched t (starts_of w) nothing h → Searched t (keep in_window cs) h r → NeighboursAre (window_times xs ys cs w) t r
  unfolding window_times
  near-plain {h} {r} e S R =
      subst (λ (l : List Float). NeighboursAre (w.start ∷ ((keep in_window l ++ keep in_window (inverses_of (knots_of l ys) cs)) ++ next_of w)) t r) (sym (empty xs e))
      (subst (λ (l : List Float). NeighboursAre (w.start ∷ (([] ++ keep in_window l) ++ next_of w)) t r) (sym (inverses-none cs))
      (found [] (keep in_window cs) S R tt (numbers cs A.samples)))
    where
      empty : (l : List Float) → length l ≡ 0 → l ≡ []
      empty [] q = refl
      empty (x ∷ l) q = absurd (omega arith)
