-- The window of a start with all samples of its clip, as stage sample times have it, and a search among its times. Assumes nothing.
use mathlib.Core.Path.{◌≡◌, refl, sym, ap₂, ◌∙◌, subst}
use mathlib.Core.Bool.{Bool, true, false, cond}
use mathlib.Core.List.{List, [], ◌∷◌, ◌++◌}
use Prim.Native.Nat.{ℕ, ◌+◌, ◌-◌, ◌≤◌, ◌<◌}
use native.Mathlib.Omega.{arith}
use lib.Dec.{T, eqb, ltb}
use lib.ListN.{length, get_or, take, drop}
use lib.Ieee.{Float, nan, inf, lt, le}
use borrow.Author.Tests.{ltb-true, eqb-false}
use Rattle.gf.proofs.KeyLaws.{key→le, key→lt, finite-no-nan}
use Rattle.gf.specs.declared.interval.Interval.{Interval}
use Rattle.definitions.specs.Lists.{keep}
use Rattle.definitions.specs.Doubles.{FiniteDouble}
use Rattle.definitions.specs.Timing.{last_at_most}
use Rattle.laws.proofs.list.Tests.{is_true}
use Rattle.laws.proofs.list.Every.{every-at}
use Rattle.laws.specs.list.Places.{Ascending}
use Rattle.laws.proofs.cell.Window.{inf-below, inf-above}
use Rattle.laws.specs.cell.Lent.{knots_of}
use Rattle.window.specs.declared.Neighbours.{Neighbours}
use Rattle.window.specs.Parts.{part_of}
use Rattle.window.specs.Bounds.{inside, UpperIs, NeighboursAre}
use Rattle.window.specs.Inverses.{inverses_of}
use Rattle.window.specs.Windows.{min_of, max_of, window_part}
use Rattle.window.proofs.nearest.Beside.{finite_number, number_at, next-above, last-reached}
use Rattle.window.specs.declared.search.Window.{Window}
use Rattle.window.specs.search.Latest.{LatestOf}
use Rattle.window.specs.search.Windowed.{samples_in, next_of, window_times, Nearing}
use Rattle.stage.specs.Whole.{whole_times, next_start, Windows, WholeWindow}

no_more : lt (inf false) (inf false) ≡ false
unfolding lt
no_more = refl

-- a time lies inside the window that is active at it
module _ {starts : List Float} {clips : List ℕ} {xs ys times : List Float} {ends : List ℕ} (A : Windows starts clips xs ys times ends) (p : ℕ) (h : p < length starts) (t : Float) (at : p ≡ last_at_most starts t) (ft : FiniteDouble t) where
  pub own-from : T (le (min_of starts p) t)
  own-from = go (eqb p 0) refl
    where
      go : (b : Bool) → eqb p 0 ≡ b → T (le (cond b (inf true) (get_or starts p nan)) t)
      go true q = inf-below t (finite-no-nan t ft.finitely)
      go false q =
          let n = eqb-false p 0 q in
          let x = number_at starts A.rising p h in
          let y = finite_number t ft in
          key→le (get_or starts p nan) t x.0 y.0 x.1 y.1 (last-reached starts A.rising t ft p at (omega arith) h)

  pub own_below : T (lt t (max_of starts p))
  own_below = go (ltb (p + 1) (length starts)) refl
    where
      go : (b : Bool) → ltb (p + 1) (length starts) ≡ b → T (lt t (cond b (get_or starts (p + 1) nan) (inf false)))
      go true q =
          let l = ltb-true (p + 1) (length starts) q in
          let x = number_at starts A.rising (p + 1) l in
          let y = finite_number t ft in
          key→lt t (get_or starts (p + 1) nan) y.0 x.0 y.1 x.1 (next-above starts A.rising t ft p at l)
      go false q = inf-above t ft.finitely

module _ {starts : List Float} {clips : List ℕ} {xs ys times : List Float} {ends : List ℕ} (A : Windows starts clips xs ys times ends) (p : ℕ) (h : p < length starts) (w : Window) (W : WholeWindow starts clips ends p w) where
  abbrev c : ℕ
  c = get_or clips p 0

  part-is : samples_in times w ≡ part_of times ends c
  part-is = ap₂ (λ (e b : ℕ). take (e - b) (drop b times)) W.end W.begin

  -- its samples lie in their list
  pub whole-order : w.begin ≤ w.end
  whole-order = omega (arith, W.begin, W.end, A.readable.from c (A.named p h))

  pub whole-upto : w.end ≤ length times
  whole-upto = omega (arith, W.end, A.readable.inside c (A.named p h))

  start-finite : (i : ℕ) → i < length starts → FiniteDouble (get_or starts i nan)
  start-finite i l = every-at FiniteDouble starts i nan A.rising.numbers l

  -- the premises of a search
  module _ (t : Float) (at : p ≡ last_at_most starts t) (ft : FiniteDouble t) where
    pub whole-nears : (latest : List Float) → LatestOf xs ys latest → Nearing xs ys latest (samples_in times w) w t
    whole-nears latest O = record {
      knots = A.readable.knots;
      paired = A.readable.paired;
      segments = A.readable.segments;
      reach = O;
      samples = subst Ascending (sym part-is) (A.readable.rising c (A.named p h));
      time = ft;
      start = subst FiniteDouble (sym W.start) (start-finite p h);
      from = subst (λ (x : Float). T (le x t)) (sym W.min) (own-from A p h t at ft);
      upto = subst (λ (x : Float). T (lt t x)) (sym W.max) (own_below A p h t at ft);
    }

  next-is : next_of w ≡ next_start starts p
  next-is = go (ltb (p + 1) (length starts)) refl W.max
    where
      go : (b : Bool) → ltb (p + 1) (length starts) ≡ b → w.max ≡ cond b (get_or starts (p + 1) nan) (inf false) → next_of w ≡ cond b (get_or starts (p + 1) nan ∷ []) []
      go true q e =
          let f = is_true (lt (get_or starts (p + 1) nan) (inf false)) (inf-above (get_or starts (p + 1) nan) (start-finite (p + 1) (ltb-true (p + 1) (length starts) q)).finitely) in
          rw (e, f) refl
      go false q e = rw (e, no_more) refl

  -- its times
  times-are : window_times xs ys (samples_in times w) w ≡ whole_times starts clips xs ys times ends p ++ next_start starts p
  unfolding window_times window_part
  times-are =
      ap₂ (λ (v : Interval) (x : Float). x ∷ ((keep (inside v) xs ++ keep (inside v) (inverses_of (knots_of xs ys) (samples_in times w))) ++ next_of w)) (ap₂ mk W.min W.max) W.start
      ∙ ap₂ (λ (k n : List Float). window_part starts xs ys p k ++ n) part-is next-is
    where
      mk : Float → Float → Interval
      mk a b = record { min = a; max = b }

  -- what a search finds
  pub whole-found : (t : Float) (r : Neighbours) → NeighboursAre (window_times xs ys (samples_in times w) w) t r → UpperIs (whole_times starts clips xs ys times ends p ++ next_start starts p) t r.upper
  whole-found t r N = (subst (λ (l : List Float). NeighboursAre l t r) times-are N).upper
