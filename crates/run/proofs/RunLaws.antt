-- A run of samples that are passed in one segment of knots: the value is held from the inverse time that was passed last. What is read at each key, its changes,
-- and the walk from one inverse time to the next. Assumes nothing.
use mathlib.Core.Path.{◌≡◌, sym, ap, ◌∙◌, subst}
use mathlib.Core.Bool.{Bool, true, false, cond}
use mathlib.Core.List.{List, [], ◌∷◌, ◌++◌}
use mathlib.Core.Option.{some}
use Prim.Native.Nat.{ℕ}
use native.Mathlib.Nat.{le_antisymm}
use lib.Dec.{T}
use lib.Ieee.{Float, lt, le}
use Rattle.gf.specs.Doubles.{key, of_key}
use Rattle.gf.proofs.KeyLaws.{of_key-fits, le→key, le-no-nan}
use Rattle.definitions.specs.declared.Knot.{Knot}
use Rattle.definitions.specs.Lists.{keep}
use Rattle.definitions.specs.Doubles.{FiniteDouble}
use Rattle.definitions.specs.Value.{spans, inverse, greatest, maximum, lower_neighbour}
use Rattle.laws.proofs.list.Tests.{is_true}
use Rattle.laws.specs.list.Every.{Every}
use Rattle.laws.proofs.list.Every.{every-keep}
use Rattle.laws.specs.cell.Neighbours.{IsLower}
use Rattle.laws.proofs.cell.Neighbours.{lower-found}
use Rattle.laws.specs.list.Places.{Fits}
use Rattle.window.specs.Inverses.{on_segment}
use Rattle.window.proofs.SoundSegments.{inverse-fits}
use Rattle.run.specs.Runs.{passed_by}

-- ---- the time passed last as a lower neighbour

pub segment-fits : (cs : List Float) (q : Knot × Knot) → Every Fits (on_segment cs q)
unfolding on_segment
segment-fits [] q = tt
segment-fits (c ∷ cs) q = go (spans q.0.y q.1.y c) (segment-fits cs q)
  where
    go : (b : Bool) → Every Fits (on_segment cs q) → Every Fits (cond b (inverse q.0 q.1 c ∷ []) [] ++ on_segment cs q)
    go true h = (inverse-fits q c, h)
    go false h = h

greatest-fits : (x : Float) (l : List Float) → Fits x → Every Fits l → Fits (greatest x l)
greatest-fits x [] f h = f
greatest-fits x (y ∷ l) f h = greatest-fits (cond (lt x y) y x) l (go (lt x y)) h.1
  where
    go : (b : Bool) → Fits (cond b y x)
    go true = h.0
    go false = f

module _ (cs : List Float) (q : Knot × Knot) (floor : Float) (ff : FiniteDouble floor) (j : ℕ) (h : T (le floor (of_key j))) where
  abbrev times : List Float
  times = floor ∷ on_segment cs q

  passed_is : lower_neighbour times (of_key j) ≡ some (passed_by cs q floor (of_key j))
  unfolding lower_neighbour passed_by
  passed_is = ap (λ (b : Bool). maximum (cond b (floor ∷ keep (λ (x : Float). le x (of_key j)) (on_segment cs q)) (keep (λ (x : Float). le x (of_key j)) (on_segment cs q)))) (is_true (le floor (of_key j)) h)

  pub passed-fits : Fits (passed_by cs q floor (of_key j))
  unfolding passed_by
  passed-fits = greatest-fits floor (keep (λ (x : Float). le x (of_key j)) (on_segment cs q)) ff.fitting (every-keep Fits (λ (x : Float). le x (of_key j)) (on_segment cs q) (segment-fits cs q))

  pub passing-lower : (l : Float) → IsLower times (of_key j) l → key (passed_by cs q floor (of_key j)) ≡ key l
  passing-lower l L =
      let m = lower-found times (ff.fitting, segment-fits cs q) (of_key j) (of_key-fits j) l L in
      let e : passed_by cs q floor (of_key j) ≡ m.0 = let a = sym passed_is ∙ m.1 in cc in
      let f : Fits m.0 = subst Fits e passed-fits in
      let n = le-no-nan l m.0 m.2.0 in
      let a = le→key l m.0 L.fits f n.0 n.1 m.2.0 in
      let b = le→key m.0 l f L.fits n.1 n.0 m.2.1 in
      ap key e ∙ le_antisymm b a
