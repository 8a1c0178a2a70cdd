-- The last inverse time of a segment below a bound. Assumes nothing.
use Rattle.std.specs.Prelude.{Option, None, Some}
use mathlib.Core.Path.{subst}
use mathlib.Core.Bool.{Bool, cond}
use mathlib.Core.List.{List, [], ◌∷◌}
use Prim.Native.Nat.{ℕ, ◌+◌, ◌<◌}
use lib.Dec.{T}
use lib.ListN.{length, get_or}
use lib.Ieee.{Float, nan, le}
use Rattle.gf.proofs.KeyLaws.{lt-le-trans}
use Rattle.definitions.specs.declared.Knot.{Knot}
use Rattle.definitions.specs.Lists.{gather}
use Rattle.definitions.specs.Value.{spans, inverse, on_pair}
use Rattle.laws.proofs.list.Tests.{is_true}
use Rattle.laws.specs.list.Every.{Every}
use Rattle.laws.proofs.list.Every.{every-at}
use Rattle.laws.specs.list.Places.{Fits, Number}
use Rattle.window.specs.Bounds.{In}
use Rattle.window.proofs.BoundsLaws.{in-every, every_in}
use Rattle.window.specs.Inverses.{on_segment}
use Rattle.window.proofs.Inverses.{every-each}
use Rattle.window.specs.search.Latest.{segment_of}
use Rattle.run.proofs.RunLaws.{segment-fits}
use Rattle.run.specs.begin.Begins.{BeforeIs, LastIs}

pub in-segment : (cs : List Float) (q : Knot × Knot) (i : ℕ) → i < length cs → T (spans q.0.y q.1.y (get_or cs i nan)) → In (inverse q.0 q.1 (get_or cs i nan)) (on_segment cs q)
unfolding on_segment
in-segment cs q i h s = one
  where
    all : Every (λ (d : Float). Every (λ (x : Float). In x (gather (λ (e : Float). on_pair e q) cs)) (on_pair d q)) cs
    all = every-each (λ (x : Float). In x (gather (λ (e : Float). on_pair e q) cs)) (λ (d : Float). on_pair d q) cs (every_in (gather (λ (e : Float). on_pair e q) cs))

    here : Every (λ (x : Float). In x (gather (λ (e : Float). on_pair e q) cs)) (on_pair (get_or cs i nan) q)
    here = every-at (λ (d : Float). Every (λ (x : Float). In x (gather (λ (e : Float). on_pair e q) cs)) (on_pair d q)) cs i nan all h

    one : In (inverse q.0 q.1 (get_or cs i nan)) (gather (λ (e : Float). on_pair e q) cs)
    one = (subst (λ (b : Bool). Every (λ (x : Float). In x (gather (λ (e : Float). on_pair e q) cs)) (cond b (inverse q.0 q.1 (get_or cs i nan) ∷ []) [])) (is_true (spans q.0.y q.1.y (get_or cs i nan)) s) here).0

-- what is below a time that is at most two others is below both
pub last-is-in : (xs ys cs : List Float) (i : ℕ) (max ceil : Float) → Fits max → Fits ceil → Number (get_or xs (i + 1) nan) → T (le ceil max) → T (le ceil (get_or xs (i + 1) nan))
    → (r : Option Float) → BeforeIs cs (segment_of xs ys i) ceil r → LastIs xs ys cs i max r
last-is-in xs ys cs i max ceil fm fc nx m x None b = tt
last-is-in xs ys cs i max ceil fm fc nx m x (Some h) b =
    let fh = in-every Fits h (on_segment cs (segment_of xs ys i)) (segment-fits cs (segment_of xs ys i)) b.0 in
    (b.0, lt-le-trans h ceil max fh fc fm b.1 m, lt-le-trans h ceil (get_or xs (i + 1) nan) fh fc nx.0 b.1 x)
