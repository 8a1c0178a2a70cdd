-- Two neighbouring knots of a set: the inverse times between them lie from the first x up to the inverse time of the second clip time. Assumes nothing.
use mathlib.Core.Path.{subst}
use mathlib.Core.Logic.{inl, inr}
use mathlib.Core.Bool.{Bool, ◌&&◌}
use mathlib.Core.List.{List, [], ◌∷◌}
use Prim.Native.Nat.{ℕ, ◌+◌, ◌<◌}
use native.Mathlib.Numerals.{add-one}
use lib.ListN.{length, get_or}
use native.Mathlib.Omega.{arith}
use lib.Dec.{T}
use lib.Ieee.{Float, binary64, lt, le}
use lib.Ieee.Fits.{add-fits}
use Rattle.gf.proofs.KeyLaws.{le_refl, lt→le, finite-no-nan}
use Rattle.gf.proofs.Exactly.{within-finite}
use Rattle.gf.specs.Doubles.{◌⊖◌, ◌⊗◌, ◌⊘◌}
use Rattle.definitions.specs.declared.Knot.{Knot}
use Rattle.definitions.specs.Lists.{pairs, pairs_from}
use Rattle.definitions.specs.ClipSet.{knot_times}
use Rattle.definitions.specs.Value.{spans, inverse}
use Rattle.laws.specs.list.Every.{Every, Chain, ChainFrom}
use Rattle.laws.proofs.list.Every.{every-at}
use Rattle.laws.specs.list.Places.{Le, Fits}
use Rattle.laws.proofs.set.Stored.{length_pairs, pairs-at}
use Rattle.laws.proofs.list.Tests.{both_l, both_r, or_split}
use Rattle.laws.specs.cell.Knots.{SoundKnot}
use Rattle.laws.proofs.cell.Inverse.{inverse-fin-up, inverse-fin-down, inverse-up, inverse-down}
use Rattle.window.specs.SoundSegments.{SoundSegment}

segments-from : (k : Knot) (l : List Knot) → Every SoundKnot (k ∷ l) → ChainFrom Le k.x (knot_times l) → Every SoundSegment (pairs_from k l)
segments-from k [] s c = tt
segments-from k (n ∷ l) s c = (record { first = s.0; second = s.1.0; wide = c.0 }, segments-from n l s.1 c.1)

pub segments : (l : List Knot) → Every SoundKnot l → Chain Le (knot_times l) → Every SoundSegment (pairs l)
segments [] s c = tt
segments (k ∷ l) s c = segments-from k l s c

-- by its place
pub segment-at : (l : List Knot) → Every SoundSegment (pairs l) → (i : ℕ) (d : Knot) → i + 1 < length l → SoundSegment (get_or l i d, get_or l (i + 1) d)
segment-at [] h i d k = absurd (omega arith)
segment-at (x ∷ l) h i d k =
    rw (add-one i) (subst SoundSegment (pairs-at (x ∷ l) i d (omega arith)) (every-at SoundSegment (pairs (x ∷ l)) i (d, d) h (omega (arith, length_pairs x l))))

-- the last of the inverse times
abbrev pub top_of : Knot × Knot → Float
top_of q = inverse q.0 q.1 q.1.y

pub inverse-fits : (q : Knot × Knot) (c : Float) → Fits (inverse q.0 q.1 c)
inverse-fits q c = add-fits binary64 q.0.x ((c ⊖ q.0.y) ⊘ (q.1.y ⊖ q.0.y) ⊗ (q.1.x ⊖ q.0.x))

pub range : (q : Knot × Knot) → SoundSegment q → (c : Float) → T (spans q.0.y q.1.y c) → T (le q.0.x (inverse q.0 q.1 c)) × T (le (inverse q.0 q.1 c) (top_of q))
range q s c h = elim (or_split (up && from && to) (down && under && over) h) [
  | inl u ↦
      let p = both_l (up && from) to u in
      let r = both_l up from p in
      let f = both_r up from p in
      let t = both_r (up && from) to u in
      ((inverse-fin-up q.0 q.1 s.first s.second s.wide r c f t).1, inverse-up q.0 q.1 s.first s.second s.wide r c q.1.y f t (lt→le q.0.y q.1.y r) itself t)
  | inr u ↦
      let p = both_l (down && under) over u in
      let r = both_l down under p in
      let f = both_r down under p in
      let t = both_r (down && under) over u in
      ((inverse-fin-down q.0 q.1 s.first s.second s.wide r c f t).1, inverse-down q.0 q.1 s.first s.second s.wide r q.1.y c itself (lt→le q.1.y q.0.y r) f t f)
]
  where
    up : Bool
    up = lt q.0.y q.1.y

    from : Bool
    from = le q.0.y c

    to : Bool
    to = le c q.1.y

    down : Bool
    down = lt q.1.y q.0.y

    under : Bool
    under = le q.1.y c

    over : Bool
    over = le c q.0.y

    itself : T (le q.1.y q.1.y)
    itself = le_refl q.1.y s.second.fy (finite-no-nan q.1.y (within-finite 40 q.1.y s.second.by))
