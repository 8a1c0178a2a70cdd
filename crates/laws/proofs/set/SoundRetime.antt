-- A retiming keeps a set sound. With a negative scale the order is the sort's. With any other, zeros included, the lists are not sorted again: rounded products
-- and sums keep the numeric order, and the order of `total_cmp` may be lost. Assumes nothing.
use mathlib.Core.Path.{◌≡◌, refl, sym, ap, subst}
use mathlib.Core.Logic.{inl, inr}
use Prim.Native.Nat.{ℕ, ◌<◌}
use native.Mathlib.Omega.{arith}
use mathlib.Core.Bool.{Bool, true, false, not, ◌&&◌, cond}
use mathlib.Core.List.{List, [], ◌∷◌, map}
use lib.Dec.{T, lit<}
use lib.ListN.{length-map}
use lib.Ieee.{Float, nan, inf, fin, binary64, add, lt, le}
use lib.Ieee.Fits.{and_l, and_r, add-fits}
use lib.Ieee.Scale.{finite}
use Rattle.gf.proofs.KeyLaws.{finite-no-nan, le-or-lt}
use Rattle.gf.proofs.Ops.{nought, add-mono-right, mul-mono-right}
use Rattle.gf.proofs.Exactly.{nought-fits, within-finite}
use Rattle.definitions.specs.declared.Knot.{Knot}
use Rattle.definitions.specs.declared.LayerOffset.{LayerOffset}
use Rattle.gf.specs.Doubles.{◌⊕◌, ◌⊗◌, 0·0, total_key}
use Rattle.definitions.specs.declared.Start.{Start}
use Rattle.definitions.specs.ClipSet.{ClipSet, active_times, knot_times, beyond_limits, equal_starts, equal_knots}
use Rattle.definitions.specs.Retime.{apply, is_identity, move_activation, move_knot, moved, sorted, retime_stage_times, moved_number}
use Rattle.laws.proofs.list.Tests.{not-false, passed}
use Rattle.laws.specs.list.Every.{Every, Chain}
use Rattle.laws.proofs.list.Every.{every-both, every-of-map, chain-map, chain-to-map}
use Rattle.laws.specs.list.Places.{Fits, Le}
use Rattle.laws.proofs.list.Sorting.{every-sort}
use Rattle.laws.specs.set.Stored.{Stored}
use Rattle.laws.proofs.set.Stored.{strict-weak}
use Rattle.laws.specs.set.Sound.{Sound, knot_values}
use Rattle.laws.proofs.set.Sound.{sorted-times, sorted-active, sorted-xs, sorted-knots, sorted-ys, length-active, length-knots, strict-starts, InLimits, in-limits}

-- ---- the moved time rises with the time, if the scale is not negative

finite-right : (c a : Float) → T (finite c) → T (finite (add binary64 c a)) → T (finite a)
finite-right nan a p h = absurd p
finite-right (inf s) a p h = absurd p
finite-right (fin s m e) nan p h = unfold add in h
finite-right (fin s m e) (inf t) p h = unfold add in h
finite-right (fin s m e) (fin t n d) p h = tt

stored-fin : (x : Float) → Stored x → T (finite x)
stored-fin x s = within-finite 40 x s.inside

pub apply-fits : (o : LayerOffset) (t : Float) → Fits (apply o t)
unfolding apply
apply-fits o t = add-fits binary64 o.offset (o.scale ⊗ t)

product-fin : (o : LayerOffset) (t : Float) → T (finite o.offset) → Stored (apply o t) → T (finite (o.scale ⊗ t))
unfolding apply
product-fin o t p s = finite-right o.offset (o.scale ⊗ t) p (stored-fin (o.offset ⊕ o.scale ⊗ t) s)

module _ (o : LayerOffset) (p : T (finite o.offset)) (q : T (finite o.scale)) (h : T (le nought o.scale)) where
  pub apply-mono : (x y : Float) → Stored x × Stored (apply o x) → Stored y × Stored (apply o y) → Le x y → Le (apply o x) (apply o y)
  unfolding apply
  apply-mono x y s r l =
      add-mono-right binary64 (o.scale ⊗ x) (o.scale ⊗ y) o.offset (product-fin o x p s.1) (product-fin o y p r.1)
      (mul-mono-right binary64 x y o.scale (stored-fin x s.0) (stored-fin y r.0) l q h) p

  pub apply-chain : (ts : List Float) → Every Stored ts → Every Stored (map (apply o) ts) → Chain Le ts → Chain Le (map (apply o) ts)
  apply-chain ts s r c =
      chain-to-map (apply o) Le ts
      (chain-map (λ (t : Float). Stored t × Stored (apply o t)) Le (λ (x y : Float). Le (apply o x) (apply o y)) apply-mono ts
      (every-both Stored (λ (t : Float). Stored (apply o t)) ts s (every-of-map (apply o) Stored ts r)) c)

-- ---- the moved lists

moved-times : (o : LayerOffset) (active : List Start) → active_times (map (move_activation o) active) ≡ map (apply o) (active_times active)
moved-times o [] = refl
moved-times o (a ∷ active) = ap (λ (ts : List Float). apply o a.time ∷ ts) (moved-times o active)

moved-xs : (o : LayerOffset) (knots : List Knot) → knot_times (map (move_knot o) knots) ≡ map (apply o) (knot_times knots)
moved-xs o [] = refl
moved-xs o (k ∷ knots) = ap (λ (ts : List Float). apply o k.x ∷ ts) (moved-xs o knots)

moved-ys : (o : LayerOffset) (knots : List Knot) → Every Stored (knot_values knots) → Every Stored (knot_values (map (move_knot o) knots))
moved-ys o [] e = tt
moved-ys o (k ∷ knots) e = (e.0, moved-ys o knots e.1)

moved_named : (n : ℕ) (o : LayerOffset) (active : List Start) → Every (λ (a : Start). a.clip < n) active → Every (λ (a : Start). a.clip < n) (map (move_activation o) active)
moved_named n o [] e = tt
moved_named n o (a ∷ active) e = (e.0, moved_named n o active e.1)

map-fits : (o : LayerOffset) (ts : List Float) → Every Fits (map (apply o) ts)
map-fits o [] = tt
map-fits o (t ∷ ts) = (apply-fits o t, map-fits o ts)

-- ---- the tests that failed

pub record RetimePasses (set : ClipSet) (o : LayerOffset) : Type 0 where
  pub offset : T (finite o.offset)
  pub scale : T (finite o.scale)
  pub inside : beyond_limits (retime_stage_times o set) ≡ false
  pub not4 : equal_starts (retime_stage_times o set) ≡ false
  pub not5 : equal_knots (retime_stage_times o set) ≡ false

pub retime-passes : (set : ClipSet) (o : LayerOffset) → moved_number set o ≡ 0 → RetimePasses set o
unfolding moved_number
retime-passes set o e =
    let p2 = passed 2 (not (finite o.offset && finite o.scale)) _ (lit< tt) e in
    let pl = passed 2 (beyond_limits (retime_stage_times o set)) _ (lit< tt) p2.1 in
    let p4 = passed 4 (equal_starts (retime_stage_times o set)) _ (lit< tt) pl.1 in
    let p5 = passed 5 (equal_knots (retime_stage_times o set)) _ (lit< tt) p4.1 in
    let f = not-false (finite o.offset && finite o.scale) p2.0 in
    record { offset = and_l (finite o.offset) (finite o.scale) f; scale = and_r (finite o.offset) (finite o.scale) f; inside = pl.0; not4 = p4.0; not5 = p5.0 }

-- ---- the set, moved and perhaps sorted

module _ (o : LayerOffset) (set : ClipSet) (s : Sound set) where
  starts : List Start
  starts = map (move_activation o) set.active

  knots : List Knot
  knots = map (move_knot o) set.knots

  times-fit : Every Fits (active_times starts)
  unfolding starts
  times-fit = subst (Every Fits) (sym (moved-times o set.active)) (map-fits o (active_times set.active))

  xs-fit : Every Fits (knot_times knots)
  unfolding knots
  xs-fit = subst (Every Fits) (sym (moved-xs o set.knots)) (map-fits o (knot_times set.knots))

  pub moved-sound : T (finite o.offset) → T (finite o.scale) → T (le nought o.scale)
      → beyond_limits (moved o set) ≡ false → equal_starts (moved o set) ≡ false → equal_knots (moved o set) ≡ false → Sound (moved o set)
  unfolding moved starts knots
  moved-sound p q h e e4 e5 =
      let l : InLimits (moved o set) = in-limits (moved o set) times-fit xs-fit (map-fits o set.blocks) e in
      let t : Chain Le (active_times starts) =
      rw (moved-times o set.active)
      (apply-chain o p q h (active_times set.active) s.times (subst (Every Stored) (moved-times o set.active) l.times) (strict-weak (active_times set.active) s.times s.strictly)) in
      let x : Chain Le (knot_times knots) =
      rw (moved-xs o set.knots) (apply-chain o p q h (knot_times set.knots) s.xs (subst (Every Stored) (moved-xs o set.knots) l.xs) s.weakly) in
      record {
        few-clips = s.few-clips;
        few-active = omega (arith, length-map set.active (move_activation o), s.few-active);
        few-knots = omega (arith, length-map set.knots (move_knot o), s.few-knots);
        few-blocks = omega (arith, length-map set.blocks (apply o), s.few-blocks);
        times = l.times;
        strictly = strict-starts (moved o set) l.times t e4;
        named = moved_named set.clips o set.active s.named;
        xs = l.xs;
        ys = moved-ys o set.knots s.ys;
        weakly = x;
        no-three = e5;
        blocks = l.blocks;
        default = s.default;
      }

  pub sorted-sound : beyond_limits (sorted (moved o set)) ≡ false → equal_starts (sorted (moved o set)) ≡ false → equal_knots (sorted (moved o set)) ≡ false → Sound (sorted (moved o set))
  unfolding moved sorted starts knots
  sorted-sound e e4 e5 =
      let l : InLimits (sorted (moved o set)) = in-limits (sorted (moved o set)) (sorted-times Fits starts times-fit) (sorted-xs Fits knots xs-fit) (map-fits o set.blocks) e in
      record {
        few-clips = s.few-clips;
        few-active = omega (arith, length-active starts, length-map set.active (move_activation o), s.few-active);
        few-knots = omega (arith, length-knots knots, length-map set.knots (move_knot o), s.few-knots);
        few-blocks = omega (arith, length-map set.blocks (apply o), s.few-blocks);
        times = l.times;
        strictly = strict-starts (sorted (moved o set)) l.times (sorted-active starts l.times) e4;
        named = every-sort (λ (a : Start). total_key a.time) (λ (a : Start). a.clip < set.clips) starts (moved_named set.clips o set.active s.named);
        xs = l.xs;
        ys = sorted-ys Stored knots (moved-ys o set.knots s.ys);
        weakly = sorted-knots knots l.xs;
        no-three = e5;
        blocks = l.blocks;
        default = s.default;
      }

not_negative : (x : Float) → Fits x → T (finite x) → lt x 0·0 ≡ false → T (le nought x)
not_negative x p q e = elim (le-or-lt nought x (nought-fits binary64) p (finite-no-nan nought tt) (finite-no-nan x q)) [ inl h ↦ h | inr h ↦ absurd (subst T e h) ]

pub retime-sound : (set : ClipSet) (o : LayerOffset) → Sound set → Fits o.scale → moved_number set o ≡ 0 → Sound (retime_stage_times o set)
unfolding retime_stage_times
retime-sound set o s f e = go (is_identity o) (lt o.scale 0·0) refl p.inside p.not4 p.not5
  where
    p : RetimePasses set o
    p = retime-passes set o e

    to : Bool → Bool → ClipSet
    to a b = cond a set (cond b (sorted (moved o set)) (moved o set))

    go : (a b : Bool) → lt o.scale 0·0 ≡ b → beyond_limits (to a b) ≡ false → equal_starts (to a b) ≡ false → equal_knots (to a b) ≡ false → Sound (to a b)
    go true b i e e4 e5 = s
    go false true i e e4 e5 = sorted-sound o set s e e4 e5
    go false false i e e4 e5 = moved-sound o set s p.offset p.scale (not_negative o.scale f p.scale i) e e4 e5
