-- A set's lists, moved, are the moved set's, and in order the retimed set's. Assumes nothing.
use Prim.Native.Nat.{ℕ}
use mathlib.Core.Path.{◌≡◌, refl, ap, ◌∙◌}
use mathlib.Core.Bool.{Bool, true, false, cond}
use mathlib.Core.List.{List, [], ◌∷◌, map}
use lib.Ieee.{Float, lt}
use Rattle.gf.specs.Doubles.{0·0}
use Rattle.definitions.specs.declared.Knot.{Knot}
use Rattle.definitions.specs.declared.Start.{Start}
use Rattle.definitions.specs.declared.LayerOffset.{LayerOffset}
use Rattle.definitions.specs.declared.Missing.{Missing}
use Rattle.definitions.specs.ClipSet as Definitions
use Rattle.definitions.specs.ClipSet.{active_times, knot_times, sort_active, sort_knots}
use Rattle.definitions.specs.Retime.{apply, move_activation, move_knot, moved, sorted}
use Rattle.laws.specs.set.Sound.{knot_values}
use Rattle.laws.specs.cell.Lent.{active_of, knots_of, set_of}
use Rattle.clip.specs.declared.ClipSet.{ClipSet}
use Rattle.clip.specs.Holding.{active_in, active_clips, knots_in, blocks_in, clip_set_of, manifest_of}
use Rattle.clip.specs.Retiming.{active_turned, knots_turned, moved_and_sorted}
use Rattle.clip.proofs.Stored.{sorted-is}

module _ (o : LayerOffset) where
  active-moved : (l : List Start) → active_of (map (apply o) (active_times l)) (active_clips l) ≡ map (move_activation o) l
  active-moved [] = refl
  active-moved (a ∷ l) = ap (λ (r : List Start). move_activation o a ∷ r) (active-moved l)

  knots-moved : (l : List Knot) → knots_of (map (apply o) (knot_times l)) (knot_values l) ≡ map (move_knot o) l
  knots-moved [] = refl
  knots-moved (k ∷ l) = ap (λ (r : List Knot). move_knot o k ∷ r) (knots-moved l)

  pub moved-is : (set : ClipSet) (times moved-times : List Float) (numbers : List ℕ) (xs moved-xs ys blocks moved-blocks : List Float)
      → times ≡ active_times (active_in set.active) → numbers ≡ active_clips (active_in set.active) → xs ≡ knot_times (knots_in set.knots) → ys ≡ knot_values (knots_in set.knots) → blocks ≡ blocks_in set.blocks
      → moved-times ≡ map (apply o) times → moved-xs ≡ map (apply o) xs → moved-blocks ≡ map (apply o) blocks
      → set_of set.clips moved-times numbers moved-xs ys moved-blocks (manifest_of set) ≡ moved o (clip_set_of set)
  unfolding set_of moved
  moved-is set times times' numbers xs xs' ys blocks blocks' t n x y b t' x' b' =
      rw (t', x', b', t, n, x, y, b, active-moved (active_in set.active), knots-moved (knots_in set.knots))

module _ (o : LayerOffset) (set : Definitions.ClipSet) (clips : ℕ) (times us : List Float) (numbers vs : List ℕ) (xs ys ps qs blocks : List Float) (m : Missing) where
  kept-order : active_of us vs ≡ active_of times numbers → knots_of ps qs ≡ knots_of xs ys → set_of clips us vs ps qs blocks m ≡ set_of clips times numbers xs ys blocks m
  unfolding set_of
  kept-order e f = rw (e, f)

  -- the moved lists in order are the retimed set's
  pub turned-is : set_of clips times numbers xs ys blocks m ≡ moved o set → active_of us vs ≡ active_turned o.scale (active_of times numbers) → knots_of ps qs ≡ knots_turned o.scale (knots_of xs ys)
      → set_of clips us vs ps qs blocks m ≡ moved_and_sorted o set
  unfolding moved_and_sorted
  turned-is w = go (lt o.scale 0·0)
    where
      go : (b : Bool) → active_of us vs ≡ cond b (sort_active (active_of times numbers)) (active_of times numbers) → knots_of ps qs ≡ cond b (sort_knots (knots_of xs ys)) (knots_of xs ys)
          → set_of clips us vs ps qs blocks m ≡ cond b (sorted (moved o set)) (moved o set)
      go true e f = sorted-is clips times us numbers vs xs ys ps qs blocks m e f ∙ ap sorted w
      go false e f = kept-order e f ∙ w
