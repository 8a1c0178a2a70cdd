-- The times of a window are finite, in a well-formed set and for stored samples. Assumes nothing.
use mathlib.Core.Bool.{Bool, true, false, cond}
use mathlib.Core.List.{List, [], ◌∷◌, ◌++◌}
use mathlib.Core.Option.{Option, none, some}
use Prim.Native.Nat.{ℕ, suc}
use lib.Dec.{T}
use lib.ListN.{get_elem?}
use lib.Ieee.{Float, binary64}
use lib.Ieee.Fits.{add-fits}
use Rattle.gf.specs.Doubles.{◌⊖◌, ◌⊗◌, ◌⊘◌}
use Rattle.definitions.specs.declared.Knot.{Knot}
use Rattle.definitions.specs.declared.Start.{Start}
use Rattle.definitions.specs.Lists.{keep, gather, pairs_from}
use Rattle.definitions.specs.Doubles.{FiniteDouble}
use Rattle.definitions.specs.ClipSet.{ClipSet, active_times, knot_times, clip}
use Rattle.definitions.specs.Samples.{Samples, clip_times}
use Rattle.definitions.specs.Value.{contains, window, spans, inverse, on_pair, stage_times_for_clip_time, start_of, window_sample_times, contributes, contributed_times, gathered}
use Rattle.definitions.specs.StageSamples.{times_of_clip}
use Rattle.laws.specs.list.Every.{Every, Chain, ChainFrom}
use Rattle.laws.proofs.list.Every.{every_append, every-keep, every-gather}
use Rattle.laws.specs.list.Places.{Le}
use Rattle.laws.specs.set.Stored.{Stored}
use Rattle.laws.proofs.set.Stored.{stored-finite}
use Rattle.laws.specs.set.Sound.{Sound}
use Rattle.laws.proofs.set.Sound.{sound-knots as knots-ascend}
use Rattle.laws.proofs.set.Accepted.{clip-stored}
use Rattle.laws.specs.cell.Knots.{SoundKnot}
use Rattle.laws.proofs.cell.Inverse.{inverse-spanned}
use Rattle.laws.proofs.cell.Window.{every-start}
use Rattle.laws.proofs.cell.Lent.{sound-set}

-- ---- inverse times

module _ (c : Float) where
  pair-finite : (a b : Knot) → SoundKnot a → SoundKnot b → Le a.x b.x → Every FiniteDouble (on_pair c (a, b))
  pair-finite a b A B wide = go (spans a.y b.y c) (λ h. h)
    where
      go : (t : Bool) → (T t → T (spans a.y b.y c)) → Every FiniteDouble (cond t (inverse a b c ∷ []) [])
      go true h = (record { fitting = add-fits binary64 a.x ((c ⊖ a.y) ⊘ (b.y ⊖ a.y) ⊗ (b.x ⊖ a.x)); finitely = (inverse-spanned a b A B wide c (h tt)).0 }, tt)
      go false h = tt

  pairs-finite : (k : Knot) (l : List Knot) → Every SoundKnot (k ∷ l) → ChainFrom Le k.x (knot_times l) → Every FiniteDouble (gather (on_pair c) (pairs_from k l))
  pairs-finite k [] s o = tt
  pairs-finite k (n ∷ l) s o = every_append FiniteDouble (on_pair c (k, n)) (gather (on_pair c) (pairs_from n l)) (pair-finite k n s.0 s.1.0 o.0) (pairs-finite n l s.1 o.1)

  stage-finite : (knots : List Knot) → Every SoundKnot knots → Chain Le (knot_times knots) → Stored c → Every FiniteDouble (stage_times_for_clip_time knots (clip c))
  unfolding stage_times_for_clip_time
  stage-finite [] s o f = (stored-finite c f, tt)
  stage-finite (k ∷ l) s o f = pairs-finite k l s o

-- ---- a window's times

module _ (set : ClipSet) (S : Sound set) where
  finite-starts : Every FiniteDouble (active_times set.active)
  finite-starts = (sound-set set S).starts

  abbrev inside : ℕ → Float → Bool
  inside p = contains (window set.active p)

  abbrev inverses : List Float → List Float
  inverses cs = gather (λ (c : Float). stage_times_for_clip_time set.knots (clip c)) cs

  pub window-finite : (p : ℕ) (cs : List Float) → Every Stored cs → Every FiniteDouble (window_sample_times set p cs)
  unfolding window_sample_times
  window-finite p cs f =
      every_append FiniteDouble (start_of (get_elem? set.active p)) (keep (inside p) (knot_times set.knots) ++ keep (inside p) (inverses cs)) (every-start FiniteDouble set.active p finite-starts)
      (every_append FiniteDouble (keep (inside p) (knot_times set.knots)) (keep (inside p) (inverses cs))
      (every-keep FiniteDouble (inside p) (knot_times set.knots) (knots-ascend set S).numbers)
      (every-keep FiniteDouble (inside p) (inverses cs) (every-gather Stored FiniteDouble (λ (c : Float). stage_times_for_clip_time set.knots (clip c)) (λ c h. stage-finite c set.knots (sound-set set S).knots S.weakly h) cs f)))

  module _ (s : Samples) (stored : Every Stored s.times) where
    pub clip-times-stored : (o : Option Start) → Every Stored (times_of_clip s o)
    clip-times-stored none = tt
    clip-times-stored (some a) = clip-stored s a.clip stored

    contributed-stored : (o : Option Start) → Every Stored (contributed_times set s o)
    contributed-stored none = tt
    contributed-stored (some a) = go (contributes set a)
      where
        go : (b : Bool) → Every Stored (cond b (clip_times s a.clip) [])
        go true = clip-stored s a.clip stored
        go false = tt

    pub gathered-finite : (p : ℕ) → Every FiniteDouble (gathered set s p)
    unfolding gathered
    gathered-finite p =
        let cs = contributed_times set s (get_elem? set.active p) in
        every_append FiniteDouble (window_sample_times set p cs) (start_of (get_elem? set.active (suc p))) (window-finite p cs (contributed-stored (get_elem? set.active p)))
        (every-start FiniteDouble set.active (suc p) finite-starts)
