-- "Stage sample times are finite, strictly ascending, every start among them." Assumes nothing.
use mathlib.Core.List.{List, [], ◌∷◌, ◌++◌}
use Prim.Native.Nat.{ℕ, suc, ◌<◌}
use native.Mathlib.Omega.{arith}
use lib.Dec.{T}
use lib.ListN.{length, get_elem?}
use lib.Ieee.{Float, eq}
use lib.Ieee.Scale.{finite}
use Rattle.definitions.specs.declared.Start.{Start}
use Rattle.definitions.specs.Lists.{any, keep, gather, below}
use Rattle.definitions.specs.Doubles.{FiniteDouble}
use Rattle.definitions.specs.ClipSet.{ClipSet, active_times, knot_times, clip}
use Rattle.definitions.specs.Samples.{Samples}
use Rattle.definitions.specs.Value.{contains, window, stage_times_for_clip_time, start_of, window_sample_times}
use Rattle.definitions.specs.StageSamples.{times_of_clip, stage_sample_times}
use Rattle.laws.specs.Facts.{StageSampleTimes}
use Rattle.laws.specs.list.Every.{Every}
use Rattle.laws.specs.set.Stored.{Stored}
use Rattle.laws.specs.set.Sound.{Sound}
use Rattle.laws.proofs.list.Every.{every_map, every-all, every-left, every-gather, every-below, every-part}
use Rattle.laws.proofs.list.InOrder.{in-order-every, in-order-ascends, in-order-has}
use Rattle.laws.proofs.set.Accepted.{accepted}
use Rattle.laws.proofs.cell.Lent.{chain-ascending}
use Rattle.laws.proofs.cell.WindowTimes.{window-finite, clip-times-stored}

-- what holds of the start of each place holds of every start
every-place : (P : Float → Type 0) (active : List Start) → ((p : ℕ) → p < length active → Every P (start_of (get_elem? active p))) → Every P (active_times active)
every-place P [] h = tt
every-place P (a ∷ rest) h = ((h 0 (omega arith)).0, every-place P rest (λ p l. h (suc p) (omega arith)))

-- a window's times begin with its start
every_first : (P : Float → Type 0) (set : ClipSet) (p : ℕ) (cs : List Float) → Every P (window_sample_times set p cs) → Every P (start_of (get_elem? set.active p))
unfolding window_sample_times
every_first P set p cs h =
    let inside = contains (window set.active p) in
    every-left P (start_of (get_elem? set.active p)) (keep inside (knot_times set.knots) ++ keep inside (gather (λ (c : Float). stage_times_for_clip_time set.knots (clip c)) cs)) h

module _ (set : ClipSet) (s : Samples) (S : Sound set) (stored : Every Stored s.times) where
  abbrev part : ℕ → List Float
  part p = window_sample_times set p (times_of_clip s (get_elem? set.active p))

  abbrev all-parts : List Float
  all-parts = gather part (below (length set.active))

  parts-finite : Every FiniteDouble all-parts
  parts-finite =
      every-gather (λ (p : ℕ). p < length set.active) FiniteDouble part
      (λ p l. window-finite set S p (times_of_clip s (get_elem? set.active p)) (clip-times-stored set S s stored (get_elem? set.active p))) (below (length set.active)) (every-below (length set.active))

  times-finite : Every FiniteDouble (stage_sample_times set s)
  unfolding stage_sample_times
  times-finite = in-order-every FiniteDouble all-parts parts-finite

  abbrev Listed : Float → Type 0
  Listed start = T (any (λ (t : Float). eq t start) (stage_sample_times set s))

  starts-listed : Every Listed (active_times set.active)
  unfolding stage_sample_times
  starts-listed =
      every-place Listed set.active
      (λ p l. every_first Listed set p (times_of_clip s (get_elem? set.active p)) (every-part Listed part (length set.active) p l (in-order-has all-parts parts-finite)))

pub stage-sample-times : StageSampleTimes
unfolding stage_sample_times
stage-sample-times set s g =
    let stored = (accepted set s g.doubles g.accepted).stored in
    let S = g.sound in
    record {
      finitely = every-all (λ (t : Float). finite t) (stage_sample_times set s) (every_map FiniteDouble (λ (t : Float). T (finite t)) (λ t f. f.finitely) (stage_sample_times set s) (times-finite set s S stored));
      ascend = chain-ascending (stage_sample_times set s) (in-order-ascends (all-parts set s S stored) (parts-finite set s S stored));
      starts = every-all (λ (start : Float). any (λ (t : Float). eq t start) (stage_sample_times set s)) (active_times set.active) (starts-listed set s S stored);
    }
