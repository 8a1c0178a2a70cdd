-- The active clip by its place among the starts. Assumes nothing.
use Rattle.std.specs.Prelude.{None, Some}
use Prim.Native.Nat.{ℕ, suc, ◌<◌}
use mathlib.Core.Path.{◌≡◌, sym, ap, ◌∙◌}
use mathlib.Core.Bool.{Bool, true, false, cond}
use mathlib.Core.List.{List, [], ◌∷◌}
use native.Mathlib.Omega.{arith}
use mathlib.Core.Option.{Option}
use lib.ListN.{length, get_or, get_elem?, take}
use lib.Seq.{get_or-take}
use lib.Ieee.{Float, nan, le}
use Rattle.definitions.specs.declared.Start.{Start}
use Rattle.definitions.specs.declared.StageTime.{StageTime}
use Rattle.definitions.specs.Lists.{any}
use Rattle.definitions.specs.Timing.{last_at_most, active_position, active_entry, clip_of}
use Rattle.laws.specs.cell.Lent.{start, active_of}
use Rattle.laws.proofs.cell.Lent.{active-times, zip-here}
use Rattle.definitions.specs.ClipSet.{max_active}
use Rattle.clip.specs.Holding.{Room}
use Rattle.standing.specs.Standing.{answered}
use Rattle.standing.proofs.Arrays.{front}

-- the place that a search finds lies in the list
pub last_within : (xs : List Float) (t : Float) → 0 < length xs → last_at_most xs t < length xs
unfolding last_at_most
last_within [] t h = absurd (omega arith)
last_within (x ∷ []) t h = omega arith
last_within (x ∷ y ∷ ys) t h = go (any (λ (z : Float). le z t) (y ∷ ys)) (last_within (y ∷ ys) t (omega arith))
  where
    go : (b : Bool) → last_at_most (y ∷ ys) t < suc (length ys) → cond b (suc (last_at_most (y ∷ ys) t)) 0 < suc (suc (length ys))
    go true l = omega arith
    go false l = omega arith

module _ (n : ℕ) (starts : List Float) (numbers : List ℕ) (p : Room max_active starts n) (q : Room max_active numbers n) (t : StageTime) where
  pub place-within : 0 < n → last_at_most (take n starts) t.0 < n
  place-within h = let e = front p in let l = last_within (take n starts) t.0 (omega arith) in omega arith

  pub none-active : n ≡ 0 → None ≡ answered (clip_of (active_entry (active_of (take n starts) (take n numbers)) t))
  unfolding active_entry active_position last_at_most
  none-active e = rw e

  pub active-is : 0 < n → Some (get_or numbers (last_at_most (take n starts) t.0) 0) ≡ answered (clip_of (active_entry (active_of (take n starts) (take n numbers)) t))
  unfolding active_entry active_position
  active-is h =
      let e : length (take n starts) ≡ length (take n numbers) = sym (front p) ∙ front q in
      let l = place-within h in
      let m = front p in
      ap Some (sym (get_or-take n numbers (last_at_most (take n starts) t.0) 0 l))
      ∙ sym (ap (λ (o : Option Start). answered (clip_of o)) (zip-here start (take n starts) (take n numbers) (last_at_most (take n starts) t.0) nan 0 e (omega arith)))
      ∙ ap (λ (k : List Float). answered (clip_of (get_elem? (active_of (take n starts) (take n numbers)) (last_at_most k t.0)))) (sym (active-times (take n starts) (take n numbers) e))
