-- The place where the inverse times of one segment pass a time. Assumes nothing.
use Rattle.std.specs.Prelude.{◌≡◌, Bool, true, false, cond, List, [], ℕ, suc, ◌≤◌, ◌<◌, ltb, length, get_or, Float}
use Rattle.std.specs.Float.{nan}
use Rattle.std.specs.Float.Ieee.{lt, le}
use Rattle.definitions.specs.declared.Knot.{Knot}
use Rattle.definitions.specs.Value.{inverse, on_pair}

-- ---- where the inverse times pass t

-- the sample c lies behind the place where they do: beyond the segment's upper clip time, or its inverse time is past t, as the segment rises or falls
unfoldable pub is_beyond : Float → Knot × Knot → Float → Bool
is_beyond t q c =
    cond (lt q.0.y q.1.y)
    (cond (lt q.1.y c) true (cond (lt c q.0.y) false (lt t (inverse q.0 q.1 c))))
    (cond (lt q.0.y c) true (cond (lt c q.1.y) false (le (inverse q.0 q.1 c) t)))

-- n is the place: the sample at n is behind it, the one before is not
pub record Crossing (p : Float → Bool) (cs : List Float) (n : ℕ) : Type 0 where
  pub upto : n ≤ length cs
  pub before : (i : ℕ) → suc i ≡ n → p (get_or cs i nan) ≡ false
  pub here : n < length cs → p (get_or cs n nan) ≡ true

-- the inverse time of the sample at a place, and of the one before it
abbrev pub sample_at : List Float → Knot × Knot → ℕ → List Float
sample_at cs q i = cond (ltb i (length cs)) (on_pair (get_or cs i nan) q) []
