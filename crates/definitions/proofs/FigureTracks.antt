-- The two tracks of the figures marked (P) in docs/VALUE-CLIPS.md, proved at every double: the one that never changes, and the one with a change at 20; and two of zeros
-- of both signs, which do not change. Assumes nothing.
use mathlib.Core.Path.{◌≡◌, refl, sym, ap, ◌∙◌, subst, subst⁻¹}
use Prim.Native.Nat.{ℕ, suc}
use mathlib.Core.Logic.{◌⊎◌, inl, inr}
use mathlib.Core.Bool.{Bool, true, false, not, ◌||◌, cond}
use mathlib.Core.List.{List, [], ◌∷◌}
use mathlib.Core.Option.{Option, none, some}
use lib.Dec.{T, not_T}
use lib.ListN.{get_elem?}
use lib.Ieee.{Float, round, add, sub, mul, div, neg, lt, le, eq, to_bits, of_bits, fits, is_nan}
use lib.Ieee.Bits.{is_true, is_false}
use Rattle.gf.specs.Doubles.{key, of_key, total_key, truncated}
use Rattle.gf.proofs.KeyLaws.{lt_not_le, eq→key}
use Rattle.definitions.specs.declared.Answer.{Answer}
use Rattle.definitions.specs.declared.Answer.TheVariants.{Value}
use Rattle.definitions.specs.declared.StageTime.{StageTime}
use Rattle.definitions.specs.ClipSet.{ClipSet, stage}
use Rattle.definitions.specs.Doubles.{lowest, FiniteDouble}
use Rattle.definitions.specs.Explicit.{explicit_set}
use Rattle.definitions.specs.Timing.{last_at_most, active_position, on_segment, map_time, map_stage_to_clip}
use Rattle.definitions.specs.Samples.{clip_begin, clip_end, clip_times, held_place}
use Rattle.definitions.specs.declared.Source.{Source}
use Rattle.definitions.specs.declared.Source.TheVariants.{Sample as sample}
use Rattle.definitions.specs.Value.{source_at, direct_source, says, blocked_at, contributes, read_clip, first_reading, interpolate_missing_value, window, stage_times_for_clip_time, window_sample_times, gathered, lower_neighbour, upper_neighbour, between, jump, reading_time, value_source, value_in_set}
use Rattle.definitions.specs.Track.{Change, entry_of, alike, written_entry, change_at, TrackOf}
use Rattle.definitions.proofs.Written.{Numeric}
use Rattle.definitions.proofs.Tracks.{steady, constant, single, no_nan, key-eq, not-le}
use Rattle.definitions.proofs.Sets.{n, -n, two, gap, gap-samples, falling, falling-samples, one, zeros, zeros-falling}

-- ---- block at 0 too: "head 3.0, no change"

abbrev pub set : ClipSet
set = explicit_set (gap (n 0 ∷ []) true)

-- the place of the active start, by whether u has come to 10 and to 20
abbrev place : Bool → Bool → ℕ
place ten twenty = cond (ten || (twenty || false)) (suc (cond (twenty || false) 1 0)) 0

place_is : (u : Float) → active_position set.active (stage u) ≡ place (le (n 10) u) (le (n 20) u)
unfolding active_position last_at_most explicit_set round to_bits total_key truncated
place_is u = refl

-- wherever it is, clip 2's sample is read
reads : (u : Float) (ten twenty : Bool) → source_at set gap-samples (stage u) (place ten twenty) (get_elem? set.active (place ten twenty)) ≡ sample 2 0
unfolding explicit_set round to_bits total_key truncated eq blocked_at contributes read_clip first_reading interpolate_missing_value clip_begin clip_end clip_times held_place last_at_most map_time map_stage_to_clip le lt
reads u true true = refl
reads u true false = refl
reads u false true = refl
reads u false false = refl

direct_is : (u : Float) → direct_source set gap-samples (stage u) ≡ sample 2 0
unfolding direct_source
direct_is u = ap (λ (p : ℕ). source_at set gap-samples (stage u) p (get_elem? set.active p)) (place_is u) ∙ reads u (le (n 10) u) (le (n 20) u)

value-is : (t : Float) → value_in_set set gap-samples (stage t) ≡ Value (n 3)
unfolding value_in_set value_source says explicit_set round to_bits total_key truncated clip_begin
value-is t = ap (λ (r : Source). says set gap-samples r) (direct_is _)

pub gap-track : TrackOf (value_in_set set gap-samples) (record { initial = record { value = n 3; mark = 0 }; changes = [] })
unfolding written_entry eq round fits is_nan
gap-track = constant (value_in_set set gap-samples) (Value (n 3)) (tt, tt) value-is

-- ---- starts 0, 20; knots (0,10) (20,0): "head 2.0; 3.0 at 20"

abbrev pub fall : ClipSet
fall = explicit_set falling

place2-is : (u : Float) (b : Bool) → le (n 20) u ≡ b → active_position fall.active (stage u) ≡ cond (b || false) 1 0
unfolding active_position last_at_most explicit_set round to_bits total_key truncated
place2-is u b e = rw e

-- the clip time is 10 below 0 and at 0
time-below : (u : Float) → lt u (n 0) ≡ true → map_time fall.knots u ≡ n 10
unfolding map_time explicit_set round to_bits total_key truncated
time-below u e = rw e

time-at : (u : Float) → lt u (n 0) ≡ false → le (n 20) u ≡ false → eq u (n 0) ≡ true → map_time fall.knots u ≡ n 10
unfolding map_time on_segment last_at_most explicit_set round to_bits total_key truncated
time-at u e f g = rw (e, f, g)

-- what is read by the clip time
read-10 : (u : Float) → map_time fall.knots u ≡ n 10 → source_at fall falling-samples (stage u) 0 (get_elem? fall.active 0) ≡ sample 0 1
unfolding explicit_set round to_bits total_key truncated eq lt le blocked_at contributes read_clip clip_begin clip_end clip_times held_place last_at_most map_stage_to_clip
read-10 u e = rw e

read-0 : (u : Float) → source_at fall falling-samples (stage u) 1 (get_elem? fall.active 1) ≡ sample 1 0
unfolding explicit_set round to_bits total_key truncated blocked_at contributes read_clip clip_begin clip_end clip_times held_place last_at_most map_stage_to_clip
read-0 u = refl

direct-low : (u : Float) → le (n 20) u ≡ false → map_time fall.knots u ≡ n 10 → direct_source fall falling-samples (stage u) ≡ sample 0 1
unfolding direct_source
direct-low u f e = ap (λ (p : ℕ). source_at fall falling-samples (stage u) p (get_elem? fall.active p)) (place2-is u false f) ∙ read-10 u e

direct-high : (u : Float) → le (n 20) u ≡ true → direct_source fall falling-samples (stage u) ≡ sample 1 0
unfolding direct_source
direct-high u f = ap (λ (p : ℕ). source_at fall falling-samples (stage u) p (get_elem? fall.active p)) (place2-is u true f) ∙ read-0 u

-- ---- the gathered times of the two windows

gathered-0 : gathered fall falling-samples 0 ≡ n 0 ∷ n 0 ∷ n 0 ∷ n 20 ∷ []
unfolding gathered window_sample_times window stage_times_for_clip_time explicit_set round add sub mul div neg to_bits total_key truncated eq lt le blocked_at contributes clip_begin clip_end clip_times
gathered-0 = refl

gathered-1 : gathered fall falling-samples 1 ≡ n 20 ∷ n 20 ∷ n 20 ∷ []
unfolding gathered window_sample_times window stage_times_for_clip_time explicit_set round add sub mul div neg to_bits total_key truncated eq lt le blocked_at contributes clip_begin clip_end clip_times
gathered-1 = refl

no_jump : jump fall.knots (n 0) (n 20) ≡ false
unfolding jump explicit_set round to_bits total_key truncated eq lt le
no_jump = refl

-- ---- the time that is read

abbrev times-0 : List Float
times-0 = n 0 ∷ n 0 ∷ n 0 ∷ n 20 ∷ []

abbrev times-1 : List Float
times-1 = n 20 ∷ n 20 ∷ n 20 ∷ []

abbrev between_of : List Float → Float → Float
between_of times t = between fall.knots t (lower_neighbour times t) (upper_neighbour times t)

reading-0 : (t : Float) → le (n 20) t ≡ false → reading_time fall falling-samples (stage t) ≡ between_of times-0 t
unfolding reading_time
reading-0 t e = ap (λ (p : ℕ). between_of (gathered fall falling-samples p) t) (place2-is t false e) ∙ ap (λ (l : List Float). between_of l t) gathered-0

reading-1 : (t : Float) → le (n 20) t ≡ true → reading_time fall falling-samples (stage t) ≡ between_of times-1 t
unfolding reading_time
reading-1 t e = ap (λ (p : ℕ). between_of (gathered fall falling-samples p) t) (place2-is t true e) ∙ ap (λ (l : List Float). between_of l t) gathered-1

-- below all of them
lower-none : (t : Float) → le (n 0) t ≡ false → le (n 20) t ≡ false → lower_neighbour times-0 t ≡ none
unfolding lower_neighbour
lower-none t e f = rw (e, f)

lower-0 : (t : Float) → le (n 0) t ≡ true → le (n 20) t ≡ false → lower_neighbour times-0 t ≡ some (n 0)
unfolding lower_neighbour lt round
lower-0 t e f = rw (e, f)

upper-20 : (t : Float) → lt t (n 0) ≡ false → lt t (n 20) ≡ true → upper_neighbour times-0 t ≡ some (n 20)
unfolding upper_neighbour
upper-20 t e f = rw (e, f)

-- from the last on
upper-none : (t : Float) → lt t (n 20) ≡ false → upper_neighbour times-1 t ≡ none
unfolding upper_neighbour
upper-none t e = rw e

below_all : (t : Float) → le (n 0) t ≡ false → le (n 20) t ≡ false → between_of times-0 t ≡ t
below_all t e f = rw (lower-none t e f)

inside : (t : Float) → le (n 0) t ≡ true → le (n 20) t ≡ false → lt t (n 0) ≡ false → lt t (n 20) ≡ true → between_of times-0 t ≡ cond (eq (n 0) t || false) t (n 0)
inside t e f g h = rw (lower-0 t e f, upper-20 t g h, no_jump)

from_last : (t : Float) (low : Option Float) → lt t (n 20) ≡ false → between fall.knots t low (upper_neighbour times-1 t) ≡ t
from_last t none e = refl
from_last t (some l) e = rw (upper-none t e)

-- ---- 0 and 20 against a finite t

zero-finite : FiniteDouble (n 0)
unfolding fits round
zero-finite = record { fitting = tt; finitely = tt }

twenty-finite : FiniteDouble (n 20)
unfolding fits round
twenty-finite = record { fitting = tt; finitely = tt }

module _ (x t : Float) (g : FiniteDouble x) (f : FiniteDouble t) where
  lt-le : T (lt t x) → le x t ≡ false
  lt-le h = is_false (le x t) (not_T (le x t) (λ k. lt_not_le t x f.fitting g.fitting h k))

  le-lt : T (le x t) → lt t x ≡ false
  le-lt h = is_false (lt t x) (not_T (lt t x) (λ k. lt_not_le t x f.fitting g.fitting k h))

  eq-back : T (eq x t) → eq t x ≡ true
  eq-back h = is_true (eq t x) (key-eq t x f g (sym (eq→key x t g.fitting f.fitting (no_nan x g) (no_nan t f) h)))

-- ---- the value on both sides of 20

source_is : (t : Float) → value_source fall falling-samples (stage t) ≡ direct_source fall falling-samples (stage (reading_time fall falling-samples (stage t)))
unfolding value_source explicit_set round to_bits total_key truncated
source_is t = refl

zero-low : le (n 20) (n 0) ≡ false
unfolding le lt eq round
zero-low = refl

zero-time : map_time fall.knots (n 0) ≡ n 10
zero-time = time-at (n 0) zero-not-below zero-low zero_same
  where
    zero-not-below : lt (n 0) (n 0) ≡ false
    zero-not-below = unfold lt round in refl

    zero_same : eq (n 0) (n 0) ≡ true
    zero_same = unfold eq round in refl

module _ (t : Float) (f : FiniteDouble t) where
  source-by : (u : Float) → reading_time fall falling-samples (stage t) ≡ u → value_source fall falling-samples (stage t) ≡ direct_source fall falling-samples (stage u)
  source-by u e = source_is t ∙ ap (λ (x : Float). direct_source fall falling-samples (stage x)) e

  low-source : T (lt t (n 20)) → value_source fall falling-samples (stage t) ≡ sample 0 1
  low-source h = by_zero (le (n 0) t) refl
    where
      below20 : le (n 20) t ≡ false
      below20 = lt-le (n 20) t twenty-finite f h

      at_zero : T (le (n 0) t) → (b : Bool) → eq (n 0) t ≡ b → value_source fall falling-samples (stage t) ≡ sample 0 1
      at_zero k true e =
          source-by t (reading-0 t below20 ∙ inside t (is_true (le (n 0) t) k) below20 (le-lt (n 0) t zero-finite f k) (is_true (lt t (n 20)) h) ∙ ap (λ (q : Bool). cond (q || false) t (n 0)) e)
          ∙ direct-low t below20 (time-at t (le-lt (n 0) t zero-finite f k) below20 (eq-back (n 0) t zero-finite f (subst⁻¹ T e tt)))
      at_zero k false e =
          source-by (n 0) (reading-0 t below20 ∙ inside t (is_true (le (n 0) t) k) below20 (le-lt (n 0) t zero-finite f k) (is_true (lt t (n 20)) h) ∙ ap (λ (q : Bool). cond (q || false) t (n 0)) e)
          ∙ direct-low (n 0) zero-low zero-time

      by_zero : (b : Bool) → le (n 0) t ≡ b → value_source fall falling-samples (stage t) ≡ sample 0 1
      by_zero true e = at_zero (subst⁻¹ T e tt) (eq (n 0) t) refl
      by_zero false e =
          source-by t (reading-0 t below20 ∙ below_all t e below20)
          ∙ direct-low t below20 (time-below t (is_true (lt t (n 0)) (not-le (n 0) t zero-finite f (subst⁻¹ (λ (b : Bool). T (not b)) e tt))))

  high-source : T (le (n 20) t) → value_source fall falling-samples (stage t) ≡ sample 1 0
  high-source h =
      let e = is_true (le (n 20) t) h in
      source-by t (reading-1 t e ∙ from_last t (lower_neighbour times-1 t) (le-lt (n 20) t twenty-finite f h)) ∙ direct-high t e

  low_value : T (lt t (n 20)) → value_in_set fall falling-samples (stage t) ≡ Value (n 2)
  unfolding value_in_set says clip_begin
  low_value h = ap (λ (r : Source). says fall falling-samples r) (low-source h)

  high_value : T (le (n 20) t) → value_in_set fall falling-samples (stage t) ≡ Value (n 3)
  unfolding value_in_set says clip_begin
  high_value h = ap (λ (r : Source). says fall falling-samples r) (high-source h)

twenty-plain : of_key (key (n 20)) ≡ n 20
unfolding of_key key round to_bits of_bits
twenty-plain = refl

twenty-above : T (lt lowest (n 20))
unfolding lowest of_key round of_bits lt
twenty-above = tt

unlike : T (not (alike (entry_of (Value (n 3))) (entry_of (Value (n 2)))))
unfolding alike entry_of eq round
unlike = tt

-- the change is written as the figure says
change-is : change_at (value_in_set fall falling-samples) (n 20) ≡ record { time = n 20; value = n 3; mark = 0 }
unfolding change_at written_entry eq round
change-is = rw (twenty-plain, high_value (n 20) twenty-finite twenty-reached)
  where
    twenty-reached : T (le (n 20) (n 20))
    twenty-reached = unfold le lt eq round in tt

pub falling-track : TrackOf (value_in_set fall falling-samples) (record { initial = record { value = n 2; mark = 0 }; changes = record { time = n 20; value = n 3; mark = 0 } ∷ [] })
unfolding written_entry eq round fits is_nan
falling-track =
    subst (λ (c : Change). TrackOf (value_in_set fall falling-samples) (record { initial = record { value = n 2; mark = 0 }; changes = c ∷ [] })) change-is
    (single (value_in_set fall falling-samples) (Value (n 2)) (Value (n 3)) (tt, tt) (tt, tt) (n 20) twenty-finite twenty-above twenty-plain low_value high_value unlike)

-- ---- zeros of both signs: -0.0 then 0.0 over two clips, and both in one clip that is read along a falling segment. "head 0.0, no change"

abbrev pub zero-set : ClipSet
zero-set = explicit_set two

abbrev pub falling-zero-set : ClipSet
falling-zero-set = explicit_set one

-- one of the two zeros
abbrev Zero : Answer → Type 0
Zero a = (a ≡ Value (-n 0)) ⊎ (a ≡ Value (n 0))

zero-numeric : (a : Answer) → Zero a → Numeric a
unfolding round neg fits is_nan
zero-numeric a (inl e) = subst⁻¹ Numeric e (tt, tt)
zero-numeric a (inr e) = subst⁻¹ Numeric e (tt, tt)

zero-alike : (a : Answer) → Zero a → T (alike (entry_of a) (entry_of (Value (n 0))))
unfolding alike entry_of round neg eq
zero-alike a (inl e) = rw e tt
zero-alike a (inr e) = rw e tt

pub zero-track : (v : StageTime → Answer) → ((t : Float) → Zero (v (stage t))) → TrackOf v (record { initial = record { value = n 0; mark = 0 }; changes = [] })
unfolding written_entry round eq fits is_nan
zero-track v z = steady v (Value (n 0)) (tt, tt) (λ t. zero-numeric (v (stage t)) (z t)) (λ t. zero-alike (v (stage t)) (z t))

zero-read : (u : Float) (b : Bool) → Zero (says zero-set zeros (source_at zero-set zeros (stage u) (cond (b || false) 1 0) (get_elem? zero-set.active (cond (b || false) 1 0))))
unfolding explicit_set round neg to_bits total_key truncated says clip_begin contributes blocked_at read_clip clip_end clip_times held_place last_at_most map_time map_stage_to_clip le lt eq
zero-read u true = inr refl
zero-read u false = inl refl

zero-direct : (u : Float) → Zero (says zero-set zeros (direct_source zero-set zeros (stage u)))
unfolding direct_source active_position last_at_most explicit_set round to_bits total_key truncated
zero-direct u = zero-read u (le (n 10) u)

zero-value : (t : Float) → Zero (value_in_set zero-set zeros (stage t))
unfolding value_in_set value_source explicit_set round to_bits total_key truncated
zero-value t = zero-direct (reading_time zero-set zeros (stage t))

pub zeros-track : TrackOf (value_in_set zero-set zeros) (record { initial = record { value = n 0; mark = 0 }; changes = [] })
zeros-track = zero-track (value_in_set zero-set zeros) zero-value

zero-at-place : (b : Bool) → Zero (says falling-zero-set zeros-falling (sample 0 (cond (b || false) 1 0)))
unfolding says clip_begin round neg
zero-at-place true = inl refl
zero-at-place false = inr refl

zero-falling : (t : Float) → Zero (value_in_set falling-zero-set zeros-falling (stage t))
unfolding value_in_set value_source direct_source active_position last_at_most explicit_set round to_bits total_key truncated contributes blocked_at read_clip clip_begin clip_end clip_times held_place map_stage_to_clip
zero-falling t = zero-at-place (le (n 5) (map_time falling-zero-set.knots t))

pub zeros-falling-track : TrackOf (value_in_set falling-zero-set zeros-falling) (record { initial = record { value = n 0; mark = 0 }; changes = [] })
zeros-falling-track = zero-track (value_in_set falling-zero-set zeros-falling) zero-falling
