-- docs/VALUE-CLIPS.md, "Normalising": "Normalising needs no set and takes one list in any order". The Rust's `normalize_time_samples`. Assumes nothing.
use Rattle.std.specs.Prelude.{ℕ, cond, List, [], ◌∷◌, ltb, length, Float}
use Rattle.std.specs.Float.Ieee.{eq}
use Rattle.gf.specs.Doubles.{key}
use Rattle.definitions.specs.Lists.{◌if◌else◌, sort_by}
use Rattle.definitions.specs.Samples.{unlike_lengths, samples2, bad_marks}

pub record TimeSample : Type 0 where
  pub time : Float
  pub value : Float
  pub mark : ℕ

-- the three lent lists as one
unfoldable pub time_samples : List Float → List Float → List ℕ → List TimeSample
time_samples [] values marks = []
time_samples (t ∷ times) [] marks = []
time_samples (t ∷ times) (v ∷ values) [] = []
time_samples (t ∷ times) (v ∷ values) (m ∷ marks) = record { time = t; value = v; mark = m } ∷ time_samples times values marks

-- "of equal times the first time with the last value and mark stays": an entry before the list of those after it, already merged
unfoldable pub merge : TimeSample → List TimeSample → List TimeSample
merge a [] = a ∷ []
merge a (b ∷ rest) =
    cond (eq a.time b.time)
    (record { time = a.time; value = b.value; mark = b.mark } ∷ rest)
    (a ∷ b ∷ rest)

unfoldable pub merge_equal : List TimeSample → List TimeSample
merge_equal [] = []
merge_equal (a ∷ rest) = merge a (merge_equal rest)

-- "sorted stably", the two zeros being one time: by the numeric key, not by `total_cmp`
unfoldable pub normalize_time_samples : List TimeSample → List TimeSample
normalize_time_samples samples = merge_equal (sort_by (λ (a : TimeSample). key a.time) samples)

-- "it gives 1, 2, 9 for a mark other than 0 or 1, then 22"
unfoldable pub normalize_number : List Float → List Float → List ℕ → ℕ → ℕ
normalize_number times values marks slots =
    1 if unlike_lengths times values marks else
    2 if samples2 times values marks else
    9 if bad_marks marks else
    22 if ltb slots (length (normalize_time_samples (time_samples times values marks))) else
    0
