-- The normal form by places: of the sorted places' runs, the first gives the time, the last the value and the mark. Assumes nothing.
use mathlib.Core.Path.{◌≡◌, refl, sym, ap, ◌∙◌}
use mathlib.Core.Bool.{Bool, true, false, cond}
use mathlib.Core.List.{List, [], ◌∷◌, map, map-map}
use Prim.Native.Nat.{ℕ, ◌≤◌, ◌<◌, min}
use native.Mathlib.Nat.{min-le_left, min-le_right, le-min}
use native.Mathlib.Omega.{arith}
use borrow.Author.Tests.{lt-ltb, le-ltb}
use lib.Dec.{ltb}
use lib.ListN.{length, get_or, length-map}
use lib.Ieee.{Float, nan, eq}
use Rattle.gf.specs.Doubles.{key}
use Rattle.definitions.specs.Lists.{◌if◌else◌, sort_by, below}
use Rattle.definitions.specs.Samples.{unlike_lengths, samples2, bad_marks}
use Rattle.definitions.specs.Normalize.{TimeSample, time_samples, merge, merge_equal, normalize_time_samples, normalize_number}
use Rattle.definitions.specs.Track.{Outputs, slots}
use Rattle.lists.proofs.ByPlaces.{below-first, sort-map}
use Rattle.normal_form.specs.Placed.{in_order}
use Rattle.normal_form.specs.Runs.{Run, alone, join, runs, firsts, lasts}
use Rattle.normal_form.specs.Normalizes.{normal_form, listed_number}

-- ---- the lent lists, by places

abbrev sample_at : List Float → List Float → List ℕ → ℕ → TimeSample
sample_at times values marks i = record { time = get_or times i nan; value = get_or values i nan; mark = get_or marks i 0 }

by-places : (times values : List Float) (marks : List ℕ) → length values ≡ length times → length marks ≡ length times → time_samples times values marks ≡ map (sample_at times values marks) (below (length times))
unfolding time_samples
by-places [] values marks p q = refl
by-places (t ∷ times) [] marks p q = absurd (omega arith)
by-places (t ∷ times) (v ∷ values) [] p q = absurd (omega arith)
by-places (t ∷ times) (v ∷ values) (m ∷ marks) p q =
    ap (λ (l : List TimeSample). record { time = t; value = v; mark = m } ∷ l) (by-places times values marks (omega arith) (omega arith))
    ∙ sym (below-first (sample_at (t ∷ times) (v ∷ values) (m ∷ marks)) (length times))

-- ---- merging equal times is making runs

module _ (times values : List Float) (marks : List ℕ) where
  abbrev sample_of : Run → TimeSample
  sample_of r = record { time = get_or times r.first nan; value = get_or values r.last nan; mark = get_or marks r.last 0 }

  merge-join : (i : ℕ) (rs : List Run) → merge (sample_at times values marks i) (map sample_of rs) ≡ map sample_of (join times i rs)
  unfolding merge join
  merge-join i [] = refl
  merge-join i (r ∷ rs) = go (eq (get_or times i nan) (get_or times r.first nan))
    where
      go : (b : Bool)
          → cond b (record { time = get_or times i nan; value = get_or values r.last nan; mark = get_or marks r.last 0 } ∷ map sample_of rs) (sample_at times values marks i ∷ sample_of r ∷ map sample_of rs)
          ≡ map sample_of (cond b (record { first = i; last = r.last } ∷ rs) (alone i ∷ r ∷ rs))
      go true = refl
      go false = refl

  merge-runs : (places : List ℕ) → merge_equal (map (sample_at times values marks) places) ≡ map sample_of (runs times places)
  unfolding merge_equal runs
  merge-runs [] = refl
  merge-runs (i ∷ places) = ap (merge (sample_at times values marks i)) (merge-runs places) ∙ merge-join i (runs times places)

  module _ (p : length values ≡ length times) (q : length marks ≡ length times) where
    normal-is : normal_form times values marks ≡ map sample_of (runs times (in_order times))
    unfolding normalize_time_samples
    normal-is =
        ap (λ (l : List TimeSample). merge_equal (sort_by (λ (a : TimeSample). key a.time) l)) (by-places times values marks p q)
        ∙ ap merge_equal (sort-map (sample_at times values marks) (λ (a : TimeSample). key a.time) (below (length times)))
        ∙ merge-runs (in_order times)

    pub normal-length : length (runs times (in_order times)) ≡ length (normal_form times values marks)
    normal-length = sym (ap length normal-is ∙ length-map (runs times (in_order times)) sample_of)

    pub normal-times : map (λ (i : ℕ). get_or times i nan) (firsts (runs times (in_order times))) ≡ map (λ (s : TimeSample). s.time) (normal_form times values marks)
    normal-times =
        map-map (λ (i : ℕ). get_or times i nan) (λ (r : Run). r.first) (runs times (in_order times))
        ∙ sym (ap (map (λ (s : TimeSample). s.time)) normal-is ∙ map-map (λ (s : TimeSample). s.time) sample_of (runs times (in_order times)))

    pub normal-values : map (λ (i : ℕ). get_or values i nan) (lasts (runs times (in_order times))) ≡ map (λ (s : TimeSample). s.value) (normal_form times values marks)
    normal-values =
        map-map (λ (i : ℕ). get_or values i nan) (λ (r : Run). r.last) (runs times (in_order times))
        ∙ sym (ap (map (λ (s : TimeSample). s.value)) normal-is ∙ map-map (λ (s : TimeSample). s.value) sample_of (runs times (in_order times)))

    pub normal-marks : map (λ (i : ℕ). get_or marks i 0) (lasts (runs times (in_order times))) ≡ map (λ (s : TimeSample). s.mark) (normal_form times values marks)
    normal-marks =
        map-map (λ (i : ℕ). get_or marks i 0) (λ (r : Run). r.last) (runs times (in_order times))
        ∙ sym (ap (map (λ (s : TimeSample). s.mark)) normal-is ∙ map-map (λ (s : TimeSample). s.mark) sample_of (runs times (in_order times)))

-- ---- the number

module _ (times values : List Float) (marks : List ℕ) where
  -- the input alone refuses
  pub refused : (n room : ℕ) → n ≡ listed_number times values marks → (n ≡ 0 → ⊥) → n ≡ normalize_number times values marks room
  unfolding listed_number normalize_number
  refused n room e z = go (unlike_lengths times values marks) (samples2 times values marks) (bad_marks marks) (22 if ltb room (length (normal_form times values marks)) else 0) e
    where
      go : (a b c : Bool) (rest : ℕ) → n ≡ (1 if a else 2 if b else 9 if c else 0) → n ≡ (1 if a else 2 if b else 9 if c else rest)
      go true b c rest e = e
      go false true c rest e = e
      go false false true rest e = e
      go false false false rest e = absurd (z e)

  pub passes : listed_number times values marks ≡ 0 → (unlike_lengths times values marks ≡ false) × (samples2 times values marks ≡ false) × (bad_marks marks ≡ false)
  unfolding listed_number
  passes e = go (unlike_lengths times values marks) (samples2 times values marks) (bad_marks marks) e
    where
      go : (a b c : Bool) → (1 if a else 2 if b else 9 if c else 0) ≡ 0 → (a ≡ false) × (b ≡ false) × (c ≡ false)
      go true b c e = absurd (omega arith)
      go false true c e = absurd (omega arith)
      go false false true e = absurd (omega arith)
      go false false false e = (refl, refl, refl)

  module _ (e : listed_number times values marks ≡ 0) where
    normal-number : (room : ℕ) → normalize_number times values marks room ≡ (22 if ltb room (length (normal_form times values marks)) else 0)
    unfolding normalize_number
    normal-number room = let p = passes e in rw (p.0, p.1, p.2)

    pub too_short : (o : Outputs) → slots o < length (normal_form times values marks) → 22 ≡ normalize_number times values marks (slots o)
    too_short o h = sym (normal-number (slots o) ∙ rw (lt-ltb (slots o) (length (normal_form times values marks)) h))

    pub suffices : (o : Outputs) → length (normal_form times values marks) ≤ slots o → 0 ≡ normalize_number times values marks (slots o)
    suffices o h = sym (normal-number (slots o) ∙ rw (le-ltb (slots o) (length (normal_form times values marks)) h))

-- ---- the shortest output

module _ (o : Outputs) (n : ℕ) where
  pub short-times : length o.times < n → slots o < n
  unfolding slots
  short-times h = omega (arith, min-le_left (length o.times) (min (length o.values) (length o.marks)))

  pub short-values : length o.values < n → slots o < n
  unfolding slots
  short-values h = omega (arith, min-le_right (length o.times) (min (length o.values) (length o.marks)), min-le_left (length o.values) (length o.marks))

  pub short-marks : length o.marks < n → slots o < n
  unfolding slots
  short-marks h = omega (arith, min-le_right (length o.times) (min (length o.values) (length o.marks)), min-le_right (length o.values) (length o.marks))

  pub all-long : n ≤ length o.times → n ≤ length o.values → n ≤ length o.marks → n ≤ slots o
  unfolding slots
  all-long h i j = le-min h (le-min i j)
