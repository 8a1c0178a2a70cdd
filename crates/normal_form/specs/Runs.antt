-- Runs of places whose times are equal: the normal form of lent samples, by places. Assumes nothing.
use Rattle.std.specs.Prelude.{◌≡◌, Bool, false, cond, List, [], ◌∷◌, map, ℕ, ◌+◌, length, get_or, drop, Float}
use Rattle.std.specs.Float.{nan}
use Rattle.std.specs.Float.Ieee.{eq}

-- the first place gives the time, and the last the value and the mark
pub record Run : Type 0 where
  pub first : ℕ
  pub last : ℕ

abbrev pub alone : ℕ → Run
alone i = record { first = i; last = i }

module _ (times : List Float) where
  -- the place has the time of the first of the runs
  abbrev pub meets : ℕ → List ℕ → Bool
  meets i [] = false
  meets i (f ∷ fs) = eq (get_or times i nan) (get_or times f nan)

  -- a place before the runs of those after it
  unfoldable pub join : ℕ → List Run → List Run
  join i [] = alone i ∷ []
  join i (r ∷ rs) =
      cond (eq (get_or times i nan) (get_or times r.first nan))
      (record { first = i; last = r.last } ∷ rs)
      (alone i ∷ r ∷ rs)

  unfoldable pub runs : List ℕ → List Run
  runs [] = []
  runs (i ∷ places) = join i (runs places)

abbrev pub firsts : List Run → List ℕ
firsts rs = map (λ (r : Run). r.first) rs

abbrev pub lasts : List Run → List ℕ
lasts rs = map (λ (r : Run). r.last) rs

-- the runs stand from the place `at` on in two lists
pub record RunsFrom (times : List Float) (places : List ℕ) (first last : List ℕ) (at : ℕ) : Type 0 where
  pub count : at + length (runs times places) ≡ length places
  pub firsts-are : drop at first ≡ firsts (runs times places)
  pub lasts_are : drop at last ≡ lasts (runs times places)
