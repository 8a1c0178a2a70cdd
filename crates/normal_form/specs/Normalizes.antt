-- What normalising promises, for every argument. Assumes nothing.
use Rattle.std.specs.Prelude.{◌≡◌, List, map, ℕ, length, Float, Result, Ok, Err, IfOk}
use Rattle.definitions.specs.declared.refusal.Refusal.{Refusal}
use Rattle.definitions.specs.Refusals.{number_in}
use Rattle.definitions.specs.Lists.{◌if◌else◌, written_over}
use Rattle.definitions.specs.Samples.{unlike_lengths, samples2, bad_marks}
use Rattle.definitions.specs.Normalize.{TimeSample, time_samples, normalize_time_samples, normalize_number}
use Rattle.definitions.specs.Track.{Outputs, slots}
use Rattle.normal_form.specs.Placed.{in_order}
use Rattle.normal_form.specs.Runs.{runs, firsts, lasts}

-- the samples in their normal form
abbrev pub normal_form : List Float → List Float → List ℕ → List TimeSample
normal_form times values marks = normalize_time_samples (time_samples times values marks)

-- an output list after that reply: no refusal writes
abbrev pub after : {A : Type 0} → Result ℕ Refusal → List A → List A → List A
after (Ok n) new old = written_over new old
after (Err r) new old = old

pub record Normalizes (times values : List Float) (marks : List ℕ) (old new : Outputs) (r : Result ℕ Refusal) : Type 0 where
  pub number : number_in r ≡ normalize_number times values marks (slots old)
  pub count : IfOk r (λ (n : ℕ). n ≡ length (normal_form times values marks))
  pub times-are : new.times ≡ after r (map (λ (s : TimeSample). s.time) (normal_form times values marks)) old.times
  pub values-are : new.values ≡ after r (map (λ (s : TimeSample). s.value) (normal_form times values marks)) old.values
  pub marks-are : new.marks ≡ after r (map (λ (s : TimeSample). s.mark) (normal_form times values marks)) old.marks

-- ---- between the functions

-- the numbers that the input alone decides
unfoldable pub listed_number : List Float → List Float → List ℕ → ℕ
listed_number times values marks =
    1 if unlike_lengths times values marks else
    2 if samples2 times values marks else
    9 if bad_marks marks else
    0

-- the runs of the places in order, in two lists
pub record InRuns (times values : List Float) (marks first last : List ℕ) : Type 0 where
  pub passes : listed_number times values marks ≡ 0
  pub firsts-are : first ≡ firsts (runs times (in_order times))
  pub lasts_are : last ≡ lasts (runs times (in_order times))
