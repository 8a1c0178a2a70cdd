-- What is promised of lent output lists: written to the front where there is room, else as they were. Assumes nothing.
use Rattle.std.specs.Prelude.{◌≡◌, List, map, ℕ, ◌≤◌, ◌<◌, min, length, Float, Option, None, Some}
use Rattle.definitions.specs.Lists.{written_over}
use Rattle.definitions.specs.StageSamples.{StageSample}

-- where there is room for all
abbrev pub AllWritten : List Float → (old new : List Float) → ℕ → Type 0
AllWritten times old new n = (n ≡ length times) × (new ≡ written_over times old)

-- of a list of times
abbrev pub TimesWritten : List Float → (old new : List Float) → Option ℕ → Type 0
TimesWritten times old new (Some n) = (n ≡ length times) × (length times ≤ length old) × (new ≡ written_over times old)
TimesWritten times old new None = (length old < length times) × (new ≡ old)

-- of samples, as times and as many marks: "the shortest of the lent output lists" decides
abbrev pub times_in : List StageSample → List Float
times_in l = map (λ (x : StageSample). x.time) l

abbrev pub marks_in : List StageSample → List ℕ
marks_in l = map (λ (x : StageSample). x.mark) l

abbrev pub SamplesWritten : List StageSample → (times₀ times₁ : List Float) → (marks₀ marks₁ : List ℕ) → Option ℕ → Type 0
SamplesWritten l times₀ times₁ marks₀ marks₁ (Some n) =
    (n ≡ length l) × (length l ≤ min (length times₀) (length marks₀)) × (times₁ ≡ written_over (times_in l) times₀) × (marks₁ ≡ written_over (marks_in l) marks₀)
SamplesWritten l times₀ times₁ marks₀ marks₁ None = (min (length times₀) (length marks₀) < length l) × (times₁ ≡ times₀) × (marks₁ ≡ marks₀)
