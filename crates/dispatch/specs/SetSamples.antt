-- docs/VALUE-CLIPS.md, "Several sets": the samples lent for every set, each set's own part, and the numbers 1, 2 and 9 over all of them. Assumes nothing.
use Rattle.std.specs.Prelude.{ℕ, ◌+◌, Bool, not, ◌||◌, List, [], ◌∷◌, map, eqb, ltb, length, take, drop, Float}
use Rattle.std.proofs.Math.Option.{Option, none, some}
use Rattle.std.proofs.Math.ListN.{get_elem?}
use Rattle.definitions.specs.Lists.{◌if◌else◌, any}
use Rattle.definitions.specs.ClipSet.{max_samples}
use Rattle.definitions.specs.Samples.{Samples, samples2, samples9}
use Rattle.dispatch.specs.NamedSets.{NamedSet}

-- "for each set, in the order of acceptance, how many samples it has; the clip ends of all sets one after the other, each set's counted from its own first
-- sample; times, values and marks of all sets one after the other"
pub record SetSamples : Type 0 where
  pub counts : List ℕ
  pub ends : List ℕ
  pub times : List Float
  pub values : List Float
  pub marks : List ℕ

-- how many clips each set has
abbrev pub clips_of : List NamedSet → List ℕ
clips_of sets = map (λ (x : NamedSet). x.set.clips) sets

-- ---- "A set's own samples are its part of each."

-- the first `count` samples and `clips` ends, and what is left
abbrev pub own_of : (count clips : ℕ) → SetSamples → Samples
own_of count clips s = record { times = take count s.times; values = take count s.values; marks = take count s.marks; ends = take clips s.ends }

abbrev pub left_of : (count clips : ℕ) → SetSamples → SetSamples
left_of count clips s = record { counts = drop 1 s.counts; ends = drop clips s.ends; times = drop count s.times; values = drop count s.values; marks = drop count s.marks }

abbrev pub first_count : List ℕ → ℕ
first_count [] = 0
first_count (c ∷ counts) = c

-- one for each set, by how many clips each has
unfoldable pub own_samples : List ℕ → SetSamples → List Samples
own_samples [] s = []
own_samples (clips ∷ rest) s = own_of (first_count s.counts) clips s ∷ own_samples rest (left_of (first_count s.counts) clips s)

abbrev pub samples_or : Option Samples → Samples
samples_or none = record { times = []; values = []; marks = []; ends = [] }
samples_or (some s) = s

-- those of the set with this number
abbrev pub samples_at : List ℕ → SetSamples → ℕ → Samples
samples_at clips s k = samples_or (get_elem? (own_samples clips s) k)

-- ---- the numbers

abbrev pub sum : List ℕ → ℕ
sum [] = 0
sum (n ∷ ns) = n + sum ns

-- 1: "times, values and marks of unlike length, counts that are not one for each set, a count above 4,096, counts that do not add up to the lists' length, ends
-- not as many as all sets have clips"
unfoldable pub sets1 : List ℕ → SetSamples → Bool
sets1 clips s =
    not (eqb (length s.values) (length s.times))
    || not (eqb (length s.marks) (length s.times))
    || not (eqb (length s.counts) (length clips))
    || any (λ (c : ℕ). ltb max_samples c) s.counts
    || not (eqb (sum s.counts) (length s.times))
    || not (eqb (length s.ends) (sum clips))

-- "2 and 9 are those of each set's own samples, of any set, also of one that does not answer; 1 comes before 2 of any set, and 2 of any set before 9 of any"
unfoldable pub set_samples_number : List ℕ → SetSamples → ℕ
set_samples_number clips s =
    1 if sets1 clips s else
    2 if any (λ (own : Samples). samples2 own.times own.values own.marks) (own_samples clips s) else
    9 if any samples9 (own_samples clips s) else
    0
