-- The samples of all sets as they are lent, parted among the sets. Assumes nothing.
use Rattle.std.specs.Prelude.{ℕ, ◌-◌, ◌≤◌, ◌≡◌, Bool, true, false, cond, List, eqb, ltb, length, get_or, take, drop, Result, Ok, Err, Float}
use Rattle.definitions.specs.declared.refusal.Refusal.{Refusal}
use Rattle.definitions.specs.declared.refusal.Refusal.TheVariants.{Misshapen}
use Rattle.definitions.specs.Lists.{any}
use Rattle.definitions.specs.ClipSet.{ClipSet, max_clips, max_samples}
use Rattle.definitions.specs.Samples.{Samples, samples_number}
use Rattle.laws.specs.list.Every.{Every}
use Rattle.laws.specs.cell.Lent.{samples_of}
use Rattle.dispatch.specs.NamedSets.{max_sets}
use Rattle.dispatch.specs.SetSamples.{SetSamples, sum, sets1, samples_at}
use Rattle.set_samples.specs.declared.Own.{Own}

abbrev pub lent_samples : List ℕ → List ℕ → List Float → List Float → List ℕ → SetSamples
lent_samples counts ends times values marks = record { counts = counts; ends = ends; times = times; values = values; marks = marks }

-- how many clips each set has, as a dispatcher holds it
pub record FewClips (clips : List ℕ) : Type 0 where
  pub few : length clips ≤ max_sets
  pub each : Every (λ (c : ℕ). c ≤ max_clips) clips

-- of two numbers, each 2, 9 or 0 for none, the one that comes first
abbrev pub earlier : Bool → Bool → ℕ → ℕ
earlier two nine n = cond two 2 (cond (eqb n 2) 2 (cond nine 9 (cond (eqb n 9) 9 0)))

-- 1 does not apply: the lists can be parted
abbrev pub Parted : List ℕ → SetSamples → Type 0
Parted clips s = sets1 clips s ≡ false

-- the sum, or 1 where a count is above its limit
abbrev pub Totals : List ℕ → Result ℕ Refusal → Type 0
Totals counts (Ok n) = (any (λ (c : ℕ). ltb max_samples c) counts ≡ false) × (n ≡ sum counts)
Totals counts (Err r) = (any (λ (c : ℕ). ltb max_samples c) counts ≡ true) × (r ≡ Misshapen)

-- the samples between two places, and the ends between two others
abbrev pub between : SetSamples → Own → Samples
between s o = samples_of (take (o.end - o.begin) (drop o.begin s.times)) (take (o.end - o.begin) (drop o.begin s.values)) (take (o.end - o.begin) (drop o.begin s.marks)) (take (o.last - o.first) (drop o.first s.ends))

-- the k-th set's own samples lie there, within the lists, and are accepted for every set with its clips
pub record OwnAt (clips : List ℕ) (s : SetSamples) (k : ℕ) (o : Own) : Type 0 where
  pub forward : o.begin ≤ o.end
  pub in-times : o.end ≤ length s.times
  pub in-values : o.end ≤ length s.values
  pub in-marks : o.end ≤ length s.marks
  pub ends-forward : o.first ≤ o.last
  pub in-ends : o.last ≤ length s.ends
  pub is : samples_at clips s k ≡ between s o
  pub accepted : (set : ClipSet) → set.clips ≡ get_or clips k 0 → samples_number set (between s o) ≡ 0
