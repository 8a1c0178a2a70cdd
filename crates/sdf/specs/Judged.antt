-- What the check of lent samples promises. Assumes nothing.
use Rattle.std.specs.Prelude.{◌≡◌, List, ℕ, Float}
use Rattle.definitions.specs.ClipSet.{ClipSet}
use Rattle.definitions.specs.Samples.{samples_number}
use Rattle.laws.specs.list.Every.{Every}
use Rattle.laws.specs.list.Places.{Fits}
use Rattle.laws.specs.cell.Lent.{samples_of}

-- r is the samples' number for every set with that many clips, and the doubles are ones that a program can hold
pub record Judged (clips : ℕ) (times values : List Float) (marks ends : List ℕ) (r : ℕ) : Type 0 where
  pub number : (set : ClipSet) → set.clips ≡ clips → r ≡ samples_number set (samples_of times values marks ends)
  pub times-fit : Every Fits times
  pub values-fit : Every Fits values
