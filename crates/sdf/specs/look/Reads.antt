-- A clip's part of the lent lists by its two ends, and what is read of it. Assumes nothing.
use Rattle.std.specs.Prelude.{ℕ, ◌+◌, ◌-◌, ◌≤◌, ◌<◌, List, length, get_or, take, drop, Float}
use Rattle.std.specs.Prelude.{Option, None, Some}
use Rattle.std.proofs.Math.Option.{none, some}
use Rattle.std.proofs.Math.Option as place
use Rattle.definitions.specs.declared.Answer.{Answer}
use Rattle.definitions.specs.declared.ClipTime.{ClipTime}
use Rattle.definitions.specs.Samples.{held_place}
use Rattle.definitions.specs.Value.{marked}
use Rattle.gf.specs.Doubles.{0·0}
use Rattle.laws.specs.list.Places.{Ascending}

-- the times from one end to the other, as `clip_times` has them
abbrev pub part : List Float → ℕ → ℕ → List Float
part times begin end = take (end - begin) (drop begin times)

-- a place that both lists have
pub record Inside (values : List Float) (marks : List ℕ) (at : ℕ) : Type 0 where
  pub value : at < length values
  pub mark : at < length marks

-- ends between which a held reading finds its place, which has a value and a mark
pub record Readable (times values : List Float) (marks : List ℕ) (begin end : ℕ) : Type 0 where
  pub from : begin ≤ end
  pub inside : end ≤ length times
  pub rising : Ascending (part times begin end)
  pub values-reach : end ≤ length values
  pub marks-reach : end ≤ length marks

-- what the sample at a place of the lists says
abbrev pub marked_at : List Float → List ℕ → ℕ → Answer
marked_at values marks at = marked (get_or marks at 0) (get_or values at 0·0)

-- a place counted from the clip's first sample, with what the sample there says
abbrev pub told : List Float → List ℕ → ℕ → place.Option ℕ → Option (ℕ × Answer)
told values marks begin none = None
told values marks begin (some i) = Some (i, marked_at values marks (begin + i))

-- the held reading at the clip time t of the samples from one end to the other
abbrev pub held_reading : List Float → List Float → List ℕ → ℕ → ℕ → ClipTime → Option (ℕ × Answer)
held_reading times values marks begin end t = told values marks begin (held_place (part times begin end) t)
