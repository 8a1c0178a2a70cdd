-- What an operation has shown is more than some questions ask, and the lists that decide their answers give those of the set. Assumes nothing.
use Prim.Native.Nat.{ℕ, ◌<◌}
use mathlib.Core.Path.{◌≡◌}
use mathlib.Core.List.{List}
use lib.ListN.{length, take}
use lib.Ieee.{Float}
use Rattle.definitions.specs.declared.Missing.{Missing}
use Rattle.definitions.specs.Samples.{Samples}
use Rattle.definitions.specs.StageSamples.{stage_sample_times, stage_samples, untimed_answer}
use Rattle.laws.specs.list.Every.{Every}
use Rattle.laws.specs.cell.Lent.{samples_of}
use Rattle.value.specs.Untimed.{untimed_of}
use Rattle.value.proofs.UntimedLaws.{clips-named, untimed-is}
use Rattle.stage.proofs.Accepted.{accepted-times, stage-times, accepted-unblocked, samples-unblocked}
use Rattle.standing.specs.declared.Counts.{Counts}
use Rattle.standing.specs.Standing.{Asked, lent_set, StartsAndKnots, lent_times, TimesAsked, lent_unblocked, SamplesAsked}

module _ {c : Counts} {starts : List Float} {numbers : List ℕ} {xs ys blocks : List Float} {m : Missing} {times values : List Float} {marks ends : List ℕ} (A : Asked c starts numbers xs ys blocks m times values marks ends) where
  starts-and-knots : StartsAndKnots c starts numbers xs ys
  starts-and-knots = record { in-starts = A.arrays.in-starts; in-numbers = A.arrays.in-numbers; in-xs = A.arrays.in-xs; in_ys = A.arrays.in_ys }

  pub times-asked : TimesAsked c starts numbers xs ys times ends
  times-asked = record { arrays = starts-and-knots; ready = accepted-times A.ready }

  pub samples-asked : SamplesAsked c starts numbers xs ys m times values marks ends
  samples-asked = record { arrays = starts-and-knots; ready = accepted-unblocked A.ready }

  -- the clips of the starts are clips that have an end, and tell the answer without a time
  pub clips-asked : Every (λ (n : ℕ). n < length ends) (take c.starts numbers)
  clips-asked = clips-named A.ready

  pub untimed-told : untimed_of (take c.starts numbers) m ends ≡ untimed_answer (lent_set (length ends) c starts numbers xs ys blocks m) (samples_of times values marks ends)
  untimed-told = untimed-is A.ready

  pub times-are : lent_times c starts numbers xs ys times ends ≡ stage_sample_times (lent_set (length ends) c starts numbers xs ys blocks m) (samples_of times values marks ends)
  times-are = stage-times A.ready

pub samples-are : (c : Counts) (starts : List Float) (numbers : List ℕ) (xs ys blocks : List Float) (m : Missing) (ends : List ℕ) (s : Samples)
    → stage_samples (lent_unblocked c starts numbers xs ys m ends) s ≡ stage_samples (lent_set (length ends) c starts numbers xs ys blocks m) s
samples-are c starts numbers xs ys blocks m ends s =
    samples-unblocked (take c.starts starts) (take c.starts numbers) (take c.knots xs) (take c.knots ys) (take c.blocks blocks) m ends s
