-- The stage samples written out: their times, and the marks at these times. Assumes nothing.
use Rattle.std.specs.Prelude.{None, Some}
use mathlib.Core.Path.{◌≡◌, sym, ap, ◌∙◌, subst}
use mathlib.Core.List.{List}
use Prim.Native.Nat.{ℕ, ◌≤◌, ◌<◌, min}
use lib.ListN.{length, take}
use lib.Ieee.{Float}
use Rattle.definitions.specs.Lists.{written_over}
use Rattle.definitions.specs.ClipSet.{ClipSet}
use Rattle.definitions.specs.Samples.{Samples}
use Rattle.definitions.specs.StageSamples.{stage_sample_times, stage_samples}
use Rattle.stage.proofs.Writing.{take-written}
use Rattle.stage.specs.Promises.{SamplesWritten, times_in, marks_in}
use Rattle.stage.specs.Marks.{marks_at}
use Rattle.stage.proofs.Marks.{times-are, marks-are, as_many}

module _ (set : ClipSet) (s : Samples) (all : List Float) (is : all ≡ stage_sample_times set s) (times₀ times₁ : List Float) (marks₀ marks₁ : List ℕ) where
  many : length all ≡ length (stage_samples set s)
  many = ap length is ∙ sym (as_many set s)

  times-in : all ≡ times_in (stage_samples set s)
  times-in = is ∙ sym (times-are set s)

  marks-in : marks_at set s all ≡ marks_in (stage_samples set s)
  marks-in = ap (marks_at set s) is ∙ sym (marks-are set s)

  pub samples-written : (n : ℕ) → n ≡ length all → length all ≤ min (length times₀) (length marks₀) → times₁ ≡ written_over all times₀ → marks₁ ≡ written_over (marks_at set s (take n times₁)) marks₀
      → SamplesWritten (stage_samples set s) times₀ times₁ marks₀ marks₁ (Some n)
  samples-written n e l p q = (
    e ∙ many,
    subst (λ (k : ℕ). k ≤ min (length times₀) (length marks₀)) many l,
    p ∙ ap (λ (k : List Float). written_over k times₀) times-in,
    q
        ∙ ap (λ (k : List Float). written_over (marks_at set s k) marks₀) (ap (take n) p ∙ take-written all times₀ n e)
        ∙ ap (λ (k : List ℕ). written_over k marks₀) marks-in,
  )

  pub samples-none : min (length times₀) (length marks₀) < length all → times₁ ≡ times₀ → marks₁ ≡ marks₀ → SamplesWritten (stage_samples set s) times₀ times₁ marks₀ marks₁ None
  samples-none l p q = (subst (λ (k : ℕ). min (length times₀) (length marks₀) < k) many l, p, q)
