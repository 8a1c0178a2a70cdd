-- `set_samples::check_samples` meets its contract: the six tests of 1, then the parts. Assumes nothing.
use mathlib.Core.Path.{sym, ◌∙◌, ap}
use mathlib.Core.Bool.{true≢false}
use Rattle.std.proofs.lemmas.Result.{err_from_is_err_and}
use Rattle.definitions.specs.Refusals.{number_of, number_in}
use Rattle.set_samples.specs.Parting.{lent_samples}
use Rattle.set_samples.proofs.Misshapen.{parted, refused}
use Rattle.set_samples.proofs.check_samples.Goals.{then-values-times-via-then-values-times, then-values-times-via-else-values-times+then-marks-times, then-values-times-via-else-values-times+else-marks-times+then-counts-clips, then-branch-times-via-then-branch-times, then-branch-times-via-else-branch-times+then-ends-total_clips}
use Rattle.set_samples.proofs.check_samples.Goals as goal

pub returns-then-values-times : goal.returns-then-values-times
returns-then-values-times c = elim c.then-values-times.branch [
  | then-values-times-via-then-values-times w ↦ refused _ _ (λ p. w.if-values-times.true p.values-alike)
  | then-values-times-via-else-values-times+then-marks-times w ↦ refused _ _ (λ p. w.if-marks-times.true p.marks-alike)
  | then-values-times-via-else-values-times+else-marks-times+then-counts-clips w ↦ refused _ _ (λ p. w.if-counts-clips.true p.counts-are)
]

pub returns-in_err-total_samples : goal.returns-in_err-total_samples
returns-in_err-total_samples c =
    let too-many = c.in_err-total_samples.ensures in
    let e = err_from_is_err_and _ c.from_residual.ensures.1 in
    ap number_in e.1 ∙ ap number_of (e.2 ∙ too-many.1) ∙ refused _ _ (λ p. true≢false (sym too-many.0 ∙ p.few))

pub returns-then-branch-times : goal.returns-then-branch-times
returns-then-branch-times c = elim c.then-branch-times.branch [
  | then-branch-times-via-then-branch-times w ↦ refused _ _ (λ p. w.if-branch-times.true (c.in_ok-total_samples.ensures.1 ∙ p.samples-are))
  | then-branch-times-via-else-branch-times+then-ends-total_clips w ↦ refused _ _ (λ p. w.if-ends-total_clips.true (p.ends-are ∙ sym w.total_clips.ensures))
]

pub check_parts-requires-clause-fact_2 : goal.check_parts-requires-clause-fact_2
check_parts-requires-clause-fact_2 c =
    let a = c.args in
    parted a.clips.now (lent_samples a.counts.now a.ends.now a.times.now a.values.now a.marks.now) record {
      values-alike = c.if-values-times.false;
      marks-alike = c.if-marks-times.false;
      counts-are = c.if-counts-clips.false;
      few = c.in_ok-total_samples.ensures.0;
      samples-are = sym c.in_ok-total_samples.ensures.1 ∙ c.if-branch-times.false;
      ends-are = c.if-ends-total_clips.false ∙ c.total_clips.ensures;
    }
