-- `sdf::check_samples` meets its contract: each return is settled by the tests made so far. Assumes nothing.
use Prim.Native.Nat.{ℕ}
use mathlib.Core.Path.{◌≡◌, sym, ◌∙◌}
use mathlib.Core.Bool.{Bool, false}
use lib.ListN.{length}
use Rattle.definitions.specs.Lists.{any, zip_with}
use Rattle.definitions.specs.ClipSet.{ClipSet}
use Rattle.definitions.specs.Samples.{unlike_lengths, nan_value, samples_number}
use Rattle.laws.specs.cell.Lent.{samples_of}
use Rattle.sdf.proofs.Lent.{every-fits, paired}
use Rattle.sdf.specs.Judged.{Judged}
use Rattle.sdf.proofs.Numbers.{unlike, other-clips, a-nan, unstorable, unsound, a-mark, none-applies}
use Rattle.sdf.proofs.check_samples.Goals.{After-unlike_lengths, Else-any_nan, Else-ends-clips, Else-unlike_lengths}
use Rattle.sdf.proofs.check_samples.Goals as goal

alike : (c : Else-unlike_lengths) → unlike_lengths c.args.times.now c.args.values.now c.args.marks.now ≡ false
alike c = sym c.unlike_lengths.ensures ∙ c.if-unlike_lengths.false

numbers : (c : Else-any_nan) → any (λ (b : Bool). b) (zip_with nan_value c.args.values.now c.args.marks.now) ≡ false
numbers c = sym c.any_nan.ensures ∙ c.if-any_nan.false

-- ---- the promise
-- the doubles of lent lists are ones that a program can hold
judged : (c : After-unlike_lengths) (r : ℕ)
    → ((set : ClipSet) → set.clips ≡ c.args.clips → r ≡ samples_number set (samples_of c.args.times.now c.args.values.now c.args.marks.now c.args.ends.now))
    → Judged c.args.clips c.args.times.now c.args.values.now c.args.marks.now c.args.ends.now r
judged c r n = record {
  number = n;
  times-fit = every-fits c.args.times.now (λ i. c.shared_slice_known-1.given i);
  values-fit = every-fits c.args.values.now (λ i. c.shared_slice_known-2-1.given i);
}

pub returns-then-unlike_lengths : goal.returns-then-unlike_lengths
returns-then-unlike_lengths c = judged (goal.at.returns-then-unlike_lengths c).After-unlike_lengths 1 (λ set e. unlike _ _ _ _ set (sym c.unlike_lengths.ensures ∙ c.if-unlike_lengths.true))

pub returns-then-ends-clips : goal.returns-then-ends-clips
returns-then-ends-clips c = judged (goal.at.returns-then-ends-clips c).After-unlike_lengths 1 (λ set e. other-clips _ _ _ _ set (alike (goal.at.returns-then-ends-clips c).Else-unlike_lengths) (λ f. c.if-ends-clips.true (f ∙ e)))

abbrev clips : (c : Else-ends-clips) (set : ClipSet) → set.clips ≡ c.args.clips → length c.args.ends.now ≡ set.clips
clips c set e = c.if-ends-clips.false ∙ sym e

pub any_nan-requires : goal.any_nan-requires
any_nan-requires c =
    let p = paired _ _ _ (alike (goal.at.any_nan-requires c).Else-unlike_lengths) in
    p.1 ∙ sym p.2

pub returns-then-any_nan : goal.returns-then-any_nan
returns-then-any_nan c =
    let b = c in
    judged (goal.at.returns-then-any_nan b).After-unlike_lengths 2 (λ set e. a-nan _ _ _ _ set (alike (goal.at.returns-then-any_nan b).Else-unlike_lengths) (clips (goal.at.returns-then-any_nan b).Else-ends-clips set e) (sym c.any_nan.ensures ∙ c.if-any_nan.true))

pub returns-then-any_unstorable : goal.returns-then-any_unstorable
returns-then-any_unstorable c =
    let d = c in
    let b = d in
    judged (goal.at.returns-then-any_unstorable b).After-unlike_lengths 2 (λ set e. unstorable _ _ _ _ set (alike (goal.at.returns-then-any_unstorable b).Else-unlike_lengths) (clips (goal.at.returns-then-any_unstorable b).Else-ends-clips set e) (numbers (goal.at.returns-then-any_unstorable d).Else-any_nan) (sym c.any_unstorable.ensures ∙ c.if-any_unstorable.true))

pub returns-then-not-sound : goal.returns-then-not-sound
returns-then-not-sound c =
    let f = c in
    let d = f in
    let b = d in
    judged (goal.at.returns-then-not-sound b).After-unlike_lengths 9
    (λ set e. unsound _ _ _ _ set (alike (goal.at.returns-then-not-sound b).Else-unlike_lengths) (clips (goal.at.returns-then-not-sound b).Else-ends-clips set e) (numbers (goal.at.returns-then-not-sound d).Else-any_nan) (sym c.any_unstorable.ensures ∙ c.if-any_unstorable.false) (sym f.sound.ensures ∙ f.if-not-sound.true))

pub returns-then-bad_marks : goal.returns-then-bad_marks
returns-then-bad_marks c =
    let f = c in
    let d = f in
    let b = d in
    judged (goal.at.returns-then-bad_marks b).After-unlike_lengths 9
    (λ set e. a-mark _ _ _ _ set (alike (goal.at.returns-then-bad_marks b).Else-unlike_lengths) (clips (goal.at.returns-then-bad_marks b).Else-ends-clips set e) (numbers (goal.at.returns-then-bad_marks d).Else-any_nan) (sym f.sound.ensures ∙ f.if-not-sound.false) (sym c.bad_marks.ensures ∙ c.if-bad_marks.true))

pub returns : goal.returns
returns c =
    let f = c in
    let d = f in
    let b = d in
    judged (goal.at.returns b).After-unlike_lengths 0
    (λ set e. none-applies _ _ _ _ set (alike (goal.at.returns b).Else-unlike_lengths) (clips (goal.at.returns b).Else-ends-clips set e) (numbers (goal.at.returns d).Else-any_nan) (sym f.sound.ensures ∙ f.if-not-sound.false) (sym c.bad_marks.ensures ∙ c.if-bad_marks.false))
