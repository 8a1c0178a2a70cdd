-- `normal_form::check_listed` meets its contract: each return settles one test. Assumes nothing.
use mathlib.Core.Path.{sym, ◌∙◌}
use Rattle.definitions.specs.Samples.{samples2}
use Rattle.normal_form.specs.Normalizes.{listed_number}
use Rattle.sdf.proofs.Lent.{paired}
use Rattle.normal_form.proofs.check_listed.Goals as goal

pub returns-then-unlike_lengths : goal.returns-then-unlike_lengths
unfolding listed_number samples2
returns-then-unlike_lengths c = rw (sym c.unlike_lengths.ensures ∙ c.if-unlike_lengths.true)

pub returns-then-any_unstorable : goal.returns-then-any_unstorable
unfolding listed_number samples2
returns-then-any_unstorable c = rw (sym c.unlike_lengths.ensures ∙ c.if-unlike_lengths.false, sym c.any_unstorable.ensures ∙ c.if-any_unstorable.true)

pub any_nan-requires : goal.any_nan-requires
any_nan-requires c =
    let b = c in
    let p = paired _ _ _ (sym b.unlike_lengths.ensures ∙ b.if-unlike_lengths.false) in
    p.1 ∙ sym p.2

pub returns-then-any_nan : goal.returns-then-any_nan
unfolding listed_number samples2
returns-then-any_nan c = rw (sym c.unlike_lengths.ensures ∙ c.if-unlike_lengths.false, sym c.any_unstorable.ensures ∙ c.if-any_unstorable.false, sym c.any_nan.ensures ∙ c.if-any_nan.true)

pub returns-then-bad_marks : goal.returns-then-bad_marks
unfolding listed_number samples2
returns-then-bad_marks c = rw (sym c.unlike_lengths.ensures ∙ c.if-unlike_lengths.false, sym c.any_unstorable.ensures ∙ c.if-any_unstorable.false, sym c.any_nan.ensures ∙ c.if-any_nan.false, sym c.bad_marks.ensures ∙ c.if-bad_marks.true)

pub returns : goal.returns
unfolding listed_number samples2
returns c = rw (sym c.unlike_lengths.ensures ∙ c.if-unlike_lengths.false, sym c.any_unstorable.ensures ∙ c.if-any_unstorable.false, sym c.any_nan.ensures ∙ c.if-any_nan.false, sym c.bad_marks.ensures ∙ c.if-bad_marks.false)
