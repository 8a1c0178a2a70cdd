-- `explicit::fields::check_fields` meets its contract: one test after the other. Assumes nothing.
use mathlib.Core.Path.{sym, ◌∙◌}
use Rattle.definitions.specs.Explicit.{explicit1, explicit2, explicit3}
use Rattle.explicit.specs.Parsing.{misshapen, fields_number}
use Rattle.explicit.proofs.fields.check_fields.Goals.{then-any_unstorable-via-then-any_unstorable, then-any_unstorable-via-else-any_unstorable+then-any_unstorable-2, then-any_unstorable-via-else-any_unstorable+else-any_unstorable-2+then-any_unstorable-3, then-any_unstorable-via-else-any_unstorable+else-any_unstorable-2+else-any_unstorable-3+then-any_unstorable-4, then-any_unstorable-via-else-any_unstorable+else-any_unstorable-2+else-any_unstorable-3+else-any_unstorable-4+then-is_nan_default}
use Rattle.explicit.proofs.fields.check_fields.Goals as goal

pub returns-then-is_misshapen : goal.returns-then-is_misshapen
unfolding fields_number explicit1 misshapen explicit2 explicit3
returns-then-is_misshapen c = rw (sym c.is_misshapen.ensures ∙ c.if-is_misshapen.true)

pub returns-then-any_unstorable : goal.returns-then-any_unstorable
unfolding fields_number explicit1 misshapen explicit2 explicit3
returns-then-any_unstorable c = elim c.then-any_unstorable.branch [
  | then-any_unstorable-via-then-any_unstorable w ↦ rw (sym c.is_misshapen.ensures ∙ c.if-is_misshapen.false, sym c.any_unstorable.ensures ∙ w.if-any_unstorable.true)
  | then-any_unstorable-via-else-any_unstorable+then-any_unstorable-2 w ↦ rw (sym c.is_misshapen.ensures ∙ c.if-is_misshapen.false, sym c.any_unstorable.ensures ∙ w.if-any_unstorable.false, sym w.any_unstorable-else-any_unstorable.ensures ∙ w.if-any_unstorable-2.true)
  | then-any_unstorable-via-else-any_unstorable+else-any_unstorable-2+then-any_unstorable-3 w ↦ rw (sym c.is_misshapen.ensures ∙ c.if-is_misshapen.false, sym c.any_unstorable.ensures ∙ w.if-any_unstorable.false, sym w.any_unstorable-else-any_unstorable.ensures ∙ w.if-any_unstorable-2.false, sym w.any_unstorable-else-any_unstorable-2.ensures ∙ w.if-any_unstorable-3.true)
  | then-any_unstorable-via-else-any_unstorable+else-any_unstorable-2+else-any_unstorable-3+then-any_unstorable-4 w ↦ rw (sym c.is_misshapen.ensures ∙ c.if-is_misshapen.false, sym c.any_unstorable.ensures ∙ w.if-any_unstorable.false, sym w.any_unstorable-else-any_unstorable.ensures ∙ w.if-any_unstorable-2.false, sym w.any_unstorable-else-any_unstorable-2.ensures ∙ w.if-any_unstorable-3.false, sym w.any_unstorable-else-any_unstorable-3.ensures ∙ w.if-any_unstorable-4.true)
  | then-any_unstorable-via-else-any_unstorable+else-any_unstorable-2+else-any_unstorable-3+else-any_unstorable-4+then-is_nan_default w ↦ rw (sym c.is_misshapen.ensures ∙ c.if-is_misshapen.false, sym c.any_unstorable.ensures ∙ w.if-any_unstorable.false, sym w.any_unstorable-else-any_unstorable.ensures ∙ w.if-any_unstorable-2.false, sym w.any_unstorable-else-any_unstorable-2.ensures ∙ w.if-any_unstorable-3.false, sym w.any_unstorable-else-any_unstorable-3.ensures ∙ w.if-any_unstorable-4.false, sym w.is_nan_default.ensures ∙ w.if-is_nan_default.true)
]

pub returns-then-any_not_clip : goal.returns-then-any_not_clip
unfolding fields_number explicit1 misshapen explicit2 explicit3
returns-then-any_not_clip c = rw (sym c.is_misshapen.ensures ∙ c.if-is_misshapen.false, sym c.any_unstorable.ensures ∙ c.if-any_unstorable.false, sym c.any_unstorable-else-any_unstorable.ensures ∙ c.if-any_unstorable-2.false, sym c.any_unstorable-else-any_unstorable-2.ensures ∙ c.if-any_unstorable-3.false, sym c.any_unstorable-else-any_unstorable-3.ensures ∙ c.if-any_unstorable-4.false, sym c.is_nan_default.ensures ∙ c.if-is_nan_default.false, sym c.any_not_clip.ensures ∙ c.if-any_not_clip.true)

pub returns : goal.returns
unfolding fields_number explicit1 misshapen explicit2 explicit3
returns c = rw (sym c.is_misshapen.ensures ∙ c.if-is_misshapen.false, sym c.any_unstorable.ensures ∙ c.if-any_unstorable.false, sym c.any_unstorable-else-any_unstorable.ensures ∙ c.if-any_unstorable-2.false, sym c.any_unstorable-else-any_unstorable-2.ensures ∙ c.if-any_unstorable-3.false, sym c.any_unstorable-else-any_unstorable-3.ensures ∙ c.if-any_unstorable-4.false, sym c.is_nan_default.ensures ∙ c.if-is_nan_default.false, sym c.any_not_clip.ensures ∙ c.if-any_not_clip.false)
