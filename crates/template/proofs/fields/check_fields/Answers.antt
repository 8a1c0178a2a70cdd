-- `template::fields::check_fields` meets its contract: one test after the other. Assumes nothing.
use mathlib.Core.Path.{sym, ◌∙◌}
use borrow.Author.Tests.{lt-ltb, le-ltb}
use Rattle.definitions.specs.Template.{template1, template2, template7, template6}
use Rattle.definitions.specs.Template.{times_unstorable, times_disordered}
use Rattle.template.specs.Expanding.{template_fields_number}
use Rattle.template.proofs.fields.check_fields.Goals.{then-template-gt-TEMPLATE_BYTES-via-then-template-gt-TEMPLATE_BYTES, then-template-gt-TEMPLATE_BYTES-via-else-template-gt-TEMPLATE_BYTES+then-blocks-gt-BLOCKS, then-is_unstorable-via-then-is_unstorable, then-is_unstorable-via-else-is_unstorable+then-any_unstorable, then-is_unstorable-via-else-is_unstorable+else-any_unstorable+then-is_nan_default}
use Rattle.template.proofs.fields.check_fields.Goals as goal

pub returns-then-template-gt-TEMPLATE_BYTES : goal.returns-then-template-gt-TEMPLATE_BYTES
unfolding template_fields_number template1 template2 times_unstorable template7 times_disordered template6
returns-then-template-gt-TEMPLATE_BYTES c = elim c.then-template-gt-TEMPLATE_BYTES.branch [
  | then-template-gt-TEMPLATE_BYTES-via-then-template-gt-TEMPLATE_BYTES w ↦ rw (lt-ltb _ _ w.if-template-gt-TEMPLATE_BYTES.true)
  | then-template-gt-TEMPLATE_BYTES-via-else-template-gt-TEMPLATE_BYTES+then-blocks-gt-BLOCKS w ↦ rw (le-ltb _ _ w.if-template-gt-TEMPLATE_BYTES.false, lt-ltb _ _ w.if-blocks-gt-BLOCKS.true)
]

pub returns-then-is_unstorable : goal.returns-then-is_unstorable
unfolding template_fields_number template1 template2 times_unstorable template7 times_disordered template6
returns-then-is_unstorable c = elim c.then-is_unstorable.branch [
  | then-is_unstorable-via-then-is_unstorable w ↦ rw (le-ltb _ _ c.if-template-gt-TEMPLATE_BYTES.false, le-ltb _ _ c.if-blocks-gt-BLOCKS.false, sym c.is_unstorable.ensures ∙ w.if-is_unstorable.true)
  | then-is_unstorable-via-else-is_unstorable+then-any_unstorable w ↦ rw (le-ltb _ _ c.if-template-gt-TEMPLATE_BYTES.false, le-ltb _ _ c.if-blocks-gt-BLOCKS.false, sym c.is_unstorable.ensures ∙ w.if-is_unstorable.false, sym w.any_unstorable.ensures ∙ w.if-any_unstorable.true)
  | then-is_unstorable-via-else-is_unstorable+else-any_unstorable+then-is_nan_default w ↦ rw (le-ltb _ _ c.if-template-gt-TEMPLATE_BYTES.false, le-ltb _ _ c.if-blocks-gt-BLOCKS.false, sym c.is_unstorable.ensures ∙ w.if-is_unstorable.false, sym w.any_unstorable.ensures ∙ w.if-any_unstorable.false, sym w.is_nan_default.ensures ∙ w.if-is_nan_default.true)
]

pub returns-then-is_disordered : goal.returns-then-is_disordered
unfolding template_fields_number template1 template2 times_unstorable template7 times_disordered template6
returns-then-is_disordered c = rw (le-ltb _ _ c.if-template-gt-TEMPLATE_BYTES.false, le-ltb _ _ c.if-blocks-gt-BLOCKS.false, sym c.is_unstorable.ensures ∙ c.if-is_unstorable.false, sym c.any_unstorable.ensures ∙ c.if-any_unstorable.false, sym c.is_nan_default.ensures ∙ c.if-is_nan_default.false, sym c.is_disordered.ensures ∙ c.if-is_disordered.true)

pub returns-then-not-is_readable : goal.returns-then-not-is_readable
unfolding template_fields_number template1 template2 times_unstorable template7 times_disordered template6
returns-then-not-is_readable c = rw (le-ltb _ _ c.if-template-gt-TEMPLATE_BYTES.false, le-ltb _ _ c.if-blocks-gt-BLOCKS.false, sym c.is_unstorable.ensures ∙ c.if-is_unstorable.false, sym c.any_unstorable.ensures ∙ c.if-any_unstorable.false, sym c.is_nan_default.ensures ∙ c.if-is_nan_default.false, sym c.is_disordered.ensures ∙ c.if-is_disordered.false, sym c.is_readable.ensures ∙ c.if-not-is_readable.true)

pub returns : goal.returns
unfolding template_fields_number template1 template2 times_unstorable template7 times_disordered template6
returns c = rw (le-ltb _ _ c.if-template-gt-TEMPLATE_BYTES.false, le-ltb _ _ c.if-blocks-gt-BLOCKS.false, sym c.is_unstorable.ensures ∙ c.if-is_unstorable.false, sym c.any_unstorable.ensures ∙ c.if-any_unstorable.false, sym c.is_nan_default.ensures ∙ c.if-is_nan_default.false, sym c.is_disordered.ensures ∙ c.if-is_disordered.false, sym c.is_readable.ensures ∙ c.if-not-is_readable.false)
