-- What each way out of a template acceptance shows. Assumes nothing.
use Prim.Native.Nat.{◌≤◌, ◌<◌}
use mathlib.Core.Path.{◌≡◌, refl, subst, ◌∙◌}
use mathlib.Core.Bool.{false}
use lib.Dec.{ltb, lit<}
use lib.ListN.{length}
use borrow.Author.Tests.{lt-ltb, le-ltb, ltb-false}
use Rattle.definitions.specs.ClipSet as Definitions
use Rattle.definitions.specs.ClipSet.{max_clips, max_blocks, max_template}
use Rattle.definitions.specs.Template.{TemplateFields, active_offset, promoted, template_set, template1, template2, template7, template6, template8, template_number}
use Rattle.laws.proofs.list.Tests.{or-false, passed}
use Rattle.laws.proofs.set.SoundTemplate.{TemplateFits, template-sound}
use Rattle.std.specs.Prelude.{Result, Err}
use Rattle.definitions.specs.declared.refusal.Refusal.{Refusal}
use Rattle.definitions.specs.declared.refusal.Refusal.TheVariants.{TooManyClips}
use Rattle.definitions.specs.Refusals.{number_of}
use Rattle.clip.specs.declared.ClipSet.{ClipSet}
use Rattle.definitions.specs.Examining.{by_template, empty_set}
use Rattle.definitions.proofs.Refused.{not-zero}
use Rattle.clip.specs.Holding.{manifest}
use Rattle.clip.specs.Preparing.{Examines}
use Rattle.clip.specs.Storing.{settle_number, Stores}
use Rattle.template.specs.Expanding.{template_fields_number, expanded_set}
use Rattle.clip.proofs.Laws.{same_number}
use Rattle.clip.proofs.Preparing.{prepares, prepares-not, examines, empty-sound}

-- ---- fields without 1, 2, 7 and 6

record FieldsPass (f : TemplateFields) : Type 0 where
  not1 : template1 f ≡ false
  not2 : template2 f ≡ false
  not7 : template7 f ≡ false
  not6 : template6 f ≡ false

fields-pass : (f : TemplateFields) → template_fields_number f ≡ 0 → FieldsPass f
unfolding template_fields_number
fields-pass f e =
    let p1 = passed 1 (template1 f) _ (lit< tt) e in
    let p2 = passed 2 (template2 f) _ (lit< tt) p1.1 in
    let p7 = passed 7 (template7 f) _ (lit< tt) p2.1 in
    let p6 = passed 6 (template6 f) _ (lit< tt) p7.1 in
    record { not1 = p1.0; not2 = p2.0; not7 = p7.0; not6 = p6.0 }

pub few-blocks : (f : TemplateFields) → template_fields_number f ≡ 0 → length f.blocks ≤ max_blocks
unfolding template1
few-blocks f e = ltb-false max_blocks (length f.blocks) (or-false (ltb max_template (length f.template)) (ltb max_blocks (length f.blocks)) (fields-pass f e).not1).1

-- where the fields have a number it is the acceptance's
fields-first : (f : TemplateFields) → (template_fields_number f ≡ 0 → ⊥) → template_fields_number f ≡ template_number f
unfolding template_fields_number template_number
fields-first f h =
    same_number 1 (template1 f) _ _ h
    (λ h. same_number 2 (template2 f) _ _ h (λ h. same_number 7 (template7 f) _ _ h (λ h. same_number 6 (template6 f) _ _ h (λ h. absurd (h refl)))))

refuses : (f : TemplateFields) (r : Result ClipSet Refusal) (e : Refusal) → r ≡ Err e → number_of e ≡ template_number f → Examines (by_template f) r
refuses f r e h n = examines (by_template f) r (prepares-not empty_set (template_set f) r e (template_number f) h n empty-sound)

pub template-refuses : (f : TemplateFields) (r : Result ClipSet Refusal) (e : Refusal) → r ≡ Err e → number_of e ≡ template_fields_number f → Examines (by_template f) r
template-refuses f r e h n = refuses f r e h (n ∙ fields-first f (λ z. not-zero e (n ∙ z)))

-- ---- the 257th clip, and at most 256

eight : (f : TemplateFields) → FieldsPass f → 256 < length (promoted f.times) → 8 ≡ template_number f
unfolding template_number template8
eight f p l = rw (p.not1, p.not2, p.not7, p.not6, lt-ltb max_clips (length (promoted f.times)) l)

pub template-beyond : (f : TemplateFields) → template_fields_number f ≡ 0 → 256 < length (promoted f.times) → Examines (by_template f) (Err TooManyClips)
template-beyond f z l = refuses f (Err TooManyClips) TooManyClips refl (eight f (fields-pass f z) l)

number_is : (f : TemplateFields) → FieldsPass f → length (promoted f.times) ≤ 256 → settle_number (template_set f) ≡ template_number f
unfolding settle_number template_number template8 template_set
number_is f p l = rw (p.not1, p.not2, p.not7, p.not6, le-ltb max_clips (length (promoted f.times)) l)

-- the set is that of the times t
set_is : (f : TemplateFields) → expanded_set (promoted f.times) f.times (active_offset f) f.blocks (manifest f.default f.interpolate_missing) ≡ template_set f
unfolding expanded_set template_set
set_is f = refl

pub template-settles : (f : TemplateFields) (r : Result ClipSet Refusal) → TemplateFits f → template_fields_number f ≡ 0 → length (promoted f.times) ≤ 256
    → Stores empty_set (expanded_set (promoted f.times) f.times (active_offset f) f.blocks (manifest f.default f.interpolate_missing)) r → Examines (by_template f) r
template-settles f r h z l t =
    examines (by_template f) r (prepares empty_set (template_set f) r (settle_number (template_set f)) (template_number f) (number_is f (fields-pass f z) l) empty-sound (template-sound f h)
    (subst (λ (set : Definitions.ClipSet). Stores empty_set set r) (set_is f) t))
