-- What a template acceptance replies. Assumes nothing.
use Rattle.std.specs.Prelude.{ℕ, suc, ◌+◌, ◌≤◌, ◌≡◌, Bool, cond, List, [], ◌∷◌, ◌++◌, map, length, take, Float, Result, Ok, Err, ◌<◌}
use Rattle.std.proofs.Math.Option.{Option, none, some}
use Rattle.gf.specs.Doubles.{◌⊕◌, ◌⊖◌, ◌⊘◌, 10000·0, abs}
use Rattle.definitions.specs.declared.Missing.{Missing}
use Rattle.definitions.specs.declared.TemplateTimes.{TemplateTimes}
use Rattle.definitions.specs.Lists.{◌if◌else◌}
use Rattle.definitions.specs.ClipSet as Definitions
use Rattle.definitions.specs.ClipSet.{max_clips, max_blocks, sort_active, sort_knots}
use Rattle.definitions.specs.Template.{TemplateFields, promoted, activations, clip_knots, with_bounds, template1, template2, template7, template6}
use Rattle.definitions.specs.declared.refusal.Refusal.{Refusal}
use Rattle.definitions.specs.declared.refusal.Refusal.TheVariants.{TooManyClips}
use Rattle.definitions.specs.Refusals.{reply_of}
use Rattle.definitions.specs.Questions.{ask_clip_times}
use Rattle.sdf.specs.Counted.{counted, listed, itself}
use Rattle.template.specs.declared.expanding.Promoted.{Promoted}

abbrev pub template_fields : List ℕ → TemplateTimes → Bool → List Float → Missing → TemplateFields
template_fields template x offset blocks m = record {
  template = template;
  times = x;
  has_offset = offset;
  blocks = blocks;
  default = m.default;
  interpolate_missing = m.interpolate;
}

abbrev pub offset_of : TemplateTimes → Bool → Option Float
offset_of x offset = cond offset (some x.offset) none

-- the numbers that the fields alone give
unfoldable pub template_fields_number : TemplateFields → ℕ
template_fields_number f =
    1 if template1 f else
    2 if template2 f else
    7 if template7 f else
    6 if template6 f else
    0

-- the times t of the clips
pub record Times (x : TemplateTimes) (r : Promoted) : Type 0 where
  pub long : length r.items ≡ max_clips
  pub few : r.count ≤ max_clips
  pub count : r.count ≡ length (promoted x)
  pub list : take r.count r.items ≡ promoted x

-- the times, or 8 where there are too many
abbrev pub Promotes : TemplateTimes → Result Promoted Refusal → Type 0
Promotes x (Ok r) = Times x r
Promotes x (Err e) = (max_clips < length (promoted x)) × (e ≡ TooManyClips)

-- ---- the clip times that are asked for

pub record SaysClipTimes (x : TemplateTimes) (o : Option Float) (before after : List Float) (r : Result ℕ Refusal) : Type 0 where
  pub count : reply_of r ≡ counted (ask_clip_times x o (length before))
  pub times : after ≡ listed itself (ask_clip_times x o (length before)) before

-- ---- the lists of the times t

abbrev pub times_of_clips : List Float → List Float
times_of_clips ts = map (λ (t : Float). t ⊘ 10000·0) ts

abbrev pub bounded : Float → Float → List Float → List Float
bounded first last ts = first ∷ (times_of_clips ts ++ (last ∷ []))

-- the x of the knots, and their y
abbrev pub knot_xs : TemplateTimes → Option Float → List Float → List Float
knot_xs x none ts = times_of_clips ts
knot_xs x (some offset) ts = bounded (x.start ⊖ abs offset) (x.end ⊕ abs offset) ts

abbrev pub knot_count : Bool → ℕ → ℕ
knot_count offset n = cond offset (n + 2) n

-- i, i + 1, .., as many as there are entries
abbrev pub numbered : {A : Type 0} → ℕ → List A → List ℕ
numbered i [] = []
numbered i (x ∷ xs) = i ∷ numbered (suc i) xs

-- lists as long as the clips, and as their knots
pub record RoomForLists (offset : Bool) (ts times : List Float) (numbers : List ℕ) (xs ys blocks : List Float) : Type 0 where
  pub for-times : length times ≡ length ts
  pub for-numbers : length numbers ≡ length ts
  pub for-xs : length xs ≡ knot_count offset (length ts)
  pub for-ys : length ys ≡ knot_count offset (length ts)
  pub few : length ts ≤ max_clips
  pub few-blocks : length blocks ≤ max_blocks

-- the set that a template makes of the times t
unfoldable pub expanded_set : List Float → TemplateTimes → Option Float → List Float → Missing → Definitions.ClipSet
expanded_set ts x o blocks m = record {
  clips = length ts;
  active = sort_active (activations o 0 ts);
  knots = sort_knots (with_bounds x o (clip_knots ts));
  blocks = blocks;
  default = m.default;
  interpolate_missing = m.interpolate;
}
