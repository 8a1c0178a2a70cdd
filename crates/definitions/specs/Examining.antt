-- docs/VALUE-CLIPS.md, "Examining and installing": what an examining hands back, and the acceptance as the two in a row. Assumes nothing.
use Rattle.std.specs.Prelude.{ℕ, ◌≡◌, false, List, [], ◌∷◌, ◌++◌}
use Rattle.gf.specs.Doubles.{0·0}
use Rattle.definitions.specs.ClipSet.{ClipSet, Model, standing, mark_none}
use Rattle.definitions.specs.Explicit.{ExplicitFields, explicit_number, explicit_set}
use Rattle.definitions.specs.Template.{TemplateFields, template_number, template_set}
use Rattle.definitions.specs.Calls.{Call, explicit, template, install, accepted, step, after}

-- "fields, explicit or a template's"
pub data Fields : Type 0 where
  explicitly : ExplicitFields → Fields
  by_template : TemplateFields → Fields

-- "no clip, start, knot or block, no default and the flag off"; the default's slot is 0.0, as "the reply's other fields are 0"
abbrev pub empty_set : ClipSet
empty_set = record { clips = 0; active = []; knots = []; blocks = []; default = record { mark = mark_none; value = 0·0 }; interpolate_missing = false }

-- ---- examining

-- "the numbers of their acceptance, in its order"
abbrev pub fields_number : Fields → ℕ
fields_number (explicitly f) = explicit_number f
fields_number (by_template f) = template_number f

abbrev pub fields_set : Fields → ClipSet
fields_set (explicitly f) = explicit_set f
fields_set (by_template f) = template_set f

-- what is handed back
pub record Examined : Type 0 where
  pub number : ℕ
  pub set : ClipSet

-- "the prepared set: the one that the acceptance would put on the desk"; "A refused examining hands back the empty set"
unfoldable pub examine : Fields → Examined
examine f = record { number = fields_number f; set = accepted (fields_number f) empty_set (fields_set f) }

-- ---- what the document claims of the two

abbrev pub acceptance : Fields → Call
acceptance (explicitly f) = explicit f
acceptance (by_template f) = template f

-- "Acceptance is the two in a row": where the number is 0 what stands is what the installing leaves, else what stood
abbrev pub InARow : Type 0
InARow = (m : Model) (f : Fields) → step m (acceptance f) ≡ accepted (examine f).number m (step m (install (examine f).set))

-- "installing it again brings it back as it was prepared": whatever was called before, retimings too
abbrev pub AsPrepared : Type 0
AsPrepared = (calls : List Call) (set : ClipSet) → after (calls ++ (install set ∷ [])) ≡ standing set
