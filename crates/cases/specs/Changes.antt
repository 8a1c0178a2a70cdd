-- What a line that may change what stands promises: it is not readable, and what stood still stands; or it makes one call of its kind, whose reply is handed on. Assumes nothing.
use Rattle.std.specs.Prelude.{List, take, Float, Option, IfSome, Result, ℕ}
use Rattle.definitions.specs.declared.LayerOffset.{LayerOffset}
use Rattle.definitions.specs.Explicit.{ExplicitFields}
use Rattle.definitions.specs.Template.{TemplateFields}
use Rattle.resolver.specs.declared.Resolver.{Resolver}
use Rattle.definitions.specs.declared.refusal.Refusal.{Refusal}
use Rattle.definitions.specs.Refusals.{number_in}
use Rattle.resolver.specs.State.{left}
use Rattle.resolver.specs.Promises.{Accepts, Expands, Retimes}
use Rattle.cases.specs.declared.lines.calls.Change.{Change}
use Rattle.cases.specs.declared.lines.calls.Change.TheVariants.{Explicit, Template, Retime}
use Rattle.cases.specs.declared.changes.ExplicitRead.{ExplicitRead}
use Rattle.cases.specs.declared.changes.TemplateRead.{TemplateRead}

-- the fields that were read: of each list its first entries

abbrev pub explicit_of : ExplicitRead → List Float → List Float → List Float → List Float → List Float → ExplicitFields
explicit_of r starts numbers xs ys blocks = record {
  clips = r.clips;
  start_times = take r.starts starts;
  start_clips = take r.numbers numbers;
  knot_x = take r.xs xs;
  knot_y = take r.ys ys;
  blocks = take r.blocks blocks;
  default = r.manifest.default;
  interpolate_missing = r.manifest.interpolate;
}

abbrev pub template_of : TemplateRead → List ℕ → List Float → TemplateFields
template_of r bytes blocks = record {
  template = take r.bytes bytes;
  times = r.times;
  has_offset = r.offset;
  blocks = take r.blocks blocks;
  default = r.manifest.default;
  interpolate_missing = r.manifest.interpolate;
}

-- the operation's own promise, of some fields: which ones, `explicit_of` and `template_of` say where the lists as read are handed over
abbrev pub Forwards : Change → Resolver → Result Resolver Refusal → Type 0
Forwards Explicit d r = (f : ExplicitFields) × Accepts d f (number_in r) (left d r)
Forwards Template d r = (f : TemplateFields) × Expands d f (number_in r) (left d r)
Forwards Retime d r = (o : LayerOffset) × Retimes d o (number_in r) (left d r)

-- nothing is handed on where the line could not be read
abbrev pub Changes : Change → Resolver → Option (Result Resolver Refusal) → Type 0
Changes kind d r = IfSome r (Forwards kind d)
