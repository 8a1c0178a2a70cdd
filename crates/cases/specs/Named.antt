-- What a line that may change the dispatcher promises: it makes no call, and every list is as it was; or it makes one call, whose number is handed on. Assumes nothing.
use Rattle.std.specs.Prelude.{◌≡◌, ℕ, Bool, List, Option, Some, None}
use Rattle.definitions.specs.declared.LayerOffset.{LayerOffset}
use Rattle.definitions.specs.Explicit.{ExplicitFields}
use Rattle.definitions.specs.Template.{TemplateFields}
use Rattle.definitions.specs.Refusals.{number_in}
use Rattle.clip.specs.declared.ClipSet.{ClipSet}
use Rattle.pages.specs.Pages.{Pages, Made}
use Rattle.set_changes.specs.Promises.{Accepts, Expands, Retimes, Installs}
use Rattle.cases.specs.declared.changes.named.Said.{Said}
use Rattle.cases.specs.declared.changes.named.Said.TheVariants.{Empty, Replied}

-- the operation's own promise, of some name and some fields
pub data Calls (before : Pages) (number : ℕ) (after : Pages) : Type 0 where
  explicit : (name : List ℕ) (declares : Bool) (f : ExplicitFields) → Accepts before name declares f number after → Calls before number after
  template : (name : List ℕ) (declares : Bool) (f : TemplateFields) → Expands before name declares f number after → Calls before number after
  retime : (name : List ℕ) (o : LayerOffset) → Retimes before name o number after → Calls before number after
  install : (name : List ℕ) (declares : Bool) (set : ClipSet) → Installs before name declares set number after → Calls before number after

abbrev pub SaidOf : Pages → Option Said → Pages → Type 0
SaidOf before None after = after ≡ before
SaidOf before (Some Empty) after = after ≡ before
SaidOf before (Some (Replied r)) after = Calls before (number_in r) after

pub record Leaves (before : Pages) (r : Option Said) (after : Pages) : Type 0 where
  pub said : SaidOf before r after
  pub made : Made after
