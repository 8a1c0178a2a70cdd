-- What each call promises that may change a dispatcher: its number for every argument, and what stands after it. Assumes nothing.
use Rattle.std.specs.Prelude.{ℕ, ◌≡◌, Bool, ◌||◌, List, leb, get_or}
use Rattle.definitions.specs.declared.LayerOffset.{LayerOffset}
use Rattle.definitions.specs.Lists.{◌if◌else◌, any}
use Rattle.definitions.specs.ClipSet.{standing}
use Rattle.definitions.specs.Explicit.{ExplicitFields}
use Rattle.definitions.specs.Template.{TemplateFields}
use Rattle.definitions.specs.Retime.{moved_number, retime_stage_times}
use Rattle.dispatch.specs.SetOrder.{too_long, same_name}
use Rattle.dispatch.specs.NamedSets.{max_sets, with_set}
use Rattle.dispatch.specs.Dispatch.{named_explicit_number, named_template_number, named_install_number, named_retime_number}
use Rattle.dispatch.specs.DispatchCalls.{explicit, template, install, retime, dispatch_step}
use Rattle.clip.specs.declared.ClipSet as clip
use Rattle.clip.specs.Holding.{clip_set_of}
use Rattle.standing.specs.Standing.{set_in}
use Rattle.resolver.specs.declared.Resolver.{Resolver}
use Rattle.resolver.specs.State as resolver
use Rattle.set_names.specs.Pages.{names_in}
use Rattle.pages.specs.Pages.{Pages, state_at, model, Made}
use Rattle.pages.specs.Placing.{Replaced}

-- 23 by the names in the pages
abbrev pub name_number : List ℕ → List ℕ → List ℕ → ℕ
name_number counts bytes name = 23 if leb max_sets (get_or counts 0 0) || any (λ (x : List ℕ). same_name x name) (names_in bytes (get_or counts 0 0)) || too_long name else 0

-- the set stands behind the others
pub record Extends (before : Pages) (name : List ℕ) (declares : Bool) (set : clip.ClipSet) (after : Pages) : Type 0 where
  pub stands : model after ≡ with_set (model before) name declares (clip_set_of set)
  pub made : Made after

-- the i-th set is moved, where no number refuses it
pub record RetimesAt (before : Pages) (i : ℕ) (o : LayerOffset) (number : ℕ) (after : Pages) : Type 0 where
  pub is : number ≡ moved_number (set_in (state_at before i).set) o
  pub kept : (number ≡ 0 → ⊥) → after ≡ before
  pub moved : number ≡ 0 → (e : Resolver) × (resolver.model e ≡ standing (retime_stage_times o (set_in (state_at before i).set))) × resolver.Made e × Replaced before i e after

-- "A refused call changes nothing": the very lists
abbrev pub Kept : Pages → ℕ → Pages → Type 0
Kept before number after = (number ≡ 0 → ⊥) → after ≡ before

pub record Installs (before : Pages) (name : List ℕ) (declares : Bool) (set : clip.ClipSet) (number : ℕ) (after : Pages) : Type 0 where
  pub is : number ≡ named_install_number (model before) name
  pub kept : Kept before number after
  pub stands : model after ≡ dispatch_step (model before) (install name declares (clip_set_of set))
  pub made : Made after

pub record Accepts (before : Pages) (name : List ℕ) (declares : Bool) (f : ExplicitFields) (number : ℕ) (after : Pages) : Type 0 where
  pub is : number ≡ named_explicit_number (model before) name f
  pub kept : Kept before number after
  pub stands : model after ≡ dispatch_step (model before) (explicit name declares f)
  pub made : Made after

pub record Expands (before : Pages) (name : List ℕ) (declares : Bool) (f : TemplateFields) (number : ℕ) (after : Pages) : Type 0 where
  pub is : number ≡ named_template_number (model before) name f
  pub kept : Kept before number after
  pub stands : model after ≡ dispatch_step (model before) (template name declares f)
  pub made : Made after

pub record Retimes (before : Pages) (name : List ℕ) (o : LayerOffset) (number : ℕ) (after : Pages) : Type 0 where
  pub is : number ≡ named_retime_number (model before) name o
  pub kept : Kept before number after
  pub stands : model after ≡ dispatch_step (model before) (retime name o)
  pub made : Made after
