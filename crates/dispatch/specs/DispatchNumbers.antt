-- docs/VALUE-CLIPS.md, "Several sets" and "Numbers": numbers that no call of a dispatcher is given, whatever its arguments and what stands. Assumes nothing.
use Rattle.std.specs.Prelude.{ℕ, ◌≡◌, List}
use Rattle.std.proofs.Math.Option.{Option}
use Rattle.definitions.specs.declared.StageTime.{StageTime}
use Rattle.definitions.specs.declared.LayerOffset.{LayerOffset}
use Rattle.definitions.specs.Explicit.{ExplicitFields}
use Rattle.definitions.specs.Template.{TemplateFields}
use Rattle.dispatch.specs.SetOrder.{OrderList}
use Rattle.dispatch.specs.NamedSets.{NamedSet}
use Rattle.dispatch.specs.SetSamples.{SetSamples}
use Rattle.dispatch.specs.Dispatch.{named_explicit_number, named_template_number, named_install_number, named_retime_number, dispatch_value_number, dispatch_bake_number}

-- by the questions
pub record AskedByNone (n : ℕ) : Type 0 where
  pub value : (sets : List NamedSet) (o : Option OrderList) (s : SetSamples) (t : StageTime) → dispatch_value_number sets o s t ≡ n → ⊥
  pub bake : (sets : List NamedSet) (o : Option OrderList) (s : SetSamples) (room count : ℕ) → dispatch_bake_number sets o s room count ≡ n → ⊥

-- by each operation, in the table's order
pub record NamedGivenByNone (n : ℕ) : Type 0 where
  pub explicit : (sets : List NamedSet) (name : List ℕ) (f : ExplicitFields) → named_explicit_number sets name f ≡ n → ⊥
  pub template : (sets : List NamedSet) (name : List ℕ) (f : TemplateFields) → named_template_number sets name f ≡ n → ⊥
  pub install : (sets : List NamedSet) (name : List ℕ) → named_install_number sets name ≡ n → ⊥
  pub retiming : (sets : List NamedSet) (name : List ℕ) (o : LayerOffset) → named_retime_number sets name o ≡ n → ⊥
  pub asked : AskedByNone n

-- "21 is given by no call"
abbrev pub TwentyOneIsNotNamed : Type 0
TwentyOneIsNotNamed = NamedGivenByNone 21

-- "20 is given by neither", the value and the bake
abbrev pub TwentyIsNotAsked : Type 0
TwentyIsNotAsked = AskedByNone 20
