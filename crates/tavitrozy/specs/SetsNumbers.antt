-- docs/VALUE-CLIPS.md, "Numbers": a number that no call of the library to a dispatcher replies, whatever it is lent. Assumes nothing.
use Rattle.std.specs.Prelude.{ℕ, ◌≡◌, Bool, List}
use Rattle.std.proofs.Math.Option.{Option}
use Rattle.definitions.specs.declared.StageTime.{StageTime}
use Rattle.definitions.specs.declared.LayerOffset.{LayerOffset}
use Rattle.definitions.specs.Explicit.{ExplicitFields}
use Rattle.definitions.specs.Template.{TemplateFields}
use Rattle.definitions.specs.Track.{Outputs}
use Rattle.clip.specs.declared.ClipSet.{ClipSet}
use Rattle.dispatch.specs.SetOrder.{OrderList}
use Rattle.dispatch.specs.SetSamples.{SetSamples}
use Rattle.dispatch.specs.DispatchCalls.{BakeArguments}
use Rattle.pages.specs.Pages.{Pages}
use Rattle.set_changes.specs.Promises.{Accepts, Expands, Installs, Retimes}
use Rattle.codes.specs.declared.placed.PlacedCode.{PlacedCode}
use Rattle.codes.specs.declared.placed.PlacedBakeCode.{PlacedBakeCode}
use Rattle.codes.specs.PlacedCodes.{TellsPlaced, BakesTrack}

-- by the promises of the questions
pub record SetsToldByNone (n : ℕ) : Type 0 where
  pub value : (p : Pages) (order : Option OrderList) (s : SetSamples) (t : StageTime) (r : PlacedCode) → TellsPlaced p order s t r → r.reply.number ≡ n → ⊥
  pub bake : (p : Pages) (a : BakeArguments) (before after : Outputs) (r : PlacedBakeCode) → BakesTrack p a before r after → r.baked.number ≡ n → ⊥

-- by the promise of each call that has a number, in the table's order
pub record SetsRepliedByNone (n : ℕ) : Type 0 where
  pub accept : (p q : Pages) (name : List ℕ) (declares : Bool) (f : ExplicitFields) (number : ℕ) → Accepts p name declares f number q → number ≡ n → ⊥
  pub accept-template : (p q : Pages) (name : List ℕ) (declares : Bool) (f : TemplateFields) (number : ℕ) → Expands p name declares f number q → number ≡ n → ⊥
  pub install : (p q : Pages) (name : List ℕ) (declares : Bool) (set : ClipSet) (number : ℕ) → Installs p name declares set number q → number ≡ n → ⊥
  pub retime : (p q : Pages) (name : List ℕ) (o : LayerOffset) (number : ℕ) → Retimes p name o number q → number ≡ n → ⊥
  pub told : SetsToldByNone n

-- "21 is given by no call"
abbrev pub TwentyOneIsNotRepliedOfSets : Type 0
TwentyOneIsNotRepliedOfSets = SetsRepliedByNone 21

-- "20 is given by neither", the value and the bake
abbrev pub TwentyIsNotToldOfSets : Type 0
TwentyIsNotToldOfSets = SetsToldByNone 20
