-- The numbers that stand for a dispatcher's replies to its two questions. Assumes nothing.
use Rattle.std.specs.Prelude.{false, Result, Ok, Err, is_some}
use Rattle.std.specs.Option.{unwrap_or}
use Rattle.std.proofs.Math.Option.{Option}
use Rattle.definitions.specs.declared.refusal.Refusal.{Refusal}
use Rattle.definitions.specs.declared.StageTime.{StageTime}
use Rattle.definitions.specs.declared.ValueRead.{ValueRead}
use Rattle.definitions.specs.Track.{Outputs}
use Rattle.dispatch.specs.SetOrder.{OrderList}
use Rattle.dispatch.specs.SetSamples.{SetSamples}
use Rattle.dispatch.specs.DispatchCalls.{BakeArguments}
use Rattle.track.specs.declared.bake.Baked.{Baked}
use Rattle.set_questions.specs.declared.Placed.{Placed}
use Rattle.pages.specs.Pages.{Pages}
use Rattle.set_questions.specs.Asking as asking
use Rattle.codes.specs.declared.placed.PlacedCode.{PlacedCode}
use Rattle.codes.specs.declared.placed.PlacedBakeCode.{PlacedBakeCode}
use Rattle.codes.specs.Codes.{value_code, bake_code, CodeOf}

-- the codes of the value's reply, and the place; "A refusal carries its number alone."
abbrev pub placed_code : Result (Placed ValueRead) Refusal → PlacedCode
placed_code (Ok x) = record { reply = value_code (Ok x.answer); placed = is_some x.place; set = unwrap_or x.place 0 }
placed_code (Err r) = record { reply = value_code (Err r); placed = false; set = 0 }

abbrev pub placed_bake_code : Result (Placed Baked) Refusal → PlacedBakeCode
placed_bake_code (Ok x) = record { baked = bake_code (Ok x.answer); placed = is_some x.place; set = unwrap_or x.place 0 }
placed_bake_code (Err r) = record { baked = bake_code (Err r); placed = false; set = 0 }

abbrev pub TellsPlaced : Pages → Option OrderList → SetSamples → StageTime → PlacedCode → Type 0
TellsPlaced p order s t a = CodeOf placed_code (asking.TellsValue p order s t) a

abbrev pub BakesTrack : Pages → BakeArguments → Outputs → PlacedBakeCode → Outputs → Type 0
BakesTrack p a before c now = CodeOf placed_bake_code (λ (r : Result (Placed Baked) Refusal). asking.BakesTrack p a before r now) c
