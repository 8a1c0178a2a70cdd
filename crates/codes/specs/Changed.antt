-- What C gets of a call that prepares a set or may change what stands. Assumes nothing.
use Rattle.std.specs.Prelude.{◌≡◌, Result, IfOk}
use Rattle.definitions.specs.declared.refusal.Refusal.{Refusal}
use Rattle.definitions.specs.Refusals.{number_in}
use Rattle.definitions.specs.Examining.{Fields, empty_set, examine}
use Rattle.clip.specs.declared.ClipSet.{ClipSet}
use Rattle.clip.specs.Holding.{clip_set_of}
use Rattle.clip.specs.Preparing as sets
use Rattle.clip.specs.Preparing.{MadeSet, set_after}
use Rattle.resolver.specs.declared.Shape.{Shape}
use Rattle.resolver.specs.State.{left}
use Rattle.codes.specs.declared.changed.Prepared.{Prepared}
use Rattle.codes.specs.declared.changed.Settled.{Settled}

-- the number, and the set that was made, or the empty one; either may be installed
pub record IsPrepared (r : Result ClipSet Refusal) (p : Prepared) : Type 0 where
  pub number : p.number ≡ number_in r
  pub set : clip_set_of p.set ≡ set_after empty_set r
  pub made : IfOk r MadeSet → MadeSet p.set

-- the number and the set of an examining, and that the set may be installed: those of a reply that the examining promises
pub record Examines (f : Fields) (p : Prepared) : Type 0 where
  pub reply : record { number = p.number; set = clip_set_of p.set } ≡ examine f
  pub made : MadeSet p.set
  pub told : (r : Result ClipSet Refusal) × sets.Examines f r × IsPrepared r p

-- the number, and the shape after the call, or the one that went in
abbrev pub settled_code : Shape → Result Shape Refusal → Settled
settled_code before r = record { number = number_in r; shape = left before r }
