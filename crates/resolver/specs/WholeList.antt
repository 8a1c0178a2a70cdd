-- Demand 3 for this resolver, "one claim about the whole list": the statement of the definitions, `WholeList`, where a call moves the state and a bake replies
-- by the very promises that the operations' `ensures` cite. Assumes nothing.
use Rattle.std.specs.Prelude.{ℕ, ◌≡◌, List, Result}
use Rattle.definitions.specs.declared.refusal.Refusal.{Refusal}
use Rattle.definitions.specs.Samples.{Samples}
use Rattle.definitions.specs.Track.{Outputs}
use Rattle.definitions.specs.Questions.{Reply}
use Rattle.definitions.specs.Calls as calls
use Rattle.definitions.specs.Calls.{Call, explicit, template, install, retime, bake, step, after}
use Rattle.definitions.specs.ClipSet.{no_set}
use Rattle.definitions.specs.WholeList.{LeftBy}
use Rattle.definitions.specs.TrackFacts.{WholeListValues}
use Rattle.definitions.specs.Retimings.{WholeListRetimed}
use Rattle.clip.specs.declared.ClipSet as clip
use Rattle.clip.specs.Holding.{clip_set_of}
use Rattle.clip.specs.Preparing.{MadeSet}
use Rattle.track.specs.declared.bake.Baked.{Baked}
use Rattle.track.specs.Bakes.{baked_reply}
use Rattle.resolver.specs.declared.Resolver.{Resolver}
use Rattle.resolver.specs.State.{model, Made}
use Rattle.resolver.specs.Promises.{Begins, Accepts, Expands, Installs, Retimes, BakesTrack}

-- The call, given the state d, leaves e: what the operation's `ensures` says where its `requires` holds. An installing is given a "set .. that an operation made", whichever it
-- is. A bake hands back no state: d is left.
abbrev pub Moves : Call → Resolver → Resolver → Type 0
Moves (explicit f) d e = (n : ℕ) × (Made d → Accepts d f n e)
Moves (template f) d e = (n : ℕ) × (Made d → Expands d f n e)
Moves (install set) d e = (p : clip.ClipSet) × MadeSet p × (clip_set_of p ≡ set) × (Made d → MadeSet p → Installs d p e)
Moves (retime o) d e = (n : ℕ) × (Made d → Retimes d o n e)
Moves (bake s o) d e = d ≡ e

-- A bake of the samples s, given d and the lists o, replies r and leaves the lists p.
abbrev pub Replies : Resolver → Samples → Outputs → Reply calls.Baked → Outputs → Type 0
Replies d s o r p = (b : Result Baked Refusal) × (Made d → BakesTrack d s o b p) × (baked_reply b ≡ r)

-- What calls lead to, in whatever number and order: "a desk .. that an operation made", so that the next call may be given it, and the plain desk's set on it.
abbrev pub LeadsOn : Type 0
LeadsOn = (d e : Resolver) → Begins d → (calls : List Call) → LeftBy no_set step d Moves calls e → Made e × (model e ≡ after calls)

-- From a fresh state, after any list of calls, refused ones included.
abbrev pub Demand3 : Type 0
Demand3 = (d : Resolver) → Begins d → calls.WholeList d Moves Replies

-- What follows of it, in the caller's words: the count of the doubles at which the value changes, and the reading of the written lists.
abbrev pub Demand3Values : Type 0
Demand3Values = (d : Resolver) → Begins d → WholeListValues d Moves Replies

-- What follows of it, by what was installed: "The track follows the set after all retimings of it accepted since it was installed."
abbrev pub Demand3Retimed : Type 0
Demand3Retimed = (d : Resolver) → Begins d → WholeListRetimed d Moves Replies
