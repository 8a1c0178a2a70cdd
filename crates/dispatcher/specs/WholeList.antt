-- Demand 3 for this dispatcher, "one claim about the whole list": the statement of the definitions, `DispatchWholeList`, where a call moves the pages and a bake replies
-- by the very promises that the operations' `ensures` cite. Assumes nothing.
use Rattle.std.specs.Prelude.{ℕ, ◌≡◌, true, List, [], Result}
use Rattle.definitions.specs.declared.refusal.Refusal.{Refusal}
use Rattle.definitions.specs.Track.{Outputs}
use Rattle.definitions.specs.Questions.{Reply}
use Rattle.definitions.specs.Calls as calls
use Rattle.definitions.specs.WholeList.{LeftBy}
use Rattle.dispatch.specs.Dispatch.{Placed}
use Rattle.dispatch.specs.DispatchCalls.{DispatchCall, explicit, template, install, retime, bake, BakeArguments, dispatch_step, dispatch_after, DispatchWholeList}
use Rattle.clip.specs.declared.ClipSet as clip
use Rattle.clip.specs.Holding.{clip_set_of}
use Rattle.clip.specs.Preparing.{MadeSet}
use Rattle.track.specs.declared.bake.Baked.{Baked}
use Rattle.set_questions.specs.declared.Placed as code
use Rattle.pages.specs.Pages.{Pages, model, Made}
use Rattle.pages.specs.Placing.{Begins}
use Rattle.set_changes.specs.Promises.{Accepts, Expands, Installs, Retimes}
use Rattle.set_questions.specs.Asking.{track_reply, BakesTrack}

-- The call, given the pages p, leaves q: what the operation's `ensures` says where its `requires` holds. An installing is given a "set .. that an operation made", whichever it
-- is. A bake writes no page: p is left.
abbrev pub Moves : DispatchCall → Pages → Pages → Type 0
Moves (explicit name declares f) p q = (number : ℕ) × (Made p → Accepts p name declares f number q)
Moves (template name declares f) p q = (number : ℕ) × (Made p → Expands p name declares f number q)
Moves (install name declares set) p q = (number : ℕ) × (s : clip.ClipSet) × MadeSet s × (clip_set_of s ≡ set) × (Made p → MadeSet s → Installs p name declares s number q)
Moves (retime name o) p q = (number : ℕ) × (Made p → Retimes p name o number q)
Moves (bake order s o) p q = p ≡ q

-- A bake with the arguments a, given p and the lists o, replies r and leaves the lists w.
abbrev pub Replies : Pages → BakeArguments → Outputs → Reply (Placed calls.Baked) → Outputs → Type 0
Replies p a o r w = (b : Result (code.Placed Baked) Refusal) × (Made p → BakesTrack p a o b w) × (track_reply b ≡ r)

-- What calls lead to, in whatever number and order: pages "that an operation made", so that the next call may be given them, and the plain dispatcher's sets in them.
abbrev pub LeadsOn : Type 0
LeadsOn = (lent p q : Pages) → Begins lent true p → (calls : List DispatchCall) → LeftBy [] dispatch_step p Moves calls q → Made q × (model q ≡ dispatch_after calls)

-- From fresh pages, whatever was lent for them, after any list of calls, refused ones included.
abbrev pub Demand3 : Type 0
Demand3 = (lent p : Pages) → Begins lent true p → DispatchWholeList p Moves Replies
