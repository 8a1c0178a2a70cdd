-- docs/VALUE-CLIPS.md, "Several sets", "Demand 3 of a dispatcher": its calls, the plain dispatcher's step, and the one claim about the whole list. Assumes nothing.
use Rattle.std.specs.Prelude.{ℕ, ◌≡◌, Bool, true, false, List, [], length, get_or, take}
use Rattle.std.proofs.Math.Option.{Option, none, some}
use Rattle.std.proofs.Math.ListN.{get_elem?}
use Rattle.definitions.specs.declared.LayerOffset.{LayerOffset}
use Rattle.definitions.specs.ClipSet.{ClipSet}
use Rattle.definitions.specs.Explicit.{ExplicitFields, explicit_set}
use Rattle.definitions.specs.Template.{TemplateFields, template_set}
use Rattle.definitions.specs.Retime.{retime_stage_times}
use Rattle.definitions.specs.Questions.{Reply, reply}
use Rattle.definitions.specs.Track.{Track, TrackOf, Outputs, slots}
use Rattle.definitions.specs.WholeList.{stands_after, WholeListOf, GivesTrack}
use Rattle.definitions.specs.Calls.{accepted, Baked, baked_of, outputs_after}
use Rattle.dispatch.specs.SetOrder.{OrderList, order_number, order_in_force}
use Rattle.dispatch.specs.NamedSets.{NamedSet, Answering, names_of, fit_of, with_set, change_named, answering}
use Rattle.dispatch.specs.SetSamples.{SetSamples, clips_of, set_samples_number}
use Rattle.dispatch.specs.Dispatch.{Placed, named_explicit_number, named_template_number, named_install_number, named_retime_number, value_of, place_of, dispatch_bake_number}

-- the calls that the claim speaks of, with their arguments, whatever those are
pub data DispatchCall : Type 0 where
  explicit : (name : List ℕ) (declares : Bool) → ExplicitFields → DispatchCall
  template : (name : List ℕ) (declares : Bool) → TemplateFields → DispatchCall
  install : (name : List ℕ) (declares : Bool) → ClipSet → DispatchCall
  retime : (name : List ℕ) → LayerOffset → DispatchCall
  bake : Option OrderList → SetSamples → Outputs → DispatchCall

-- "A refused call changes nothing"; "the set stands under its name behind the others"; a retiming "moves the set of that name, and no other"
unfoldable pub dispatch_step : List NamedSet → DispatchCall → List NamedSet
dispatch_step sets (explicit name declares f) = accepted (named_explicit_number sets name f) sets (with_set sets name declares (explicit_set f))
dispatch_step sets (template name declares f) = accepted (named_template_number sets name f) sets (with_set sets name declares (template_set f))
dispatch_step sets (install name declares set) = accepted (named_install_number sets name) sets (with_set sets name declares set)
dispatch_step sets (retime name o) = accepted (named_retime_number sets name o) sets (change_named name (retime_stage_times o) sets)
dispatch_step sets (bake order s o) = sets

-- "A fresh dispatcher has no set"
abbrev pub dispatch_after : List DispatchCall → List NamedSet
dispatch_after calls = stands_after [] dispatch_step calls

-- ---- a bake's promise

pub record BakeArguments : Type 0 where
  pub order : Option OrderList
  pub samples : SetSamples

abbrev pub placed_track : Option ℕ → Track → Placed Baked
placed_track place track = record { answer = baked_of track; place = place }

-- What a bake's contract says where these sets stand. Where 23 or the samples refuse it, no track is needed, and none is spoken of.
pub record DispatchBakes (sets : List NamedSet) (a : BakeArguments) (before : Outputs) (r : Reply (Placed Baked)) (now : Outputs) : Type 0 where
  pub track : Track
  pub is : order_number a.order ≡ 0 → set_samples_number (clips_of sets) a.samples ≡ 0 → TrackOf (value_of sets a.samples (answering a.order sets)) track
  pub replies : r ≡ reply (dispatch_bake_number sets a.order a.samples (slots before) (length track.changes)) (placed_track (place_of (answering a.order sets)) track)
  pub writes : now ≡ outputs_after (dispatch_bake_number sets a.order a.samples (slots before) (length track.changes)) track before

-- ---- demand 3

-- no set of this order qualifies
abbrev pub Unqualified : List Bool → List ℕ → Type 0
Unqualified fit order = (i k : ℕ) → get_elem? order i ≡ some k → get_or fit k false ≡ false

-- "at that place of the order in force stands a set that qualifies, and none before it does"; "no place: no set in force qualifies"
abbrev pub AnswersAt : List Bool → List ℕ → Option Answering → Type 0
AnswersAt fit order none = Unqualified fit order
AnswersAt fit order (some a) = (get_elem? order a.place ≡ some a.number) × (get_or fit a.number false ≡ true) × Unqualified fit (take a.place order)

-- "a bake to which 23 does not apply, with samples that are accepted for every set": the track of the answering set's value, and its place
pub record DispatchDue (sets : List NamedSet) (a : BakeArguments) (o : Outputs) (r : Reply (Placed Baked)) (p : Outputs) : Type 0 where
  pub by : Option Answering
  pub answers : AnswersAt (fit_of sets) (order_in_force a.order (names_of sets)) by
  pub gives : order_number a.order ≡ 0 → set_samples_number (clips_of sets) a.samples ≡ 0 → GivesTrack (placed_track (place_of by)) (value_of sets a.samples by) o r p

-- from a fresh state, after any list of calls, refused ones included
abbrev pub DispatchWholeList : {State : Type 0} → State → (DispatchCall → State → State → Type 0) → (State → BakeArguments → Outputs → Reply (Placed Baked) → Outputs → Type 0) → Type 0
DispatchWholeList fresh Moves Replies = WholeListOf [] dispatch_step fresh Moves Replies DispatchDue
