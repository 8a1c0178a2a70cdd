-- What a dispatcher's questions promise: the number for every argument, the reply whole, and what every lent list holds. Assumes nothing.
use Rattle.std.specs.Prelude as Prelude
use Rattle.std.specs.Prelude.{ℕ, ◌≤◌, ◌≡◌, Bool, true, false, List, length, get_or, Float, Result, Ok, Err}
use Rattle.std.proofs.Math.Option.{Option, none, some}
use Rattle.gf.specs.Doubles.{0·0}
use Rattle.definitions.specs.declared.StageTime.{StageTime}
use Rattle.definitions.specs.declared.ValueRead.{ValueRead}
use Rattle.definitions.specs.declared.refusal.Refusal.{Refusal}
use Rattle.definitions.specs.Refusals.{number_of}
use Rattle.definitions.specs.ClipSet as definitions
use Rattle.definitions.specs.Samples.{Samples, samples_number}
use Rattle.definitions.specs.Questions.{Reply, refused, replied, reply, room_number}
use Rattle.definitions.specs.Track.{Track, TrackOf, Outputs, slots}
use Rattle.definitions.specs.Value.{value_in_set}
use Rattle.definitions.specs.Calls as calls
use Rattle.laws.specs.cell.Lent.{samples_of}
use Rattle.dispatch.specs.SetOrder.{OrderList, order_in_force, by_name}
use Rattle.dispatch.specs.NamedSets.{first_qualifying}
use Rattle.dispatch.specs.SetSamples.{SetSamples}
use Rattle.dispatch.specs.Dispatch.{Placed, nothing_read, dispatch_value}
use Rattle.dispatch.specs.DispatchCalls.{BakeArguments, DispatchBakes}
use Rattle.track.specs.declared.bake.Baked.{Baked}
use Rattle.track.specs.Bakes.{baked_reply}
use Rattle.set_names.specs.Pages.{names_in}
use Rattle.set_order.specs.declared.AnsweringSet.{AnsweringSet}
use Rattle.set_order.specs.Answered.{lent_list, fit_in, answered}
use Rattle.set_samples.specs.Parting.{FewClips}
use Rattle.set_questions.specs.declared.Placed as code
use Rattle.pages.specs.Pages.{Pages, part, Names, model}

-- "If given, an order list": where it is not, its lists are not looked at
abbrev pub order_of : Bool → List ℕ → List ℕ → Option OrderList
order_of true bytes ends = some (lent_list bytes ends)
order_of false bytes ends = none

-- ---- within: what a question rests on

-- the sets' clips stand behind their number
pub record ClipCounts (counts : List ℕ) : Type 0 where
  pub long : length counts ≡ 81
  pub few : FewClips (part 1 (get_or counts 0 0) counts)
  pub sets : get_or counts 0 0 ≤ 16

-- the sets by their names, their starts and whether they declare
pub record Sorted (counts bytes : List ℕ) : Type 0 where
  pub of-counts : length counts ≡ 81
  pub of-bytes : length bytes ≡ 4144
  pub names : Names counts bytes
  pub sorted : part 65 (get_or counts 0 0) counts ≡ by_name (names_in bytes (get_or counts 0 0)) (get_or counts 0 0)

abbrev pub AnswersOf : List ℕ → List ℕ → Option OrderList → Prelude.Option AnsweringSet → Type 0
AnswersOf counts bytes order r =
    answered r ≡ first_qualifying (fit_in (part 17 (get_or counts 0 0) counts) (part 4128 (get_or counts 0 0) bytes)) 0 (order_in_force order (names_in bytes (get_or counts 0 0)))

-- samples that are accepted for every set with that many clips
abbrev pub AcceptedFor : (clips : ℕ) → List Float → List Float → List ℕ → List ℕ → Type 0
AcceptedFor clips times values marks ends = (set : definitions.ClipSet) → set.clips ≡ clips → samples_number set (samples_of times values marks ends) ≡ 0

-- the track of the set's value, told and written where there is room
pub record BakesSet (set : definitions.ClipSet) (s : Samples) (before : Outputs) (r : Result Baked Refusal) (now : Outputs) : Type 0 where
  pub track : Track
  pub is : TrackOf (value_in_set set s) track
  pub replies : baked_reply r ≡ reply (room_number (slots before) (length track.changes)) (calls.baked_of track)
  pub writes : now ≡ calls.outputs_after (room_number (slots before) (length track.changes)) track before

-- ---- the code's replies in the definitions' words

abbrev pub place_in : Prelude.Option ℕ → Option ℕ
place_in Prelude.None = none
place_in (Prelude.Some k) = some k

abbrev pub read_reply : Result (code.Placed ValueRead) Refusal → Reply (Placed ValueRead)
read_reply (Ok x) = replied (record { answer = x.answer; place = place_in x.place })
read_reply (Err r) = refused (number_of r)

abbrev pub track_reply : Result (code.Placed Baked) Refusal → Reply (Placed calls.Baked)
track_reply (Ok x) = replied (record { answer = record { initial = record { value = x.answer.value; mark = x.answer.mark }; count = x.answer.count }; place = place_in x.place })
track_reply (Err r) = refused (number_of r)

-- what is replied to where no set qualifies
abbrev pub nobody_read : code.Placed ValueRead
nobody_read = record { place = Prelude.None; answer = nothing_read }

abbrev pub no_track : code.Placed Baked
no_track = record { place = Prelude.None; answer = record { mark = 2; value = 0·0; count = 0 } }

-- ---- the questions

-- 23, 1, 2, 9, 10
abbrev pub TellsValue : Pages → Option OrderList → SetSamples → StageTime → Result (code.Placed ValueRead) Refusal → Type 0
TellsValue p order s t r = read_reply r ≡ dispatch_value (model p) order s t

abbrev pub bake_arguments : Option OrderList → SetSamples → BakeArguments
bake_arguments order s = record { order = order; samples = s }

-- 23, 1, 2, 9, 22, the place, the head and the count, and every lent list after it
abbrev pub BakesTrack : Pages → BakeArguments → Outputs → Result (code.Placed Baked) Refusal → Outputs → Type 0
BakesTrack p a before r now = DispatchBakes (model p) a before (track_reply r) now
