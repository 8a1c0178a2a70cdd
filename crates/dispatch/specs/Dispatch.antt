-- docs/VALUE-CLIPS.md, "Several sets": what a dispatcher replies, from the sets, the order list and the samples. Assumes nothing.
use Rattle.std.specs.Prelude.{ℕ, List}
use Rattle.std.proofs.Math.Option.{Option, none, some}
use Rattle.std.proofs.Math.ListN.{get_elem?}
use Rattle.definitions.specs.declared.StageTime.{StageTime}
use Rattle.definitions.specs.declared.Answer.{Answer}
use Rattle.definitions.specs.declared.Answer.TheVariants.{Absent}
use Rattle.std.specs.Prelude.{None}
use Rattle.definitions.specs.declared.ValueRead.{ValueRead}
use Rattle.definitions.specs.declared.LayerOffset.{LayerOffset}
use Rattle.definitions.specs.Lists.{◌then◌}
use Rattle.definitions.specs.Explicit.{ExplicitFields, explicit_number}
use Rattle.definitions.specs.Template.{TemplateFields, template_number}
use Rattle.definitions.specs.Retime.{moved_number}
use Rattle.definitions.specs.Value.{value_in_set, value_read}
use Rattle.definitions.specs.Questions.{Reply, reply, stage_time_number, room_number}
use Rattle.dispatch.specs.SetOrder.{OrderList, set_number, order_number}
use Rattle.dispatch.specs.NamedSets.{NamedSet, Answering, names_of, set_name_number, answering}
use Rattle.dispatch.specs.SetSamples.{SetSamples, clips_of, samples_at, set_samples_number}

-- ---- acceptance, installing and retiming

-- 23, 1, 2, 3, 4, 5, 9
abbrev pub named_explicit_number : List NamedSet → List ℕ → ExplicitFields → ℕ
named_explicit_number sets name f = set_name_number name sets then explicit_number f

-- 23, 1, 2, 7, 6, 8, 2, 4, 5, 9
abbrev pub named_template_number : List NamedSet → List ℕ → TemplateFields → ℕ
named_template_number sets name f = set_name_number name sets then template_number f

-- 23 alone
abbrev pub named_install_number : List NamedSet → List ℕ → ℕ
named_install_number sets name = set_name_number name sets

-- "20 if no set has the name, whatever its length and the numbers lent; then the numbers of that set's retiming"
abbrev pub moved_at : Option NamedSet → LayerOffset → ℕ
moved_at none o = 20
moved_at (some x) o = moved_number x.set o

abbrev pub found : List NamedSet → Option ℕ → Option NamedSet
found sets none = none
found sets (some k) = get_elem? sets k

abbrev pub named_retime_number : List NamedSet → List ℕ → LayerOffset → ℕ
named_retime_number sets name o = moved_at (found sets (set_number name (names_of sets))) o

-- ---- what answers

abbrev pub nothing_read : ValueRead
nothing_read = record { answer = Absent; sample = None }

-- "the answering set's value, with its own samples", and the sample that it was read from
abbrev pub read_in : Option NamedSet → List NamedSet → SetSamples → ℕ → StageTime → ValueRead
read_in none sets s k t = nothing_read
read_in (some x) sets s k t = value_read x.set (samples_at (clips_of sets) s k) t

-- "Where no set qualifies the value is absent"
abbrev pub read_of : List NamedSet → SetSamples → Option Answering → StageTime → ValueRead
read_of sets s none t = nothing_read
read_of sets s (some a) t = read_in (get_elem? sets a.number) sets s a.number t

-- the value alone, of which a bake gives the track
abbrev pub value_in : Option NamedSet → List NamedSet → SetSamples → ℕ → StageTime → Answer
value_in none sets s k t = Absent
value_in (some x) sets s k t = value_in_set x.set (samples_at (clips_of sets) s k) t

abbrev pub value_of : List NamedSet → SetSamples → Option Answering → StageTime → Answer
value_of sets s none t = Absent
value_of sets s (some a) t = value_in (get_elem? sets a.number) sets s a.number t

-- "The reply carries the answering set's place", and "no place" where none qualifies
abbrev pub place_of : Option Answering → Option ℕ
place_of none = none
place_of (some a) = some a.place

pub record Placed (A : Type 0) : Type 0 where
  pub answer : A
  pub place : Option ℕ

-- ---- the value question: 23, 1, 2, 9, 10

unfoldable pub dispatch_value_number : List NamedSet → Option OrderList → SetSamples → StageTime → ℕ
dispatch_value_number sets o s t = order_number o then set_samples_number (clips_of sets) s then stage_time_number t

unfoldable pub dispatch_value : List NamedSet → Option OrderList → SetSamples → StageTime → Reply (Placed ValueRead)
dispatch_value sets o s t = reply (dispatch_value_number sets o s t) (record { answer = read_of sets s (answering o sets) t; place = place_of (answering o sets) })

-- ---- the bake: 23, 1, 2, 9, 22, which is "of the answering set's count"

unfoldable pub dispatch_bake_number : List NamedSet → Option OrderList → SetSamples → (room count : ℕ) → ℕ
dispatch_bake_number sets o s room count = order_number o then set_samples_number (clips_of sets) s then room_number room count
