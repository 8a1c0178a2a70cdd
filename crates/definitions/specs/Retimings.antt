-- docs/VALUE-CLIPS.md, "Demand 3": the set that the track follows, told by what was installed and how it was retimed since. Assumes nothing.
use Rattle.std.specs.Prelude.{◌≡◌, List, [], ◌∷◌}
use Rattle.definitions.specs.declared.LayerOffset.{LayerOffset}
use Rattle.definitions.specs.ClipSet.{ClipSet, Model, no_set, standing}
use Rattle.definitions.specs.Explicit.{explicit_number, explicit_set}
use Rattle.definitions.specs.Template.{template_number, template_set}
use Rattle.definitions.specs.Retime.{moved_number, retime_stage_times}
use Rattle.definitions.specs.Samples.{Samples, samples_number}
use Rattle.definitions.specs.Value.{value_in_set}
use Rattle.definitions.specs.Questions.{Reply}
use Rattle.definitions.specs.Track.{Outputs}
use Rattle.definitions.specs.WholeList.{stands_after, WholeListOf, GivesTrack}
use Rattle.definitions.specs.Calls.{Call, explicit, template, install, retime, bake, accepted, after, Baked, baked_of}

-- the set that was installed last, and the retimings of it accepted since, the latest first
pub data History : Type 0 where
  nothing : History
  installed : ClipSet → List LayerOffset → History

-- "Retiming may be repeated, each moving what the one before left"
unfoldable pub in_turn : List LayerOffset → ClipSet → ClipSet
in_turn [] set = set
in_turn (o ∷ earlier) set = retime_stage_times o (in_turn earlier set)

-- ---- the history of a list of calls

-- a refused retiming leaves those accepted before it
abbrev pub since_installed : LayerOffset → History → History
since_installed o nothing = nothing
since_installed o (installed set earlier) = installed set (accepted (moved_number (in_turn earlier set) o) earlier (o ∷ earlier))

unfoldable pub remember : History → Call → History
remember h (explicit f) = accepted (explicit_number f) h (installed (explicit_set f) [])
remember h (template f) = accepted (template_number f) h (installed (template_set f) [])
remember h (install set) = installed set []
remember h (retime o) = since_installed o h
remember h (bake s o) = h

abbrev pub history : List Call → History
history calls = stands_after nothing remember calls

-- ---- "The track follows the set after all retimings of it accepted since it was installed."

abbrev pub stands_by : History → Model
stands_by nothing = no_set
stands_by (installed set retimings) = standing (in_turn retimings set)

-- of the plain desk, which keeps neither
abbrev pub FollowsRetimings : Type 0
FollowsRetimings = (calls : List Call) → after calls ≡ stands_by (history calls)

-- of a bake
abbrev pub DueAfterRetimings : History → Samples → Outputs → Reply Baked → Outputs → Type 0
DueAfterRetimings h s o r p =
    (set : ClipSet) (retimings : List LayerOffset) → h ≡ installed set retimings → samples_number (in_turn retimings set) s ≡ 0
    → GivesTrack baked_of (value_in_set (in_turn retimings set) s) o r p

abbrev pub WholeListRetimed : {State : Type 0} → State → (Call → State → State → Type 0) → (State → Samples → Outputs → Reply Baked → Outputs → Type 0) → Type 0
WholeListRetimed fresh Moves Replies = WholeListOf nothing remember fresh Moves Replies DueAfterRetimings
