-- docs/VALUE-CLIPS.md, "Demand 3", over any calls: what stands after a list of them, and the one claim about the whole list. Assumes nothing.
use Rattle.std.specs.Prelude.{◌≤◌, ◌<◌, ◌≡◌, List, [], ◌∷◌, ◌++◌, length}
use Rattle.definitions.specs.declared.StageTime.{StageTime}
use Rattle.definitions.specs.declared.Answer.{Answer}
use Rattle.definitions.specs.Questions.{Reply, refused, replied}
use Rattle.definitions.specs.Track.{Track, TrackOf, Outputs, slots, write_track}

-- `Model` is what stands by the calls, the plain desk, with its beginning and its step.
module _ {Model Call : Type 0} (beginning : Model) (step : Model → Call → Model) where
  unfoldable pub run_from : Model → List Call → Model
  run_from m [] = m
  run_from m (c ∷ calls) = run_from (step m c) calls

  -- "fed the calls' arguments in order, nothing else"
  abbrev pub stands_after : List Call → Model
  stands_after calls = run_from beginning calls

  -- The program's state, the desk: the fresh one, and what the contracts say of each call. `Moves c d e`: the call c, given the state d, may leave e.
  module _ {State : Type 0} (fresh : State) (Moves : Call → State → State → Type 0) where
    -- "Each call gets the desk as the one before left it; nobody else writes it."
    pub data LeftBy : List Call → State → Type 0 where
      begin : LeftBy [] fresh
      next : {calls : List Call} {d e : State} (c : Call) → LeftBy calls d → Moves c d e → LeftBy (calls ++ (c ∷ [])) e

    -- `Replies d a o r p`: a bake with the arguments a, given d and the lists o, may reply r and leave the lists p. For the code `Moves` and `Replies` are the
    -- `ensures` of the operations. `Due m a o r p`: what the claim asks of that bake where m stands. The claim itself has the calls, the reply and the lists, and no state.
    module _
        {Arguments Told : Type 0}
        (Replies : State → Arguments → Outputs → Reply Told → Outputs → Type 0)
        (Due : Model → Arguments → Outputs → Reply Told → Outputs → Type 0) where
      -- "Demand 3 is one claim about the whole list, not one for each call."
      abbrev pub WholeListOf : Type 0
      WholeListOf = (calls : List Call) (d : State) → LeftBy calls d → (a : Arguments) (o : Outputs) (r : Reply Told) (p : Outputs) → Replies d a o r p → Due (stands_after calls) a o r p

-- There is the track of the value v, and the bake gives it where its space suffices, and else says 22 and writes nothing. `told` is its reply for a track.
module _ {Told : Type 0} (told : Track → Told) where
  abbrev pub GivesTrack : (StageTime → Answer) → Outputs → Reply Told → Outputs → Type 0
  GivesTrack v o r p =
      (track : Track) × TrackOf v track
      × (length track.changes ≤ slots o → (r ≡ replied (told track)) × (p ≡ write_track track o))
      × (slots o < length track.changes → (r ≡ refused 22) × (p ≡ o))
