-- The track of the value, and what a bake promises of it. Assumes nothing.
use Rattle.std.specs.Prelude.{◌≡◌, length, Result, Ok, Err}
use Rattle.gf.specs.Doubles.{least, most}
use Rattle.definitions.specs.declared.refusal.Refusal.{Refusal}
use Rattle.definitions.specs.Refusals.{number_of}
use Rattle.definitions.specs.ClipSet.{ClipSet}
use Rattle.definitions.specs.Samples.{Samples}
use Rattle.definitions.specs.Questions.{Reply, refused, replied, reply, room_number}
use Rattle.definitions.specs.Track.{Track, Outputs, slots}
use Rattle.definitions.specs.Calls as Calls
use Rattle.laws.specs.cell.Keys.{entry_at_key}
use Rattle.laws.specs.cell.Tracks.{written_track}
use Rattle.track.specs.span.Changes.{changes_of}
use Rattle.track.specs.declared.bake.Baked.{Baked}

-- ---- the bake

-- the track of the value
abbrev pub track_of : ClipSet → Samples → Track
track_of set s = written_track (entry_at_key set s least) (changes_of set s least most)

-- a bake's reply in the definitions' words
abbrev pub baked_reply : Result Baked Refusal → Reply Calls.Baked
baked_reply (Ok b) = replied (record { initial = record { value = b.value; mark = b.mark }; count = b.count })
baked_reply (Err r) = refused (number_of r)

-- the whole reply, and the outputs, which a refusal leaves as they were
pub record BakeIs (set : ClipSet) (s : Samples) (before after : Outputs) (r : Result Baked Refusal) : Type 0 where
  pub replies : baked_reply r ≡ reply (room_number (slots before) (length (track_of set s).changes)) (Calls.baked_of (track_of set s))
  pub writes : after ≡ Calls.outputs_after (room_number (slots before) (length (track_of set s).changes)) (track_of set s) before
