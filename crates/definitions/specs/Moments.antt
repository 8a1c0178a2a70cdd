-- The lists that a track or samples are written to, at one moment of a call. Assumes nothing.
use Rattle.std.specs.Prelude.{List, ℕ, Float}
use Rattle.definitions.specs.Track.{Outputs}

abbrev pub outputs : List Float → List Float → List ℕ → Outputs
outputs times values marks = record { times = times; values = values; marks = marks }
