-- Counting first: who lends as many slots as were counted is given the track, of that count. Assumes nothing.
use Rattle.std.specs.Prelude.{ℕ, ◌≤◌, ◌≡◌, Result, Ok, IsOkAnd}
use Rattle.definitions.specs.declared.refusal.Refusal.{Refusal}
use Rattle.definitions.specs.Samples.{Samples}
use Rattle.definitions.specs.Track.{Outputs, slots}
use Rattle.laws.specs.list.Every.{Every}
use Rattle.laws.specs.list.Places.{Fits}
use Rattle.track.specs.declared.bake.Baked.{Baked}
use Rattle.resolver.specs.declared.Resolver.{Resolver}
use Rattle.resolver.specs.State.{Made}
use Rattle.resolver.specs.Promises.{TellsChangeCount, BakesTrack}

-- of lists of doubles that a program can hold, "22 means precisely fewer slots than changes"
abbrev pub CountSuffices : Type 0
CountSuffices =
    (d : Resolver) (s : Samples) (n : ℕ) (o p : Outputs) (b : Result Baked Refusal) → Made d → Every Fits s.times → Every Fits s.values
    → TellsChangeCount d s (Ok n) → n ≤ slots o → BakesTrack d s o b p → IsOkAnd b (λ (x : Baked). x.count ≡ n)
