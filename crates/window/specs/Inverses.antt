-- The inverse times of a clip's samples, segment by segment. Assumes nothing.
use Rattle.std.specs.Prelude.{List, Float}
use Rattle.definitions.specs.declared.Knot.{Knot}
use Rattle.definitions.specs.Lists.{gather}
use Rattle.definitions.specs.ClipSet.{clip}
use Rattle.definitions.specs.Value.{on_pair, stage_times_for_clip_time}

-- the inverse times of the clip times cs between two knots
unfoldable pub on_segment : List Float → Knot × Knot → List Float
on_segment cs q = gather (λ (c : Float). on_pair c q) cs

-- ---- sample by sample, as the definition has them

abbrev pub inverses_of : List Knot → List Float → List Float
inverses_of knots cs = gather (λ (c : Float). stage_times_for_clip_time knots (clip c)) cs
