-- What stands behind a time in the order of `total_cmp`. Assumes nothing.
use Rattle.std.specs.Prelude.{List, Float}
use Rattle.std.specs.Float.Ieee.{lt}
use Rattle.gf.specs.Doubles.{total_key}
use Rattle.definitions.specs.Lists.{keep, sort_by}
use Rattle.definitions.specs.StageSamples.{dedup}

-- ---- the times behind t

-- those above t, in order, equals dropped
unfoldable pub after : List Float → Float → List Float
after l t = dedup (keep (λ (x : Float). lt t x) (sort_by total_key l))
