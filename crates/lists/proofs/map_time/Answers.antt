-- `lists::map_time` meets its contract. Assumes nothing.
use mathlib.Core.Path.{ap}
use Rattle.definitions.specs.ClipSet.{clip}
use Rattle.definitions.specs.Timing.{map_stage_to_clip}
use Rattle.lists.proofs.map_time.Goals as goal

pub returns : goal.returns
unfolding map_stage_to_clip
returns c = ap clip c.y_at.ensures
