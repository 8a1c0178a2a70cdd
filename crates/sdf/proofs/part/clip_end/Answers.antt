-- `sdf::part::clip_end` meets its contract. Assumes nothing.
use mathlib.Core.Path.{refl}
use Rattle.definitions.specs.Samples.{clip_end}
use Rattle.sdf.proofs.part.clip_end.Goals as goal

pub returns : goal.returns
unfolding clip_end
returns c = refl
