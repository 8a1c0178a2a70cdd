-- `gf::lerp` meets its contract: its body is the definition of `lerp`. Assumes nothing.
use Rattle.std.proofs.Common.{refl}
use Rattle.gf.specs.Doubles.{lerp}
use Rattle.gf.proofs.lerp.Goals as goal

pub returns : goal.returns
unfolding lerp
returns c = refl
