-- `gf::magnitude::abs` meets its contract: std's magnitude is the same. Assumes nothing.
use Rattle.std.proofs.Common.{◌≡◌, false, refl, ◌∙◌}
use Rattle.std.specs.Float.{float_with_sign}
use lib.Ieee.{Float, nan, inf, fin}
use Rattle.gf.specs.Doubles.{abs}
use Rattle.gf.proofs.magnitude.abs.Goals as goal

same : (x : Float) → float_with_sign false x ≡ abs x
unfolding float_with_sign abs
same nan = refl
same (inf s) = refl
same (fin s m e) = refl

pub returns : goal.returns
returns c = c.abs.ensures.value ∙ same c.args.x
