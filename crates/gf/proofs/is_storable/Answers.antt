-- `gf::is_storable` meets its contract: a magnitude at most 2^40 is a number within 2^40. Assumes nothing.
use Rattle.std.proofs.Common.{false, sym, ap, ◌∙◌}
use lib.Ieee.{Float, le, of_bits}
use Rattle.gf.specs.Doubles.{power, within}
use Rattle.gf.proofs.Tests.{nan-only}
use Rattle.gf.proofs.SignCleared.{abs-within}
use Rattle.gf.proofs.is_storable.Goals as goal

pub returns-else-not-is_nan : goal.returns-else-not-is_nan
unfolding within le
returns-else-not-is_nan c = rw c.if-not-is_nan.false (ap (within 40) (sym (nan-only c.args.x (sym c.is_nan.ensures.value ∙ c.if-not-is_nan.false))))

pub returns-then-not-is_nan : goal.returns-then-not-is_nan
unfolding of_bits
returns-then-not-is_nan c = ap (λ (a : Float). le a (power false 40)) c.without_sign.ensures ∙ abs-within 40 c.args.x
