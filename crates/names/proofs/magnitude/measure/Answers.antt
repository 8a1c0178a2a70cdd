-- `names::magnitude::measure` meets its contract: each answer is what the fields of the pattern say. Assumes nothing.
use native.Mathlib.Omega.{arith}
use mathlib.Core.Path.{sym, subst}
use lib.Dec.{T}
use lib.Ieee.{binary64, fits}
use Rattle.gf.proofs.KeyLaws.{finite-no-nan}
use Rattle.gf.proofs.Exactly.{within-finite}
use Rattle.names.proofs.MagnitudeLaws.{measured-tiny, measured}
use Rattle.names.proofs.magnitude.measure.Goals.{Start as At-start}
use Rattle.names.proofs.magnitude.measure.Goals as goal

-- what owning an `f64` tells: the format holds it
held : (c : At-start) → T (fits binary64 c.args.x)
held c = subst T (sym c.well_formed.0.1) tt

pub float_to_bits-bits : goal.float_to_bits-bits
float_to_bits-bits c = finite-no-nan c.args.x (within-finite 40 c.args.x c.requires)

pub returns-then-field-eq0 : goal.returns-then-field-eq0
returns-then-field-eq0 c = measured-tiny c.args.x (held (goal.at.returns-then-field-eq0 c).Start) c.requires c.if-field-eq0.true

pub overflow_sub-result : goal.overflow_sub-result
overflow_sub-result c = omega (arith, (measured c.args.x (held (goal.at.overflow_sub-result c).Start) c.requires c.if-field-eq0.false).0)

pub returns : goal.returns
returns c = (measured c.args.x (held (goal.at.returns c).Start) c.requires c.if-field-eq0.false).1
