-- `names::body::body_length` meets its contract: the lengths of the three parts. Assumes nothing.
use native.Mathlib.Omega.{arith}
use Rattle.names.proofs.BodyLaws.{length-body}
use Rattle.names.proofs.body.body_length.Goals as goal

pub overflow_add-result : goal.overflow_add-result
overflow_add-result c = omega (arith, length-body c.args.b)

pub fraction_length-requires : goal.fraction_length-requires
fraction_length-requires c = omega (arith, length-body c.args.b)

pub overflow_add-result-2 : goal.overflow_add-result-2
overflow_add-result-2 c = omega (arith, length-body c.args.b)

pub returns : goal.returns
returns c = omega (arith, length-body c.args.b)
