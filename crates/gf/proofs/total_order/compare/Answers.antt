-- `gf::total_order::compare` meets its contract. Assumes nothing.
use Rattle.std.proofs.Common.{arith}
use Rattle.gf.proofs.TotalOrderLaws.{compared}
use Rattle.gf.proofs.total_order.compare.Goals as goal

pub returns : goal.returns
returns c = rw (c.cmp.ensures, c.key.ensures.0, c.key-2.ensures.0) (compared c.args.a c.args.b (omega arith) (omega arith))
