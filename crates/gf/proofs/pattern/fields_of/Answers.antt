-- `gf::pattern::fields_of` meets its contract. Assumes nothing.
use lib.Ieee.{binary64, to_bits}
use Rattle.gf.proofs.FieldsOf.{exponent-cut, fraction-cut}
use Rattle.gf.proofs.pattern.fields_of.Goals as goal

pub returns : goal.returns
returns c = let b = to_bits binary64 c.args.x in rw (exponent-cut b, fraction-cut b)
