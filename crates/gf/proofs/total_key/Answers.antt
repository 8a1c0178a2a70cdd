-- `gf::total_key` meets its contract. Assumes nothing.
use Rattle.std.proofs.Common.{ap, ◌∙◌}
use Rattle.gf.specs.Doubles.{total_key}
use Rattle.gf.specs.TotalOrder.{key_of}
use Rattle.gf.proofs.total_key.Goals as goal

pub returns : goal.returns
unfolding total_key
returns c = c.key.ensures.0 ∙ ap key_of c.f64_to_bits_with_nan.ensures
