-- `template::expanding::write_clip_times` meets its contract: the first i entries are written. Assumes nothing.
use Rattle.std.proofs.Common.{arith}
use Rattle.std.proofs.lemmas.Grind.{common_steps}
use lib.Ieee.{of_bits}
use Rattle.template.proofs.expanding.write_clip_times.Goals as goal

pub loop-i-preserved : goal.loop-i-preserved
unfolding of_bits
loop-i-preserved c = grind (arith, common_steps)
