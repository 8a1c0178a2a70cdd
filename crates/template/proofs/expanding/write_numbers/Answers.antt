-- `template::expanding::write_numbers` meets its contract: the first i numbers are written. Assumes nothing.
use Rattle.std.proofs.Common.{arith}
use Rattle.std.proofs.lemmas.Grind.{common_steps}
use Rattle.template.proofs.Expansion.{numbered-length, numbered-at}
use Rattle.template.proofs.expanding.write_numbers.Goals as goal

pub loop-i-preserved : goal.loop-i-preserved
loop-i-preserved c =
    let n = numbered-length 0 c.args.to.now in
    let at = numbered-at c.args.to.now c.loop-i.i 0 (omega arith) in
    grind (arith, common_steps, n, at)

pub returns : goal.returns
returns c =
    let n = numbered-length 0 c.args.to.now in
    grind (arith, common_steps, n)
