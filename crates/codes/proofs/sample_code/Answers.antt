-- `codes::sample_code` meets its contract: each arm is given which case the sample is. Assumes nothing.
use mathlib.Core.Path.{sym, ap}
use Rattle.codes.specs.Codes.{sample_code}
use Rattle.codes.proofs.sample_code.Goals as goal

pub returns-in-Some : goal.returns-in-Some
returns-in-Some c = let a = c.args in sym (ap (sample_code a.mark a.value) c.in-Some.is)

pub returns-in-None : goal.returns-in-None
returns-in-None c = let a = c.args in sym (ap (sample_code a.mark a.value) c.in-None.is)
