-- `tavitrozy::tavitrozy_examine` meets its contract: the code of what the examining replied. Assumes nothing.
use Rattle.codes.proofs.Examined.{examines-as}
use Rattle.tavitrozy.proofs.tavitrozy_examine.Goals as goal

pub returns : goal.returns
returns c = examines-as _ c.parse_set.result c.from.result c.parse_set.ensures c.from.ensures
