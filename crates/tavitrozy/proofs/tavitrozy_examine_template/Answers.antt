-- `tavitrozy::tavitrozy_examine_template` meets its contract: the code of what the examining replied. Assumes nothing.
use Rattle.codes.proofs.Examined.{examines-as}
use Rattle.tavitrozy.proofs.tavitrozy_examine_template.Goals as goal

pub returns : goal.returns
returns c = examines-as _ c.expand_template.result c.from.result c.expand_template.ensures c.from.ensures
