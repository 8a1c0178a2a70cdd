-- `tavitrozy::tavitrozy_lent_accept_template` meets its contract: the operation's own promise. Assumes nothing.
use Rattle.tavitrozy.proofs.tavitrozy_lent_accept_template.Goals as goal

pub returns : goal.returns
returns c = rw c.settle.ensures c.accept_template-after.ensures
