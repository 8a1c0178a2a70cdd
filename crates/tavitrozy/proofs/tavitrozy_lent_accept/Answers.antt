-- `tavitrozy::tavitrozy_lent_accept` meets its contract: the operation's own promise. Assumes nothing.
use Rattle.tavitrozy.proofs.tavitrozy_lent_accept.Goals as goal

pub returns : goal.returns
returns c = rw c.settle.ensures c.accept-after.ensures
