-- `cases::changes::named::explicit` hands on what the operation promises of the fields that were read. Assumes nothing.
use Rattle.cases.specs.Named.{explicit}
use Rattle.cases.proofs.changes.named.explicit.Goals as goal

pub returns : goal.returns
returns c = record { said = explicit _ _ _ c.accept_read-told.ensures; made = c.accept_read-told.ensures.made }
