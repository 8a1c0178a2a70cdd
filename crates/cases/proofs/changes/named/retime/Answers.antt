-- `cases::changes::named::retime` hands on what the operation promises of the fields that were read. Assumes nothing.
use Rattle.cases.specs.Named.{retime}
use Rattle.cases.proofs.changes.named.retime.Goals as goal

pub returns : goal.returns
returns c = record { said = retime _ _ c.retime-told.ensures; made = c.retime-told.ensures.made }
