-- `cases::changes::named::template` hands on what the operation promises of the fields that were read. Assumes nothing.
use Rattle.cases.specs.Named.{template}
use Rattle.cases.proofs.changes.named.template.Goals as goal

pub returns : goal.returns
returns c = record { said = template _ _ _ c.expand_read-told.ensures; made = c.expand_read-told.ensures.made }
