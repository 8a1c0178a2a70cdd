-- `cases::changes::named::install` hands on what the operation promises of a slot's set. Assumes nothing.
use Rattle.cases.specs.Named.{install}
use Rattle.cases.proofs.changes.named.install.Goals as goal

pub returns : goal.returns
returns c = record { said = install _ _ _ c.install-told.ensures; made = c.install-told.ensures.made }
