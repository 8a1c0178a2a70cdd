-- `by_value::install` meets its contract: the prepared set in the arrays of a standing one. Assumes nothing.
use Rattle.resolver.proofs.Laws.{installs}
use Rattle.by_value.proofs.install.Goals as goal

pub installed-set-requires : goal.installed-set-requires
installed-set-requires c = c.requires.made_set.held

pub returns : goal.returns
returns c = installs _ _ _ c.requires.made_set c.installed-set.ensures
