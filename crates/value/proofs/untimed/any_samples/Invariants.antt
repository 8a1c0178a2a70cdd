-- `value::untimed::any_samples` meets its contract: the clips that are left answer for all. Assumes nothing.
use mathlib.Core.Path.{◌≡◌}
use lib.ListN.{drop}
use Rattle.definitions.specs.Lists.{any}
use Rattle.value.specs.Untimed.{has_samples}
use Rattle.value.proofs.untimed.any_samples.Given as goal

abbrev pub invariant-loop-clip : goal.invariant-loop-clip
invariant-loop-clip l = any (has_samples l.ends) l.clips ≡ any (has_samples l.ends) (drop l.clip-index l.clips)
