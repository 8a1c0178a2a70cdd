-- `lists::any_unstorable` meets its contract: so many of the times up to here may not be stored. Assumes nothing.
use Rattle.std.proofs.Common.{◌≡◌, not, take, count_by}
use Rattle.gf.specs.Doubles.{storable}
use Rattle.lists.proofs.any_unstorable.Given as goal

abbrev pub invariant-loop-time : goal.invariant-loop-time
invariant-loop-time l = l.found ≡ count_by (λ t. not (storable t)) (take l.time-index l.times)
