-- `lists::count_at_most` meets its contract: those counted are the ones up to here. Assumes nothing.
use Rattle.std.proofs.Common.{◌≡◌, take, count_by}
use lib.Ieee.{le}
use Rattle.lists.proofs.count_at_most.Given as goal

abbrev pub invariant-loop-time : goal.invariant-loop-time
invariant-loop-time l = l.found ≡ count_by (λ x. le x l.t) (take l.time-index l.times)
