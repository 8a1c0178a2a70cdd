-- `lists::writing::move_times` meets its contract: the first times are moved, the others as they were. Assumes nothing.
use Rattle.definitions.specs.Retime.{apply}
use Rattle.lists.proofs.Filled.{Changed}
use Rattle.lists.proofs.writing.move_times.Given as goal

abbrev pub invariant-loop-time : goal.invariant-loop-time
invariant-loop-time l = Changed (apply l.o) l.initial.times l.times l.time-index
