-- `value::direct::nearest_before` meets its contract: the starts below i are left. Assumes nothing.
use mathlib.Core.Path.{◌≡◌}
use mathlib.Core.List.{reverse}
use lib.ListN.{take}
use Rattle.laws.specs.cell.Lent.{active_of}
use Rattle.value.specs.direct.Reads.{first_read}
use Rattle.value.proofs.direct.nearest_before.Given as goal

abbrev pub invariant-loop-i : goal.invariant-loop-i
invariant-loop-i l = first_read l.blocks l.xs l.ys l.times l.ends (reverse (take l.p (active_of l.starts l.clips))) ≡ first_read l.blocks l.xs l.ys l.times l.ends (reverse (take l.i (active_of l.starts l.clips)))
