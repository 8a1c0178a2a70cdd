-- `value::direct::nearest_from` meets its contract: the starts from i on are left. Assumes nothing.
use mathlib.Core.Path.{◌≡◌}
use lib.ListN.{drop}
use Rattle.laws.specs.cell.Lent.{active_of}
use Rattle.value.specs.direct.Reads.{first_read}
use Rattle.value.proofs.direct.nearest_from.Given as goal

abbrev pub invariant-loop-i : goal.invariant-loop-i
invariant-loop-i l = first_read l.blocks l.xs l.ys l.times l.ends (drop l.p (active_of l.starts l.clips)) ≡ first_read l.blocks l.xs l.ys l.times l.ends (drop l.i (active_of l.starts l.clips))
