-- `fill::least_cursor` meets its contract. Assumes nothing.
use mathlib.Core.Path.{refl}
use lib.Dec.{lit≤}
use Rattle.cell.proofs.Lent.{no-place-is}
use Rattle.track.proofs.fill.least_cursor.Goals as goal

pub returns : goal.returns
returns c = (
  record { keys = record { low = lit≤ tt; order = lit≤ tt; high = lit≤ tt }; last = c.entry_at-last.ensures; place = no-place-is c.requires c.no_place.result c.no_place.ensures },
  refl,
)
