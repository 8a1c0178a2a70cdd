-- `clip::retiming::sort_turned` meets its contract. Assumes nothing.
use mathlib.Core.Path.{refl}
use lib.Ieee.{of_bits}
use Rattle.clip.proofs.retiming.sort_turned.Goals as goal

pub returns-then-scale : goal.returns-then-scale
unfolding of_bits
returns-then-scale c =
    let a = c in
    let k = c in
    rw a.if-scale.true record { numbers_value = a.sort_starts.ensures; ys_value = k.sort_knots.ensures }

pub returns-else-scale : goal.returns-else-scale
unfolding of_bits
returns-else-scale c = rw c.if-scale.false record { numbers_value = refl; ys_value = refl }
