-- `value::direct::blocked_at` meets its contract: those counted and what is left of the list answer for the whole. Assumes nothing.
use Prim.Native.Nat.{◌≤◌}
use mathlib.Core.Path.{◌≡◌}
use mathlib.Core.Bool.{◌||◌}
use lib.Dec.{ltb}
use lib.ListN.{drop}
use lib.Ieee.{Float, eq}
use Rattle.definitions.specs.Lists.{any}
use Rattle.value.proofs.direct.blocked_at.Given as goal

abbrev pub invariant-loop-block : goal.invariant-loop-block
invariant-loop-block l =
    (l.found ≤ l.block-index)
    × (any (λ (b : Float). eq b l.start) l.blocks ≡ (ltb 0 l.found || any (λ (b : Float). eq b l.start) (drop l.block-index l.blocks)))
