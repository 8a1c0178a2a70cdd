-- `sdf::scans::falls` meets its contract: those counted, and those from the last time read on. Assumes nothing.
use Prim.Native.Nat.{◌+◌, ◌≤◌}
use mathlib.Core.Path.{◌≡◌}
use mathlib.Core.List.{◌∷◌}
use lib.ListN.{drop}
use Rattle.sdf.specs.Parts as Parts
use Rattle.sdf.proofs.scans.falls.Given as goal

abbrev pub invariant-loop-next : goal.invariant-loop-next
invariant-loop-next l = (l.found ≤ l.next-index) × (Parts.falls l.times ≡ l.found + Parts.falls (l.last ∷ drop l.next-index l.next-items))
