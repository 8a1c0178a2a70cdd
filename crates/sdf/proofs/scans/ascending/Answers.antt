-- `sdf::scans::ascending` meets its contract: of an ascending list nothing falls. Assumes nothing.
use mathlib.Core.Path.{sym, ap, ◌∙◌}
use Prim.Native.Nat.{ℕ}
use lib.Dec.{eqb}
use Rattle.sdf.proofs.Falls.{ascending-falls}
use Rattle.sdf.proofs.scans.ascending.Goals as goal

pub returns : goal.returns
returns c = ap (λ (n : ℕ). eqb n 0) c.falls.ensures ∙ sym (ascending-falls c.args.times.now)
