-- `sdf::scans::fall_behind` meets its contract. Assumes nothing.
use mathlib.Core.Path.{sym}
use native.Mathlib.Omega.{arith}
use Rattle.sdf.proofs.Falls.{behind-none, behind-last}
use Rattle.sdf.proofs.scans.fall_behind.Goals.{then-begin-end-via-then-begin-end, then-begin-end-via-else-begin-end+then-end-times}
use Rattle.sdf.proofs.scans.fall_behind.Goals as goal

pub returns-then-begin-end : goal.returns-then-begin-end
returns-then-begin-end c =
    let a = c.args in
    elim c.then-begin-end.branch [
      | then-begin-end-via-then-begin-end w ↦ sym (behind-none a.times.now a.begin a.end (omega arith))
      | then-begin-end-via-else-begin-end+then-end-times w ↦ sym (behind-last a.times.now a.begin a.end (omega arith))
    ]
