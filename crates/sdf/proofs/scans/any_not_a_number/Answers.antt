-- `sdf::scans::any_not_a_number` meets its contract: the halves cover the list. Assumes nothing.
use mathlib.Core.Path.{sym, ◌∙◌}
use Prim.Native.Nat.{◌-◌, ◌/◌}
use native.Mathlib.Omega.{arith}
use lib.ListN.{length, drop, length-drop}
use lib.Seq.{length-take-le}
use lib.Ieee.{is_nan}
use Rattle.sdf.proofs.Beside.{by-halves}
use Rattle.sdf.proofs.scans.any_not_a_number.Goals as goal

pub slice_bounds-any_nan_beside-end : goal.slice_bounds-any_nan_beside-end
slice_bounds-any_nan_beside-end c = sym (length-take-le _ c.args.values.now (omega arith))

pub any_nan_beside-requires : goal.any_nan_beside-requires
any_nan_beside-requires c =
    let xs = c.args.values.now in
    let n = length xs - length xs / 2 in
    length-take-le n xs (omega arith) ∙ sym (length-take-le n (drop (length xs / 2) xs) (omega (arith, length-drop (length xs / 2) xs)))

pub returns : goal.returns
returns c = c.any_nan_beside.ensures ∙ by-halves is_nan c.args.values.now
