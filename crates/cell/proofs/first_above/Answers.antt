-- `cell::first_above` meets its contract: behind the times that are at most t stands the least above it. Assumes nothing.
use mathlib.Core.Path.{sym, subst}
use Prim.Native.Nat.{◌+◌}
use native.Mathlib.Omega.{arith}
use Rattle.laws.proofs.list.Places.{last-inside}
use Rattle.window.specs.Bounds.{UpperIs}
use Rattle.cell.proofs.Firsts.{upper-at, upper-got, none-counted, some-counted}
use Rattle.cell.proofs.first_above.Goals as goal

pub returns-then-t-xs : goal.returns-then-t-xs
returns-then-t-xs c = upper-at c.args.xs.now c.requires.ascending c.args.t c.requires.finite_double 0 (none-counted c.args.xs.now c.requires.ascending c.args.t c.requires.finite_double (omega arith) c.if-t-xs.true) (omega arith)

pub overflow_add-last_at_most : goal.overflow_add-last_at_most
overflow_add-last_at_most c = let l = last-inside c.args.t c.requires.finite_double.fitting c.args.xs.now c.requires.ascending (omega arith) in omega arith

pub returns : goal.returns
returns c =
    let q = some-counted c.args.xs.now c.requires.ascending c.args.t c.requires.finite_double (omega arith) c.if-t-xs.false in
    subst (UpperIs c.args.xs.now c.args.t) (sym c.copied.ensures) (upper-got c.args.xs.now c.requires.ascending c.args.t c.requires.finite_double (c.last_at_most.result + 1) (omega arith) c.get.result c.get.ensures.lookup)
