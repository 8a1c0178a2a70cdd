-- `names::magnitude::decimals` meets its contract: high and low are the product with 10 ^ k. Assumes nothing.
use native.Mathlib.Omega.{arith}
use mathlib.Core.Path.{ap, ap₂, ◌∙◌}
use Prim.Native.Nat.{ℕ, ◌≤◌, ◌*◌}
use lib.Ieee.Nearest.{closest}
use Rattle.names.proofs.RoundingLaws.{ten-le, low-lt, high_lt, product, shift-parts}
use Rattle.names.proofs.magnitude.decimals.Goals.{After-pow-ten}
use Rattle.names.proofs.magnitude.decimals.Goals as goal

small : (c : After-pow-ten) → c.pow-ten.result ≤ 1000000
small c = omega (arith, ten-le c.args.k c.requires.2)

pub overflow_mul-low : goal.overflow_mul-low
overflow_mul-low c = omega (arith, low-lt c.args.m.digits c.pow-ten.result c.requires.0 (small (goal.at.overflow_mul-low c).After-pow-ten))

pub overflow_mul-high : goal.overflow_mul-high
overflow_mul-high c =
    let s = c in
    omega (arith, high_lt s.args.m.digits c.pow-ten.result s.requires.0 (small (goal.at.overflow_mul-high c).After-pow-ten))

pub overflow_add-high : goal.overflow_add-high
overflow_add-high c =
    let s = c in
    let ten = c.pow-ten.result in
    omega (arith, high_lt s.args.m.digits ten s.requires.0 (small (goal.at.overflow_add-high c).After-pow-ten), low-lt s.args.m.digits ten s.requires.0 (small (goal.at.overflow_add-high c).After-pow-ten))

pub nearest-requires : goal.nearest-requires
nearest-requires c =
    let s = c in
    let ten = c.pow-ten.result in
    let few = small (goal.at.nearest-requires c).After-pow-ten in (
      omega (arith, high_lt s.args.m.digits ten s.requires.0 few, low-lt s.args.m.digits ten s.requires.0 few),
      omega arith,
      omega arith,
    )

pub returns : goal.returns
returns c =
    let s = c in
    let t = c in
    c.nearest.ensures
    ∙ ap₂ closest
    (product s.args.m.digits t.pow-ten.result s.requires.0 (small (goal.at.returns t).After-pow-ten) ∙ ap (λ (n : ℕ). s.args.m.digits * n) t.pow-ten.ensures)
    (shift-parts s.args.m.shift s.requires.1)
