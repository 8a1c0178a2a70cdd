-- `template::expanding::promote` meets its contract: the times before t are written, and t begins the rest. Assumes nothing.
use Prim.Native.Nat.{ℕ}
use mathlib.Core.Path.{◌≡◌, refl, sym, ap, ◌∙◌}
use native.Mathlib.Omega.{arith}
use lib.ListN.{take, replicate}
use lib.Ieee.{of_bits}
use Rattle.gf.specs.Doubles.{◌⊕◌, ◌⊗◌, 0·0, 0·5, 10000·0}
use Rattle.template.proofs.Promotion.{promote-start, promote-next, promote-ends, promote-length, promote-more, promotes, promotes-none}
use Rattle.template.proofs.expanding.promote.Goals as goal

pub loop-i-init : goal.loop-i-init
unfolding of_bits
loop-i-init c =
    let x = c.args.times in
    promote-start (x.start ⊗ 10000·0) (x.stride ⊗ 10000·0) (x.end ⊗ 10000·0 ⊕ 0·5) (replicate 256 0·0) refl

pub loop-i-preserved : goal.loop-i-preserved
unfolding of_bits
loop-i-preserved c =
    let k = c.loop-i in
    let x = c.args.times in
    promote-next (x.start ⊗ 10000·0) (x.stride ⊗ 10000·0) (x.end ⊗ 10000·0 ⊕ 0·5) k.items k.t k.i k.invariant (omega arith) c.if-t-bound.true

pub returns-else-t-bound : goal.returns-else-t-bound
unfolding of_bits
returns-else-t-bound c =
    let k = c.loop-i in
    let x = c.args.times in
    promotes x k.items k.i k.invariant.long k.invariant.within (promote-length (x.start ⊗ 10000·0) (x.stride ⊗ 10000·0) (x.end ⊗ 10000·0 ⊕ 0·5) k.items k.t k.i k.invariant c.if-t-bound.false) (promote-ends (x.start ⊗ 10000·0) (x.stride ⊗ 10000·0) (x.end ⊗ 10000·0 ⊕ 0·5) k.items k.t k.i k.invariant c.if-t-bound.false)

pub returns-then-t-bound-2 : goal.returns-then-t-bound-2
unfolding of_bits
returns-then-t-bound-2 c =
    let k = c.loop-i in
    let x = c.args.times in
    promotes-none x (promote-more (x.start ⊗ 10000·0) (x.stride ⊗ 10000·0) (x.end ⊗ 10000·0 ⊕ 0·5) k.items k.t k.i k.invariant (omega arith) c.if-t-bound-2.true)

pub returns : goal.returns
unfolding of_bits
returns c =
    let k = c.loop-i in
    let x = c.args.times in
    let n : k.i ≡ 256 = omega arith in
    promotes x k.items 256 k.invariant.long (omega arith) (sym n ∙ promote-length (x.start ⊗ 10000·0) (x.stride ⊗ 10000·0) (x.end ⊗ 10000·0 ⊕ 0·5) k.items k.t k.i k.invariant c.if-t-bound-2.false) (ap (λ (m : ℕ). take m k.items) (sym n) ∙ promote-ends (x.start ⊗ 10000·0) (x.stride ⊗ 10000·0) (x.end ⊗ 10000·0 ⊕ 0·5) k.items k.t k.i k.invariant c.if-t-bound-2.false)
