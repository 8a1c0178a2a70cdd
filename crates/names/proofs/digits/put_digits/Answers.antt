-- `names::digits::put_digits` meets its contract: writing the digits that are left makes the whole. Assumes nothing.
use mathlib.Core.Path.{◌≡◌, sym, ap, ◌∙◌}
use Prim.Native.Nat.{ℕ, suc, ◌-◌}
use native.Mathlib.Omega.{arith}
use Rattle.definitions.specs.Names.{digits}
use Rattle.names.specs.Put.{put}
use Rattle.names.proofs.PutLaws.{put-none}
use Rattle.names.proofs.DigitLaws.{put-digit}
use Rattle.names.proofs.digits.put_digits.Goals as goal

pub loop-i-preserved : goal.loop-i-preserved
loop-i-preserved c =
    let k = c.loop-i in
    let at = c.args.at in
    let more : suc (k.i - 1) ≡ k.i = omega arith in
    put-digit k.out at (k.i - 1) k.left (omega arith) ∙ ap (λ (w : ℕ). put k.out at (digits w k.left)) more ∙ k.invariant

pub returns : goal.returns
unfolding digits
returns c =
    let k = c.loop-i in
    let none : k.i ≡ 0 = omega arith in
    sym (put-none k.out c.args.at) ∙ ap (λ (w : ℕ). put k.out c.args.at (digits w k.left)) (sym none) ∙ k.invariant
