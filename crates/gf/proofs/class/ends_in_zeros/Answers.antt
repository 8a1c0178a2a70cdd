-- `gf::class::ends_in_zeros` meets its contract: the mask takes the remainder by a power of two. Assumes nothing.
use Rattle.std.proofs.Common.{◌≡◌, ℕ, ◌-◌, ◌*◌, ◌%◌, ◌^◌, ◌<◌, ◌≤◌, eqb, sym, ap, ◌∙◌, subst, one-mul, arith, lit<, pow_pos, shl_exact}
use lib.Bits.{bit_and, and_mask}
use Rattle.gf.proofs.class.ends_in_zeros.Goals as goal

shifted : (k : ℕ) → k < 64 → 1 * 2 ^ k % 0x1_0000_0000_0000_0000 ≡ 2 ^ k
shifted k h = shl_exact 1 k 64 (lit< tt) (omega arith) ∙ one-mul (2 ^ k)

pub overflow_sub-result : goal.overflow_sub-result
overflow_sub-result c = subst (λ (n : ℕ). 1 ≤ n) (sym (shifted c.args.count c.requires)) (pow_pos c.args.count)

pub returns : goal.returns
returns c =
    let digits = c.args.digits in
    let count = c.args.count in
    ap (λ (n : ℕ). eqb n 0) (ap (λ (n : ℕ). bit_and digits (n - 1)) (shifted count c.requires) ∙ and_mask digits count)
