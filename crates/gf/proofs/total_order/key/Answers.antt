-- `gf::total_order::key` meets its contract. The products are those of a sign, 0 or 1: by cases of it. Assumes nothing.
use Rattle.std.proofs.Common.{ℕ, ◌+◌, ◌<◌, inl, inr, le_trans, arith, lit<, lit≤, w64, Fits}
use lib.Bits.{bit_and, and_le_r}
use Rattle.gf.proofs.TotalOrderLaws.{sign-is, size_is, key-clear, key_set, placed}
use Rattle.gf.proofs.total_order.key.Goals.{Start as At-start}
use Rattle.gf.proofs.total_order.key.Goals as goal

pattern : (c : At-start) → c.args.bits < 0x1_0000_0000_0000_0000
pattern c = omega arith

sum_fits : (k b m : ℕ) → k + m < 0x1_0000_0000_0000_0000 → Fits w64 (k + bit_and b m)
sum_fits k b m h = omega (arith, and_le_r b m)

pub overflow_sub-turned : goal.overflow_sub-turned
overflow_sub-turned c = le_trans (and_le_r c.args.bits _) (lit≤ tt)

pub overflow_add-result : goal.overflow_add-result
overflow_add-result c = sum_fits _ c.args.bits _ (lit< tt)

pub overflow_mul-result : goal.overflow_mul-result
overflow_mul-result c = elim (sign-is c.args.bits (pattern c)) [ inl z ↦ rw z (omega (arith, overflow_add-result c)) | inr o ↦ rw o (omega arith) ]

pub overflow_mul-result-2 : goal.overflow_mul-result-2
overflow_mul-result-2 c = elim (sign-is c.args.bits (pattern c)) [ inl z ↦ rw z (omega arith) | inr o ↦ rw o (omega (arith, overflow_sub-turned c)) ]

pub overflow_add-result-2 : goal.overflow_add-result-2
overflow_add-result-2 c = elim (sign-is c.args.bits (pattern c)) [ inl z ↦ rw z (omega (arith, overflow_add-result c)) | inr o ↦ rw o (omega (arith, overflow_sub-turned c)) ]

pub returns : goal.returns
returns c =
    let b = c.args.bits in
    placed b _ (pattern c)
    (elim (sign-is b (pattern c)) [
      | inl z ↦ rw z (omega (arith, size_is b, key-clear b (pattern c) z))
      | inr o ↦ rw o (omega (arith, size_is b, key_set b (pattern c) o))
    ])
