-- `sdf::part::clip_begin` meets its contract. Assumes nothing.
use mathlib.Core.Path.{◌≡◌, refl}
use mathlib.Core.List.{List}
use Prim.Native.Nat.{ℕ, zero, suc, ◌-◌}
use lib.ListN.{get_or}
use native.Mathlib.Omega.{arith}
use Rattle.definitions.specs.Samples.{clip_begin}
use Rattle.sdf.proofs.part.clip_begin.Goals as goal

pub returns-then-clip-eq0 : goal.returns-then-clip-eq0
unfolding clip_begin
returns-then-clip-eq0 c = rw c.if-clip-eq0.true

pub returns : goal.returns
unfolding clip_begin
returns c = go c.args.clip c.args.ends.now c.if-clip-eq0.false
  where
    go : (k : ℕ) (l : List ℕ) → (k ≡ 0 → ⊥) → get_or l (k - 1) 0 ≡ clip_begin l k
    go zero l h = absurd (h refl)
    go (suc k) l h = let e : suc k - 1 ≡ k = omega arith in rw e
