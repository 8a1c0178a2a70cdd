-- A page of a list that is lent has its length, and comes back in its place. Assumes nothing.
use Prim.Native.Nat.{ℕ, ◌+◌, ◌-◌, ◌≤◌}
use native.Mathlib.Omega.{arith}
use mathlib.Core.Path.{◌≡◌, sym, ap, ◌∙◌}
use mathlib.Core.List.{List, ◌++◌}
use lib.ListN.{length, take, drop}
use Rattle.pages.specs.Pages.{over}
use Rattle.pages.proofs.Parts.{span, part-to, part-long, over-ends}

module _ {A : Type 0} (a k : ℕ) (l : List A) (h : a + k ≤ length l) where
  pub lent-long : length (take (a + k - a) (drop a l)) ≡ k
  lent-long = ap length (part-to a k l) ∙ part-long a k l h

  pub back : (new : List A) → length new ≡ k → take a l ++ (new ++ drop (a + k - a) (drop a l)) ≡ over a new l
  back new e = over-ends a new l (omega arith) (a + k - a) (e ∙ sym (span a k))
