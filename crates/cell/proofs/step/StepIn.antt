-- A step of a function that is left once, found in a part of its keys. Assumes nothing.
use Rattle.std.specs.Prelude.{Option, None, Some}
use mathlib.Core.Path.{◌≡◌, sym, ◌∙◌}
use Prim.Native.Nat.{ℕ, ◌-◌, ◌≤◌}
use native.Mathlib.Omega.{arith}
use Rattle.laws.specs.track.Steps.{Once, Level, StepAt, FirstStep}

module _ {f : ℕ → ℕ} {k hi : ℕ} (o : Once f k hi) (a b : ℕ) (l : k ≤ a) (h : b ≤ hi) (e : f a ≡ f k) where
  -- from a key where it is as at k on it is left once
  pub once-part : Once f a b
  once-part i j p q r s = o i j (omega arith) q (omega arith) (s ∙ e) ∙ sym e

  -- the step above that key is the one above k
  pub step_part : (m : ℕ) → StepAt f a b m → StepAt f k hi m
  step_part m s =
      let u = s.above in
      let w = s.within in
      record {
        above = omega arith;
        within = omega arith;
        level = λ j p q. o j (m - 1) p q (omega arith) (s.level (m - 1) (omega arith) (omega arith) ∙ e);
        steps = λ d. s.steps (d ∙ sym e);
      }

-- as at k at the last key: no step
pub level-whole : {f : ℕ → ℕ} {k hi : ℕ} → Once f k hi → f hi ≡ f k → Level f k hi
level-whole {hi = hi} o e j p q = o j hi p q (omega arith) e

-- up to the last key
pub first_part : {f : ℕ → ℕ} {k hi : ℕ} → Once f k hi → (a : ℕ) → k ≤ a → a ≤ hi → f a ≡ f k → (r : Option ℕ) → FirstStep f a hi r → FirstStep f k hi r
first_part {hi = hi} o a l g e (Some m) s = step_part o a hi l (omega arith) e m s
first_part {hi = hi} o a l g e None s = level-whole o (s hi g (omega arith) ∙ e)
