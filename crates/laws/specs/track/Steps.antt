-- A function on the keys that is left once, its first step, and functions that agree. Assumes nothing.
use Rattle.std.specs.Prelude.{◌≡◌, ℕ, ◌-◌, ◌≤◌, ◌<◌, Option, None, Some}

-- f does not come back to what it has at lo
abbrev pub Once : (ℕ → ℕ) → ℕ → ℕ → Type 0
Once f lo hi = (j k : ℕ) → lo ≤ j → j ≤ k → k ≤ hi → f k ≡ f lo → f j ≡ f lo

abbrev pub Grows : (ℕ → ℕ) → ℕ → ℕ → Type 0
Grows f lo hi = (j k : ℕ) → lo ≤ j → j ≤ k → k ≤ hi → f j ≤ f k

abbrev pub Falls : (ℕ → ℕ) → ℕ → ℕ → Type 0
Falls f lo hi = (j k : ℕ) → lo ≤ j → j ≤ k → k ≤ hi → f k ≤ f j

module _ {A : Type 0} where
  -- v is the same from a to b
  abbrev pub Level : (ℕ → A) → ℕ → ℕ → Type 0
  Level v a b = (k : ℕ) → a ≤ k → k ≤ b → v k ≡ v a

  -- the functions agree on the keys from low to top
  abbrev pub Agree : ℕ → ℕ → (ℕ → A) → (ℕ → A) → Type 0
  Agree low top v w = (k : ℕ) → low ≤ k → k ≤ top → v k ≡ w k

-- m is the least key above lo and up to hi at which f is not as at lo
pub record StepAt (f : ℕ → ℕ) (lo hi m : ℕ) : Type 0 where
  pub above : lo < m
  pub within : m ≤ hi
  pub level : Level f lo (m - 1)
  pub steps : f m ≡ f lo → ⊥

-- the first step of f above lo and up to hi, or none
abbrev pub FirstStep : (ℕ → ℕ) → ℕ → ℕ → Option ℕ → Type 0
FirstStep f lo hi (Some m) = StepAt f lo hi m
FirstStep f lo hi None = Level f lo hi
