-- A function f on the keys that is left once: what it has at lo it has up to some key, and not again. A bisection finds the first key where it
-- is left. A function v that goes through f is level up to there, and from stop to stop of that kind its next change is found.
use mathlib.Core.Path.{◌≡◌, sym, ap, ◌∙◌}
use Prim.Native.Nat.{ℕ, ◌+◌, ◌-◌, ◌≤◌, ◌<◌}
use native.Mathlib.Decide.{dec_le}
use native.Mathlib.Omega.{arith}
use Rattle.laws.proofs.track.Track.{Still, ChangeAt}
use Rattle.laws.specs.track.Steps.{Once, Grows, Falls, Level, StepAt}

module _ {A : Type 0} where
  -- v goes through f
  abbrev pub Through : (ℕ → ℕ) → (ℕ → A) → Type 0
  Through f v = (j k : ℕ) → f j ≡ f k → v j ≡ v k

  -- m is a key above k and up to top, and v is the same from k up to, and not at, m
  pub record StopAt (v : ℕ → A) (k top m : ℕ) : Type 0 where
    pub above : k < m
    pub within : m ≤ top
    pub level : Level v k (m - 1)

-- ## A bisection

pub grows-once : {f : ℕ → ℕ} {lo hi : ℕ} → Grows f lo hi → Once f lo hi
grows-once {f} {lo} g j k a b d e = let p = g lo j (omega arith) a (omega arith) in let q = g j k a b d in omega arith

pub falls-once : {f : ℕ → ℕ} {lo hi : ℕ} → Falls f lo hi → Once f lo hi
falls-once {f} {lo} g j k a b d e = let p = g lo j (omega arith) a (omega arith) in let q = g j k a b d in omega arith

-- its end: f is as at lo at one key and not at the next
pub bisected : {f : ℕ → ℕ} {lo hi : ℕ} (a b : ℕ) → Once f lo hi → lo ≤ a → a < b → b ≤ a + 1 → b ≤ hi → f a ≡ f lo → (f b ≡ f lo → ⊥) → StepAt f lo hi b
bisected a b o l m n h e d =
    record { above = omega arith; within = h; level = λ k p q. o k a p (omega arith) (omega arith) e; steps = d }

-- ## From stop to stop

module _ {A : Type 0} {v : ℕ → A} where
  pub level-through : {f : ℕ → ℕ} → Through f v → (a b : ℕ) → Level f a b → Level v a b
  level-through t a b l k p q = t k a (l k p q)

  -- v is still up to a, and further while it is level from there
  pub still-level : (k a b : ℕ) → k ≤ a → Still v k a → Level v a b → Still v k b
  still-level k a b h s g j p q = go (dec_le j a)
    where
      go : Dec (j ≤ a) → v j ≡ v (j - 1)
      go (yes l) = s j p l
      go (no n) = g j (omega arith) q ∙ sym (g (j - 1) (omega arith) (omega arith))

  module _ {k a top m : ℕ} (h : k ≤ a) (s : Still v k a) (p : StopAt v a top m) where
    -- v is not as before at the stop: that is its next change
    pub change-stop : (v m ≡ v a → ⊥) → ChangeAt v k top m
    change-stop d =
        let l = p.above in
        record {
          above = omega arith;
          within = p.within;
          still = still-level k a (m - 1) h s p.level;
          changes = λ e. d (e ∙ p.level (m - 1) (omega arith) (omega arith));
        }

    -- v is as before at the stop: it is still up to there
    pub still-stop : v m ≡ v a → Still v k m
    still-stop e = still-level k a m h s f
      where
        f : Level v a m
        f j x y = go (dec_le j (m - 1))
          where
            go : Dec (j ≤ m - 1) → v j ≡ v a
            go (yes l) = p.level j x l
            go (no n) = let q : j ≡ m = omega arith in ap v q ∙ e
