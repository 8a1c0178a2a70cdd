-- Entries can be told apart; and a track over keys, written out as a track of the definitions. Assumes nothing.
use Rattle.std.specs.Prelude.{◌≡◌, refl, Bool, List, map, ℕ, ◌-◌, ℤ, Float}
use Rattle.std.proofs.Common.{ap, arith}
use Rattle.std.proofs.Math.Bool.{Bool-discrete}
use Rattle.std.proofs.Math.Decide.{ℕ_discrete}
use Rattle.std.proofs.Math.IntN.{ℤ_discrete}
use Rattle.std.specs.Float.{nan, inf, fin}
use Rattle.gf.specs.Doubles.{key, of_key}
use Rattle.definitions.specs.Track.{Entry, Change, Track}
use Rattle.laws.specs.track.Track as steps

-- ---- entries can be told apart

pub fin-same : (s t : Bool) (m n : ℕ) (e d : ℤ) → Dec (s ≡ t) → Dec (m ≡ n) → Dec (e ≡ d) → Dec (fin s m e ≡ fin t n d)
fin-same s t m n e d (yes p) (yes q) (yes r) = yes (cc)
fin-same s t m n e d (yes p) (yes q) (no r) = no (λ h. r (cc))
fin-same s t m n e d (yes p) (no q) r = no (λ h. q (cc))
fin-same s t m n e d (no p) q r = no (λ h. p (cc))

pub inf-same : (s t : Bool) → Dec (s ≡ t) → Dec (inf s ≡ inf t)
inf-same s t (yes p) = yes (ap inf p)
inf-same s t (no p) = no (λ h. p (cc))

pub other : {A : Type 0} → ◌≡◌ {A = ℕ} 0 1 → A
other e = absurd (omega arith)

pub float_same : Discrete Float
float_same nan nan = yes refl
float_same nan (inf t) = no (λ h. other (cc))
float_same nan (fin t n d) = no (λ h. other (cc))
float_same (inf s) nan = no (λ h. other (cc))
float_same (inf s) (inf t) = inf-same s t (Bool-discrete s t)
float_same (inf s) (fin t n d) = no (λ h. other (cc))
float_same (fin s m e) nan = no (λ h. other (cc))
float_same (fin s m e) (inf t) = no (λ h. other (cc))
float_same (fin s m e) (fin t n d) = fin-same s t m n e d (Bool-discrete s t) (ℕ_discrete m n) (ℤ_discrete e d)

pub entry-path : (a b : Entry) → a.value ≡ b.value → a.mark ≡ b.mark → a ≡ b
entry-path a b p q = λ i. record { value = p i; mark = q i }

pub entry-same : Discrete Entry
entry-same a b = go (float_same a.value b.value) (ℕ_discrete a.mark b.mark)
  where
    go : Dec (a.value ≡ b.value) → Dec (a.mark ≡ b.mark) → Dec (a ≡ b)
    go (yes p) (yes q) = yes (entry-path a b p q)
    go (yes p) (no q) = no (λ h. q (ap (λ (e : Entry). e.mark) h))
    go (no p) q = no (λ h. p (ap (λ (e : Entry). e.value) h))

-- ---- written out

-- a change over keys as a track writes it: "time zero as 0.0"
abbrev pub written_change : steps.Change Entry → Change
written_change c = record { time = of_key c.key; value = c.value.value; mark = c.value.mark }

abbrev pub written_track : Entry → List (steps.Change Entry) → Track
written_track h cs = record { initial = h; changes = map written_change cs }
