-- A clip's samples that are read along a line: the entry at a place, and what a step of the place tells of what is read. Assumes nothing.
use mathlib.Core.Path.{◌≡◌, refl, ap}
use mathlib.Core.Logic.{inl, inr}
use mathlib.Core.List.{List, [], ◌∷◌}
use Prim.Native.Nat.{ℕ, zero, suc, ◌≤◌, ◌<◌}
use native.Mathlib.Omega.{arith}
use borrow.Author.Tests.{ne_eqb}
use lib.Dec.{T}
use lib.ListN.{length, get_or}
use lib.Ieee.{Float, nan}
use Rattle.gf.specs.Doubles.{of_key, 0·0}
use Rattle.definitions.specs.declared.Answer.{Answer}
use Rattle.definitions.specs.declared.Answer.TheVariants.{Value, Blocked}
use Rattle.definitions.specs.Value.{marked}
use Rattle.definitions.specs.Track.{Entry, alike}
use Rattle.definitions.proofs.Written.{Numeric, zero_number, written-self, written_one}
use Rattle.laws.specs.track.Steps.{Once, Level, StepAt}
use Rattle.laws.proofs.track.Steps.{Through, grows-once, falls-once, level-through}
use Rattle.laws.specs.cell.Knots as Knots
use Rattle.laws.specs.list.Places.{Fits}
use Rattle.laws.proofs.list.Every.{every-get_or}
use Rattle.laws.proofs.cell.Numbers.{marked-numeric}
use Rattle.laws.proofs.cell.Places.{last-short}
use Rattle.cell.specs.declared.step.line.Line.{Line}
use Rattle.cell.specs.step.Lines.{line_is, place_on}
use Rattle.run.specs.Readings.{Reads, LeftOnce, entry_at, reading_at}
use Rattle.run.proofs.Walking.{Reaches}

-- ---- the entry at a place

get_d_any : {A : Type 0} (l : List A) (i : ℕ) (d e : A) → i < length l → get_or l i d ≡ get_or l i e
get_d_any [] i d e h = absurd (omega arith)
get_d_any (x ∷ l) zero d e h = refl
get_d_any (x ∷ l) (suc i) d e h = get_d_any l i d e (omega arith)

-- what the sample at a place says, by the test of its mark
module _ (vs : List Float) (ms : List ℕ) (p : ℕ) where
  pub sample-value : p < length vs → get_or ms p 0 ≡ 0 → Value (get_or vs p nan) ≡ marked (get_or ms p 0) (get_or vs p 0·0)
  sample-value h e = rw (e, get_d_any vs p nan 0·0 h)

  pub sample-blocked : (get_or ms p 0 ≡ 0 → ⊥) → Blocked ≡ marked (get_or ms p 0) (get_or vs p 0·0)
  sample-blocked n = rw (ne_eqb (get_or ms p 0) 0 n)

-- a sample says a number or is a block; so alike entries are one, and each is alike to itself
module _ {ts vs : List Float} {ms : List ℕ} (R : Reads ts vs ms) where
  abbrev told : ℕ → Answer
  told p = marked (get_or ms p 0) (get_or vs p 0·0)

  sample-numeric : (p : ℕ) → p < length ts → Numeric (marked (get_or ms p 0) (get_or vs p 0·0))
  sample-numeric p h = marked-numeric (get_or ms p 0) (get_or vs p 0·0) (every-get_or Fits vs p 0·0 R.numbers zero_number.0) (R.number p h)

  pub entry-one : (p r : ℕ) → p < length ts → r < length ts → T (alike (entry_at vs ms p) (entry_at vs ms r)) → entry_at vs ms p ≡ entry_at vs ms r
  entry-one p r h k = written_one (told p) (told r) (sample-numeric p h) (sample-numeric r k)

  pub entry-self : (p : ℕ) → p < length ts → T (alike (entry_at vs ms p) (entry_at vs ms p))
  entry-self p h = written-self (told p) (sample-numeric p h)

-- ---- the place

pub turns-once : {f : ℕ → ℕ} {k hi : ℕ} (at : ℕ) → k ≤ at → LeftOnce f k hi → Once f at hi
turns-once {f} at h (inl g) = grows-once {f = f} (λ i j p q r. g i j (omega arith) q r)
turns-once {f} at h (inr g) = falls-once {f = f} (λ i j p q r. g i j (omega arith) q r)

module _ {ts vs : List Float} {ms : List ℕ} (R : Reads ts vs ms) (line : Line) where
  abbrev f : ℕ → ℕ
  f = place_on ts line

  abbrev w : ℕ → Entry
  w = reading_at ts vs ms line

  pub place_inside : (k : ℕ) → place_on ts line k < length ts
  unfolding place_on
  place_inside k = last-short ts (Knots.along (line_is line) (of_key k)) R.some

  -- as many values and marks as times
  pub place-slots : (p k : ℕ) → p ≡ place_on ts line k → (p < length vs) × (p < length ms)
  place-slots p k e = let h = place_inside k in let a = R.values in let b = R.marks in (omega arith, omega arith)

  -- ---- a step of the place

  through : Through f w
  through j k e = ap (entry_at vs ms) e

  -- no step: it stays
  pub read-level : {at hi : ℕ} → Level (place_on ts line) at hi → Level (reading_at ts vs ms line) at hi
  read-level {at} {hi} l = level-through through at hi l

  pub read-reaches : {at hi m : ℕ} → StepAt (place_on ts line) at hi m → Reaches (reading_at ts vs ms line) at m
  read-reaches {at} {m = m} s = let l = s.above in record { from = omega arith; level = read-level s.level; sure = entry-one R (place_on ts line m) (place_on ts line at) (place_inside m) (place_inside at); self = entry-self R (place_on ts line at) (place_inside at) }
