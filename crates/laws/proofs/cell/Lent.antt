-- A set and samples as plain lists, as an operation lends them to the functions that search them; and that the laws' premises hold of them. Assumes nothing.
use mathlib.Core.Path.{◌≡◌, refl, ap}
use mathlib.Core.List.{List, [], ◌∷◌}
use mathlib.Core.Option.{some}
use Prim.Native.Nat.{ℕ, zero, suc, ◌<◌}
use native.Mathlib.Omega.{arith}
use lib.Dec.{T}
use lib.ListN.{length, get_or, get_elem?}
use lib.Ieee.{Float, lt}
use Rattle.definitions.specs.declared.Knot.{Knot}
use Rattle.definitions.specs.Lists.{all, pairs_from, zip_with}
use Rattle.definitions.specs.Doubles.{FiniteDouble, ascending}
use Rattle.definitions.specs.ClipSet.{ClipSet, active_times, knot_times}
use Rattle.definitions.specs.Samples.{Samples}
use Rattle.laws.specs.set.Stored.{Stored, Lt}
use Rattle.laws.proofs.set.Stored.{stored-finite}
use Rattle.laws.specs.list.Every.{Every, ChainFrom, Chain}
use Rattle.laws.proofs.list.Every.{every_map}
use Rattle.laws.proofs.list.Tests.{both}
use Rattle.laws.specs.list.Places.{Fits}
use Rattle.laws.specs.cell.Knots.{SoundKnot}
use Rattle.laws.proofs.cell.Direct.{SoundSet, SoundSamples}
use Rattle.laws.specs.set.Sound.{Sound, knot_values}
use Rattle.laws.specs.set.Accepted.{Accepted}
use Rattle.laws.specs.cell.Lent.{active_of, knots_of}

-- ---- the lists of starts and knots, by their parts

module _ {A B C : Type 0} (f : A → B → C) where
  pub zip_length : (xs : List A) (ys : List B) → length xs ≡ length ys → length (zip_with f xs ys) ≡ length xs
  zip_length [] ys e = refl
  zip_length (x ∷ xs) [] e = absurd (omega arith)
  zip_length (x ∷ xs) (y ∷ ys) e = ap suc (zip_length xs ys (omega arith))

  pub zip-here : (xs : List A) (ys : List B) (i : ℕ) (a : A) (b : B) → length xs ≡ length ys → i < length xs → get_elem? (zip_with f xs ys) i ≡ some (f (get_or xs i a) (get_or ys i b))
  zip-here [] ys i a b e h = absurd (omega arith)
  zip-here (x ∷ xs) [] i a b e h = absurd (omega arith)
  zip-here (x ∷ xs) (y ∷ ys) zero a b e h = refl
  zip-here (x ∷ xs) (y ∷ ys) (suc i) a b e h = zip-here xs ys i a b (omega arith) (omega arith)

pub active-times : (starts : List Float) (clips : List ℕ) → length starts ≡ length clips → active_times (active_of starts clips) ≡ starts
active-times [] clips e = refl
active-times (x ∷ xs) [] e = absurd (omega arith)
active-times (x ∷ xs) (y ∷ ys) e = ap (λ (l : List Float). x ∷ l) (active-times xs ys (omega arith))

pub knot-times : (xs ys : List Float) → length xs ≡ length ys → knot_times (knots_of xs ys) ≡ xs
knot-times [] ys e = refl
knot-times (x ∷ xs) [] e = absurd (omega arith)
knot-times (x ∷ xs) (y ∷ ys) e = ap (λ (l : List Float). x ∷ l) (knot-times xs ys (omega arith))

-- ---- the laws' premises

pub chain-ascending : (xs : List Float) → Chain Lt xs → T (ascending xs)
chain-ascending [] c = tt
chain-ascending (x ∷ xs) c = go x xs c
  where
    go : (y : Float) (ys : List Float) → ChainFrom Lt y ys → T (all (λ (p : Float × Float). lt p.0 p.1) (pairs_from y ys))
    go y [] d = tt
    go y (z ∷ zs) d = both (lt y z) (all (λ (p : Float × Float). lt p.0 p.1) (pairs_from z zs)) d.0 (go z zs d.1)

sound-knot : (k : Knot) → Stored k.x → Stored k.y → SoundKnot k
sound-knot k p q = record { fx = p.fitting; fy = q.fitting; bx = p.inside; by = q.inside }

sound-knots : (knots : List Knot) → Every Stored (knot_times knots) → Every Stored (knot_values knots) → Every SoundKnot knots
sound-knots [] p q = tt
sound-knots (k ∷ l) p q = (sound-knot k p.0 q.0, sound-knots l p.1 q.1)

pub sound-set : (set : ClipSet) → Sound set → SoundSet set
sound-set set S = record {
  starts = every_map Stored FiniteDouble stored-finite (active_times set.active) S.times;
  ascends = chain-ascending (active_times set.active) S.strictly;
  knots = sound-knots set.knots S.xs S.ys;
}

pub sound-samples : (set : ClipSet) (s : Samples) → Accepted set s → SoundSamples s
sound-samples set s A = record { times = every_map Stored Fits (λ x p. p.fitting) s.times A.stored }
