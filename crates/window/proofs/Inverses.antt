-- The inverse times of a clip's samples, segment by segment: the same times as sample by sample. Assumes nothing.
use mathlib.Core.Path.{◌≡◌, refl, ap}
use mathlib.Core.Bool.{Bool, true, false, cond}
use mathlib.Core.List.{List, [], ◌∷◌}
use Prim.Native.Nat.{ℕ, ◌<◌}
use native.Mathlib.Omega.{arith}
use lib.Dec.{T}
use lib.ListN.{length, get_or}
use lib.Ieee.{Float}
use Rattle.definitions.specs.declared.Knot.{Knot}
use Rattle.definitions.specs.Lists.{keep, pairs, gather}
use Rattle.definitions.specs.Explicit.{knot}
use Rattle.definitions.specs.Value.{on_pair, stage_times_for_clip_time}
use Rattle.laws.specs.list.Every.{Every}
use Rattle.laws.proofs.list.Every.{zip-at, every_map, every_append, every-left, every-right, every-kept, every-swap}
use Rattle.laws.specs.cell.Lent.{knots_of}
use Rattle.laws.proofs.cell.Lent.{zip_length}
use Rattle.window.specs.Inverses.{on_segment, inverses_of}

-- ---- lists of lists

module _ {A B : Type 0} where
  pub every_of : (P : B → Type 0) (f : A → List B) (l : List A) → Every (λ (x : A). Every P (f x)) l → Every P (gather f l)
  every_of P f [] h = tt
  every_of P f (x ∷ l) h = every_append P (f x) (gather f l) h.0 (every_of P f l h.1)

  pub every-each : (P : B → Type 0) (f : A → List B) (l : List A) → Every P (gather f l) → Every (λ (x : A). Every P (f x)) l
  every-each P f [] h = tt
  every-each P f (x ∷ l) h = (every-left P (f x) (gather f l) h, every-each P f l (every-right P (f x) (gather f l) h))

module _ {A B C : Type 0} (f : A → B → List C) (P : C → Type 0) (a : List A) (b : List B) where
  every-turn : Every P (gather (λ (x : A). gather (λ (y : B). f x y) b) a) → Every P (gather (λ (y : B). gather (λ (x : A). f x y) a) b)
  every-turn h =
      every_of P (λ (y : B). gather (λ (x : A). f x y) a) b
      (every_map (λ (y : B). Every (λ (x : A). Every P (f x y)) a) (λ (y : B). Every P (gather (λ (x : A). f x y) a)) (λ y k. every_of P (λ (x : A). f x y) a k) b
      (every-swap (λ (x : A) (y : B). Every P (f x y)) a b
      (every_map (λ (x : A). Every P (gather (λ (y : B). f x y) b)) (λ (x : A). Every (λ (y : B). Every P (f x y)) b) (λ x k. every-each P (λ (y : B). f x y) b k) a
      (every-each P (λ (x : A). gather (λ (y : B). f x y) b) a h))))

pub every-if : (P : Float → Type 0) (f : Float → Bool) (l : List Float) → Every (λ (x : Float). T (f x) → P x) l → Every P (keep f l)
every-if P f [] h = tt
every-if P f (x ∷ l) h = go (f x) (λ a. a) (every-if P f l h.1)
  where
    go : (b : Bool) → (T b → T (f x)) → Every P (keep f l) → Every P (cond b (x ∷ keep f l) (keep f l))
    go true k r = (h.0 (k tt), r)
    go false k r = r

-- ---- sample by sample, as the definition has them

-- "with no knots c itself"
pub inverses-none : (cs : List Float) → inverses_of [] cs ≡ cs
unfolding stage_times_for_clip_time
inverses-none [] = refl
inverses-none (c ∷ cs) = ap (λ (l : List Float). c ∷ l) (inverses-none cs)

-- what holds of those that pass, segment by segment or sample by sample
module _ (P : Float → Type 0) (p : Float → Bool) (cs : List Float) (k : Knot) (rest : List Knot) where
  abbrev qs : List (Knot × Knot)
  qs = pairs (k ∷ rest)

  pub by-samples : Every P (keep p (gather (on_segment cs) qs)) → Every P (keep p (inverses_of (k ∷ rest) cs))
  unfolding stage_times_for_clip_time on_segment
  by-samples e =
      every-if P p (gather (λ (c : Float). gather (on_pair c) qs) cs)
      (every-turn (λ (q : Knot × Knot) (c : Float). on_pair c q) (λ (x : Float). T (p x) → P x) qs cs (every-kept P p (gather (λ (q : Knot × Knot). gather (λ (c : Float). on_pair c q) cs) qs) e))

  pub by-segments : Every P (keep p (inverses_of (k ∷ rest) cs)) → Every P (keep p (gather (on_segment cs) qs))
  unfolding stage_times_for_clip_time on_segment
  by-segments e =
      every-if P p (gather (λ (q : Knot × Knot). gather (λ (c : Float). on_pair c q) cs) qs)
      (every-turn (λ (c : Float) (q : Knot × Knot). on_pair c q) (λ (x : Float). T (p x) → P x) cs qs (every-kept P p (gather (λ (c : Float). gather (on_pair c) qs) cs) e))

-- the knots of two lists by their places
module _ (xs ys : List Float) (e : length xs ≡ length ys) where
  pub knots-long : length (knots_of xs ys) ≡ length xs
  knots-long = zip_length knot xs ys e

  pub knots-at : (i : ℕ) (a b : Float) (d : Knot) → i < length xs → get_or (knots_of xs ys) i d ≡ knot (get_or xs i a) (get_or ys i b)
  knots-at i a b d h = zip-at knot xs ys i a b d h (omega arith)
