-- The end of a stretch: the least boundary above t. Up to any double below it no boundary is passed; where there is none, up to any double. Assumes nothing.
use mathlib.Core.Path.{◌≡◌, subst}
use mathlib.Core.Logic.{inl, inr}
use mathlib.Core.Bool.{Bool, true, false, not, cond}
use mathlib.Core.List.{List, [], ◌∷◌}
use mathlib.Core.Option.{none, some}
use Prim.Native.Nat.{ℕ}
use native.Mathlib.Omega.{arith}
use lib.Dec.{T, T_not}
use lib.Ieee.{Float, is_nan, lt, le}
use Rattle.gf.proofs.KeyLaws.{le_trans, le_refl, le-no-nan, lt→le, lt_not_le, lt-le-trans, le-or-lt}
use Rattle.definitions.specs.Lists.{keep}
use Rattle.definitions.specs.Value.{upper_neighbour, minimum, smallest}
use Rattle.laws.specs.list.Every.{Every}
use Rattle.laws.proofs.list.Every.{every-zip, every-keep, every-kept}
use Rattle.laws.specs.list.Places.{Fits, Number}
use Rattle.laws.proofs.cell.Places.{Clear}

-- ---- the smallest of a list

pick : (x y : Float) → Number x → Number y → Number (cond (lt y x) y x) × T (le (cond (lt y x) y x) x) × T (le (cond (lt y x) y x) y)
pick x y p q = go (lt y x) (λ h. h) (λ h. h)
  where
    go : (b : Bool) → (T b → T (lt y x)) → (T (not b) → T (not (lt y x))) → Number (cond b y x) × T (le (cond b y x) x) × T (le (cond b y x) y)
    go true h k = (q, lt→le y x (h tt), le_refl y q.0 q.1)
    go false h k = (p, le_refl x p.0 p.1, elim (le-or-lt x y p.0 q.0 p.1 q.1) [ inl l ↦ l | inr l ↦ absurd (T_not (lt y x) (k tt) l) ])

smallest-number : (x : Float) (l : List Float) → Number x → Every Number l → Number (smallest x l)
smallest-number x [] p h = p
smallest-number x (y ∷ l) p h = smallest-number (cond (lt y x) y x) l (pick x y p h.0).0 h.1

smallest-le : (x : Float) (l : List Float) → Number x → Every Number l → T (le (smallest x l) x)
smallest-le x [] p h = le_refl x p.0 p.1
smallest-le x (y ∷ l) p h =
    let m = cond (lt y x) y x in
    let q = pick x y p h.0 in
    le_trans (smallest m l) m x (smallest-number m l q.0 h.1).0 q.0.0 p.0 (smallest-le m l q.0 h.1) q.1

smallest-all : (x : Float) (l : List Float) → Number x → Every Number l → Every (λ (y : Float). T (le (smallest x l) y)) l
smallest-all x [] p h = tt
smallest-all x (y ∷ l) p h =
    let m = cond (lt y x) y x in
    let q = pick x y p h.0 in
    (le_trans (smallest m l) m y (smallest-number m l q.0 h.1).0 q.0.0 h.0.0 (smallest-le m l q.0 h.1) q.2, smallest-all m l q.0 h.1)

smallest-one : (P : Float → Type 0) (x : Float) (l : List Float) → P x → Every P l → P (smallest x l)
smallest-one P x [] p h = p
smallest-one P x (y ∷ l) p h = smallest-one P (cond (lt y x) y x) l (go (lt y x)) h.1
  where
    go : (b : Bool) → P (cond b y x)
    go true = h.0
    go false = p

some_inj : (x y : Float) → some x ≡ some y → x ≡ y
some_inj x y e = cc

pub minimum-all : (e : Float) (l : List Float) → Every Number l → minimum l ≡ some e → Every (λ (y : Float). T (le e y)) l
minimum-all e [] h q = tt
minimum-all e (x ∷ l) h q = subst (λ (z : Float). Every (λ (y : Float). T (le z y)) (x ∷ l)) (some_inj (smallest x l) e q) (smallest-le x l h.0 h.1, smallest-all x l h.0 h.1)

pub minimum-one : (P : Float → Type 0) (e : Float) (l : List Float) → Every P l → minimum l ≡ some e → P e
minimum-one P e [] h q = let z : ◌≡◌ {A = ℕ} 0 1 = cc in absurd (omega arith)
minimum-one P e (x ∷ l) h q = subst P (some_inj (smallest x l) e q) (smallest-one P x l h.0 h.1)

minimum-none : (l : List Float) → minimum l ≡ none → Every (λ (y : Float). ⊥) l
minimum-none [] q = tt
minimum-none (x ∷ l) q = let z : ◌≡◌ {A = ℕ} 0 1 = cc in absurd (omega arith)

-- ---- the least of the times above t

module _ (times : List Float) (fit : Every Fits times) (t : Float) (ft : Fits t) (nt : T (not (is_nan t))) where
  abbrev later : List Float
  later = keep (λ (x : Float). lt t x) times

  later-above : Every (λ (x : Float). T (lt t x)) later
  later-above = go times
    where
      go : (l : List Float) → Every (λ (x : Float). T (lt t x)) (keep (λ (x : Float). lt t x) l)
      go [] = tt
      go (x ∷ l) = cases (lt t x) (λ h. h) (go l)
        where
          cases : (b : Bool) → (T b → T (lt t x)) → Every (λ (y : Float). T (lt t y)) (keep (λ (y : Float). lt t y) l) → Every (λ (y : Float). T (lt t y)) (cond b (x ∷ keep (λ (y : Float). lt t y) l) (keep (λ (y : Float). lt t y) l))
          cases true h r = (h tt, r)
          cases false h r = r

  later-number : Every Number later
  later-number =
      every-zip Fits (λ (x : Float). T (lt t x)) Number (λ x f h. (f, (le-no-nan t x (lt→le t x h)).1)) later
      (every-keep Fits (λ (x : Float). lt t x) times fit) later-above

  -- the end is above t
  pub end-above : (e : Float) → upper_neighbour times t ≡ some e → Fits e × T (lt t e)
  unfolding upper_neighbour
  end-above e q = (minimum-one Fits e later (every-keep Fits (λ (x : Float). lt t x) times fit) q, minimum-one (λ (x : Float). T (lt t x)) e later later-above q)

  -- below it no time is passed
  pub clear-below : (e u : Float) → upper_neighbour times t ≡ some e → Fits u → T (lt u e) → Every (Clear t u) times
  unfolding upper_neighbour
  clear-below e u q fu h =
      every-zip Fits (λ (x : Float). T (lt t x) → T (le e x)) (Clear t u)
      (λ x f c l. elim (le-or-lt x t f ft (le-no-nan x u l).0 nt) [ inl a ↦ a | inr b ↦ absurd (lt_not_le u x fu f (lt-le-trans u e x fu fe f h (c b)) l) ])
      times fit (every-kept (λ (x : Float). T (le e x)) (λ (x : Float). lt t x) times (minimum-all e later later-number q))
    where
      fe : Fits e
      fe = minimum-one Fits e later (every-keep Fits (λ (x : Float). lt t x) times fit) q

  -- from the last on none is
  pub clear-on : (u : Float) → upper_neighbour times t ≡ none → Every (Clear t u) times
  unfolding upper_neighbour
  clear-on u q =
      every-zip Fits (λ (x : Float). T (lt t x) → ⊥) (Clear t u)
      (λ x f c l. elim (le-or-lt x t f ft (le-no-nan x u l).0 nt) [ inl a ↦ a | inr b ↦ absurd (c b) ])
      times fit (every-kept (λ (x : Float). ⊥) (λ (x : Float). lt t x) times (minimum-none later q))
