-- The neighbours of a time among times in any order: what they are, and that there are some. Assumes nothing.
use Rattle.std.specs.Prelude.{Option, None, Some}
use mathlib.Core.Path.{◌≡◌, refl, sym, subst}
use mathlib.Core.Logic.{inl, inr}
use mathlib.Core.Bool.{Bool, true, false}
use mathlib.Core.List.{List, [], ◌∷◌}
use lib.Dec.{T}
use lib.Ieee.{Float, lt, le, eq}
use Rattle.gf.proofs.KeyLaws.{le-no-nan, lt→le, le_refl, le-both, le-or-lt, le_trans}
use Rattle.definitions.specs.Lists.{any}
use Rattle.laws.specs.list.Every.{Every}
use Rattle.laws.proofs.list.Tests.{or_l, or_r}
use Rattle.laws.proofs.list.Every.{every_map, every-zip}
use Rattle.laws.specs.list.Places.{Fits}
use Rattle.window.specs.Bounds.{LowerIs, UpperIs, In}

-- ---- one time more

pub in-every : (P : Float → Type 0) (x : Float) (l : List Float) → Every P l → In x l → P x
in-every P x [] h i = absurd i
in-every P x (y ∷ l) h (inl e) = subst P (sym e) h.0
in-every P x (y ∷ l) h (inr i) = in-every P x l h.1 i

pub every_in : (l : List Float) → Every (λ (x : Float). In x l) l
every_in [] = tt
every_in (y ∷ l) = (inl refl, every_map (λ (x : Float). In x l) (λ (x : Float). In x (y ∷ l)) (λ x i. inr i) l (every_in l))

pub in-any : (x : Float) (l : List Float) → T (eq x x) → In x l → T (any (λ (y : Float). eq y x) l)
in-any x [] h i = absurd i
in-any x (y ∷ l) h (inl e) = or_l (eq y x) (any (λ (z : Float). eq z x) l) (subst (λ (z : Float). T (eq z x)) e h)
in-any x (y ∷ l) h (inr i) = or_r (eq y x) (any (λ (z : Float). eq z x) l) (in-any x l h i)

-- ---- among doubles a time has neighbours, or none on a side

module _ (t : Float) (ft : Fits t) where
  module _ (x : Float) (l : List Float) (fx : Fits x) (f : Every Fits l) where
    behind : (m : Float) → T (any (λ (y : Float). eq y m) l) → T (any (λ (y : Float). eq y m) (x ∷ l))
    behind m h = or_r (eq x m) (any (λ (y : Float). eq y m) l) h

    -- x itself
    lower-here : T (le x t) → Every (λ (y : Float). T (le y t) → T (le y x)) l → LowerIs (x ∷ l) t (Some x)
    lower-here u h =
        let r = le_refl x fx (le-no-nan x t u).0 in
        record { fits = fx; listed = or_l (eq x x) (any (λ (y : Float). eq y x) l) (le-both x x fx fx r r); upto = u; last = (λ _. r, h) }

    upper-here : T (lt t x) → Every (λ (y : Float). T (lt t y) → T (le x y)) l → UpperIs (x ∷ l) t (Some x)
    upper-here u h =
        let r = le_refl x fx (le-no-nan t x (lt→le t x u)).1 in
        record { fits = fx; listed = or_l (eq x x) (any (λ (y : Float). eq y x) l) (le-both x x fx fx r r); above = u; first = (λ _. r, h) }

    lower-more : (b : Option Float) → LowerIs l t b → (c : Bool) → le x t ≡ c → (b : Option Float) × LowerIs (x ∷ l) t b
    lower-more None L true e = (Some x, lower-here (subst T (sym e) tt) (every_map (λ (y : Float). T (le y t) → ⊥) (λ (y : Float). T (le y t) → T (le y x)) (λ y c u. absurd (c u)) l L))
    lower-more None L false e = (None, (λ u. subst T e u, L))
    lower-more (Some m) L false e = (Some m, record { fits = L.fits; listed = behind m L.listed; upto = L.upto; last = (λ u. absurd (subst T e u), L.last) })
    lower-more (Some m) L true e =
        let u : T (le x t) = subst T (sym e) tt in
        elim (le-or-lt x m fx L.fits (le-no-nan x t u).0 (le-no-nan m t L.upto).0) [
          | inl h ↦ (Some m, record { fits = L.fits; listed = behind m L.listed; upto = L.upto; last = (λ _. h, L.last) })
          | inr h ↦ (Some x, lower-here u (every-zip Fits (λ (y : Float). T (le y t) → T (le y m)) (λ (y : Float). T (le y t) → T (le y x)) (λ y g q v. le_trans y m x g L.fits fx (q v) (lt→le m x h)) l f L.last))
        ]

    upper-more : (b : Option Float) → UpperIs l t b → (c : Bool) → lt t x ≡ c → (b : Option Float) × UpperIs (x ∷ l) t b
    upper-more None U true e = (Some x, upper-here (subst T (sym e) tt) (every_map (λ (y : Float). T (lt t y) → ⊥) (λ (y : Float). T (lt t y) → T (le x y)) (λ y c u. absurd (c u)) l U))
    upper-more None U false e = (None, (λ u. subst T e u, U))
    upper-more (Some m) U false e = (Some m, record { fits = U.fits; listed = behind m U.listed; above = U.above; first = (λ u. absurd (subst T e u), U.first) })
    upper-more (Some m) U true e =
        let u : T (lt t x) = subst T (sym e) tt in
        elim (le-or-lt m x U.fits fx (le-no-nan t m (lt→le t m U.above)).1 (le-no-nan t x (lt→le t x u)).1) [
          | inl h ↦ (Some m, record { fits = U.fits; listed = behind m U.listed; above = U.above; first = (λ _. h, U.first) })
          | inr h ↦ (Some x, upper-here u (every-zip Fits (λ (y : Float). T (lt t y) → T (le m y)) (λ (y : Float). T (lt t y) → T (le x y)) (λ y g q v. le_trans x m y fx U.fits g (lt→le x m h) (q v)) l f U.first))
        ]

  pub lower-there : (l : List Float) → Every Fits l → (b : Option Float) × LowerIs l t b
  lower-there [] f = (None, tt)
  lower-there (x ∷ l) f = let r = lower-there l f.1 in lower-more x l f.0 f.1 r.0 r.1 (le x t) refl

  pub upper-there : (l : List Float) → Every Fits l → (b : Option Float) × UpperIs l t b
  upper-there [] f = (None, tt)
  upper-there (x ∷ l) f = let r = upper-there l f.1 in upper-more x l f.0 f.1 r.0 r.1 (lt t x) refl
