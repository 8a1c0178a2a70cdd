-- `gf::class::is_whole` meets its contract: zero and the class of the whole numbers are what has no part below 1. Assumes nothing.
use Rattle.std.proofs.Common.{◌≡◌, ℕ, zero, suc, ◌*◌, ◌%◌, Bool, true, false, cond, eqb, sym, refl, ap, ◌∙◌, ◌⊎◌, inl, inr, zero-mul}
use native.Mathlib.Nat.{zero-mod}
use lib.Dec.{eqb-suc-zero}
use lib.Ieee.{Float, nan, inf, fin, up, down}
use Rattle.gf.specs.declared.class.Class.{Class}
use Rattle.gf.specs.declared.class.Class.TheVariants.{Zero, Fraction, Whole, NotFinite}
use Rattle.gf.specs.Doubles.{is_whole, class_of}
use Rattle.gf.proofs.class.is_whole.Goals as goal

abbrev whole_class : Class → Bool
whole_class Zero = true
whole_class Fraction = false
whole_class Whole = true
whole_class NotFinite = false

by-class : (x : Float) → is_whole x ≡ whole_class (class_of x)
unfolding is_whole class_of
by-class nan = refl
by-class (inf s) = refl
by-class (fin s zero e) = ap (λ (n : ℕ). eqb n 0) (ap (λ (n : ℕ). n % down e) (zero-mul (up e)) ∙ zero-mod (down e))
by-class (fin s (suc m) e) = rw (eqb-suc-zero m) (either (eqb (suc m * up e % down e) 0))
  where
    either : (b : Bool) → b ≡ whole_class (cond b Whole Fraction)
    either true = refl
    either false = refl

either : (k : Class) → (k ≡ Zero) ⊎ (k ≡ Whole) → whole_class k ≡ true
either k (inl e) = ap whole_class e
either k (inr e) = ap whole_class e

neither : (k : Class) → (k ≡ Zero → ⊥) → (k ≡ Whole → ⊥) → whole_class k ≡ false
neither Zero z w = absurd (z refl)
neither Fraction z w = refl
neither Whole z w = absurd (w refl)
neither NotFinite z w = refl

pub returns-in-Zero : goal.returns-in-Zero
returns-in-Zero c = sym (by-class c.args.x ∙ ap whole_class (sym c.classify.ensures) ∙ either c.classify.result c.in-Zero.is)

pub returns-in_default : goal.returns-in_default
returns-in_default c = sym (by-class c.args.x ∙ ap whole_class (sym c.classify.ensures) ∙ neither c.classify.result c.in_default.not-Zero c.in_default.not-Whole)
