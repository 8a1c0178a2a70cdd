-- `gf::is_finite` meets its contract: every class but one is finite. Assumes nothing.
use Rattle.std.proofs.Common.{◌≡◌, Bool, true, false, cond, not, eqb, sym, refl, ap, ◌∙◌}
use lib.Ieee.{Float, nan, inf, fin}
use lib.Ieee.Scale.{finite}
use Rattle.gf.specs.declared.class.Class.{Class}
use Rattle.gf.specs.declared.class.Class.TheVariants.{Zero, Fraction, Whole, NotFinite}
use Rattle.gf.specs.Doubles.{is_whole, class_of}
use Rattle.gf.proofs.is_finite.Goals.{in-NotFinite, in_default}
use Rattle.gf.proofs.is_finite.Goals as goal

abbrev finite_class : Class → Bool
finite_class Zero = true
finite_class Fraction = true
finite_class Whole = true
finite_class NotFinite = false

by-class : (x : Float) → finite x ≡ finite_class (class_of x)
unfolding class_of
by-class nan = refl
by-class (inf s) = refl
by-class (fin s m e) = any (eqb m 0) (is_whole (fin s m e))
  where
    any : (z w : Bool) → true ≡ finite_class (cond z Zero (cond w Whole Fraction))
    any true w = refl
    any false true = refl
    any false false = refl

others : (k : Class) → (k ≡ NotFinite → ⊥) → finite_class k ≡ true
others Zero n = refl
others Fraction n = refl
others Whole n = refl
others NotFinite n = absurd (n refl)

pub returns : goal.returns
returns c =
    let told : finite_class c.classify.result ≡ finite c.args.x = sym (by-class c.args.x ∙ ap finite_class (sym c.classify.ensures)) in
    elim c.match-matches.branch [
      | in-NotFinite w ↦ ap not w.matches-is ∙ sym (ap finite_class w.in-NotFinite.is) ∙ told
      | in_default w ↦ ap not w.matches-is ∙ sym (others c.classify.result w.in_default.not-NotFinite) ∙ told
    ]
