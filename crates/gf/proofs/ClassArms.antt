-- The class of a double for each arm of `classify`: `Fields` at binary64. Assumes nothing.
use Rattle.std.proofs.Common.{◌≡◌, ℕ, ◌-◌, ◌%◌, ◌^◌, ◌<◌, ◌≤◌, T, eqb, sym, ap, ◌∙◌, lt_of_lt_of_le, le_of_suc-le-suc, zero-lt-suc, le_antisymm, arith, eq-eqb, ne_eqb}
use lib.Ieee.{Float, binary64, fits}
use Rattle.gf.specs.declared.class.Class.TheVariants.{Zero, Fraction, Whole, NotFinite}
use Rattle.gf.specs.declared.pattern.Fields.{Fields}
use Rattle.gf.specs.Doubles.{class_of, fields_of}
use Rattle.gf.proofs.Fields.{whole_or, exponent_of, digits_of, class-subnormal, class-below-one, class-with-point, class-without-point, class-not-finite}
use Rattle.gf.proofs.FieldsOf.{few-digits}

module _ (x : Float) (p : T (fits binary64 x)) (f : Fields) (e : f ≡ fields_of x) where
  exponent : exponent_of binary64 x ≡ f.exponent
  exponent = sym (ap (λ (g : Fields). g.exponent) e)

  digits : digits_of binary64 x ≡ f.fraction
  digits = sym (ap (λ (g : Fields). g.fraction) e)

  pub arm-nought : f.exponent ≡ 0 → f.fraction ≡ 0 → Zero ≡ class_of x
  arm-nought h k = sym (class-subnormal binary64 x p (exponent ∙ h) ∙ rw (eq-eqb (digits_of binary64 x) 0 (digits ∙ k)))

  pub arm-subnormal : f.exponent ≡ 0 → (f.fraction ≡ 0 → ⊥) → Fraction ≡ class_of x
  arm-subnormal h k = sym (class-subnormal binary64 x p (exponent ∙ h) ∙ rw (ne_eqb (digits_of binary64 x) 0 (λ z. k (sym digits ∙ z))))

  pub arm-below-one : (f.exponent ≡ 0 → ⊥) → f.exponent < 1023 → Fraction ≡ class_of x
  arm-below-one h k = sym (class-below-one binary64 x p f.exponent exponent (above_zero f.exponent h) k)
    where
      above_zero : (n : ℕ) → (n ≡ 0 → ⊥) → 0 < n
      above_zero n z = omega arith

  pub arm-with-point : 1023 ≤ f.exponent → f.exponent < 1075 → class_of x ≡ whole_or (eqb (f.fraction % 2 ^ (1075 - f.exponent)) 0)
  arm-with-point h k =
      class-with-point binary64 x p f.exponent exponent (lt_of_lt_of_le (zero-lt-suc 1022) h) h (le_of_suc-le-suc k)
      ∙ ap (λ (n : ℕ). whole_or (eqb (n % 2 ^ (1075 - f.exponent)) 0)) digits

  pub arm-without-point : 1075 ≤ f.exponent → f.exponent < 2047 → Whole ≡ class_of x
  arm-without-point h k = sym (class-without-point binary64 x p f.exponent exponent h k)

  pub arm-not-finite : 2047 ≤ f.exponent → NotFinite ≡ class_of x
  arm-not-finite h = sym (class-not-finite binary64 x p f.exponent exponent (le_antisymm (le_of_suc-le-suc (few-digits x f e).0) h))
