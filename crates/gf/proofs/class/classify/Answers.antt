-- `gf::class::classify` meets its contract, by a law for each arm of the match. Assumes nothing.
use Rattle.std.proofs.Common.{◌≡◌, Bool, cond, T, arith, sym, ap, ◌∙◌, subst}
use lib.Ieee.{binary64, fits}
use Rattle.gf.specs.declared.class.Class.TheVariants.{Whole, Fraction}
use Rattle.gf.specs.Doubles.{class_of}
use Rattle.gf.proofs.Tests.{nan-only}
use Rattle.gf.proofs.ClassArms.{arm-nought, arm-subnormal, arm-below-one, arm-with-point, arm-without-point, arm-not-finite}
use Rattle.gf.proofs.class.classify.Goals.{After-ends_in_zeros, After-fields_of-f}
use Rattle.gf.proofs.class.classify.Goals as goal

-- what owning an `f64` tells: the format holds it
held : (c : After-fields_of-f) → T (fits binary64 c.args.x)
held c = subst T (sym c.well_formed.0.1) tt

pub returns-then-is_nan : goal.returns-then-is_nan
unfolding class_of
returns-then-is_nan c = ap class_of (sym (nan-only c.args.x (sym c.is_nan.ensures.value ∙ c.if-is_nan.true)))

pub returns-then-f-eq0 : goal.returns-then-f-eq0
returns-then-f-eq0 c =
    let at = c.before.before.before in
    arm-nought at.args.x (held at) at.fields_of-f.result at.fields_of-f.ensures c.in-0.is c.if-f-eq0.true

pub returns-else-f-eq0 : goal.returns-else-f-eq0
returns-else-f-eq0 c =
    let at = c.before.before.before in
    arm-subnormal at.args.x (held at) at.fields_of-f.result at.fields_of-f.ensures c.in-0.is c.if-f-eq0.false

pub returns-in-1-to-1022 : goal.returns-in-1-to-1022
returns-in-1-to-1022 c =
    let at = c.before in
    arm-below-one at.args.x (held at) at.fields_of-f.result at.fields_of-f.ensures (λ e. omega arith) (omega arith)

-- where the point stands within the digits, the class is what `ends_in_zeros` answers
by_digits : (c : After-ends_in_zeros) → class_of c.args.x ≡ cond c.ends_in_zeros.result Whole Fraction
by_digits c =
    let at = c.before.before.before in
    arm-with-point at.args.x (held at) at.fields_of-f.result at.fields_of-f.ensures (omega arith) (omega arith)
    ∙ ap (λ (b : Bool). cond b Whole Fraction) (sym c.ends_in_zeros.ensures)

pub returns-then-ends_in_zeros : goal.returns-then-ends_in_zeros
returns-then-ends_in_zeros c = sym (by_digits c.before ∙ ap (λ (b : Bool). cond b Whole Fraction) c.if-ends_in_zeros.true)

pub returns-else-ends_in_zeros : goal.returns-else-ends_in_zeros
returns-else-ends_in_zeros c = sym (by_digits c.before ∙ ap (λ (b : Bool). cond b Whole Fraction) c.if-ends_in_zeros.false)

pub returns-in-1075-to-2046 : goal.returns-in-1075-to-2046
returns-in-1075-to-2046 c =
    let at = c.before in
    arm-without-point at.args.x (held at) at.fields_of-f.result at.fields_of-f.ensures (omega arith) (omega arith)

pub returns-in_default : goal.returns-in_default
returns-in_default c =
    let at = c.before in
    arm-not-finite at.args.x (held at) at.fields_of-f.result at.fields_of-f.ensures (omega arith)
