-- `sdf::scans::sound` meets its contract: the clips before an end are walked, and the ends from it on answer whether all close the list. Assumes nothing.
use Prim.Native.Nat.{ℕ, ◌+◌}
use mathlib.Core.Path.{◌≡◌, refl, sym, ap, ◌∙◌, subst}
use mathlib.Core.Bool.{Bool, false, not, ◌&&◌}
use native.Mathlib.Omega.{arith}
use borrow.Author.Tests.{eq-eqb, ne_eqb}
use lib.Dec.{eqb}
use lib.ListN.{length, get_or}
use Rattle.definitions.specs.ClipSet.{any_unstorable}
use Rattle.definitions.specs.Samples.{closes, clip_begin}
use Rattle.sdf.specs.Parts.{parts_ascend}
use Rattle.sdf.proofs.Falls.{behind-one}
use Rattle.sdf.proofs.Lent.{every-fits}
use Rattle.sdf.proofs.Scanned.{closes_before, closes-beyond, closes-next, closes-end, begin-next, and_no}
use Rattle.sdf.proofs.Sound.{Walked, none-walked, one-walked, all-walked, bad-bound}
use Rattle.sdf.proofs.scans.sound.Goals.{
  then-end-begin-via-then-end-begin,
  then-end-begin-via-else-end-begin+then-end-times,
  then-end-begin-via-else-end-begin+else-end-times+then-unstorable_bound,
}
use Rattle.sdf.proofs.scans.sound.Goals as goal

pub loop-end-init : goal.loop-end-init
unfolding clip_begin
loop-end-init c = (omega arith, refl, refl, none-walked c.args.times.now c.args.ends.now)

-- what is promised, once it is known whether the ends close
unclosed : (closing rest : Bool) → closing ≡ false → false ≡ (closing && rest)
unclosed closing rest e = sym (ap (λ (b : Bool). b && rest) e)

pub returns-then-end-begin : goal.returns-then-end-begin
returns-then-end-begin c =
    let k = c.loop-end in
    let a = c.args in
    let n = length a.times.now in
    let ascend = parts_ascend a.times.now a.ends.now in
    let rest = ascend && not (any_unstorable a.times.now) in
    elim c.then-end-begin.branch [
      | then-end-begin-via-then-end-begin w ↦ unclosed _ rest (k.invariant.2 ∙ closes_before a.ends.now n k.begin k.end-index (omega arith) w.if-end-begin.true)
      | then-end-begin-via-else-end-begin+then-end-times w ↦ unclosed _ rest (k.invariant.2 ∙ closes-beyond a.ends.now n k.begin k.end-index (omega arith) w.if-end-times.true)
      | then-end-begin-via-else-end-begin+else-end-times+then-unstorable_bound w ↦
          let closing = closes 0 a.ends.now n in
          let bad = bad-bound a.times.now k.begin (get_or a.ends.now k.end-index 0) w.if-end-times.false (sym w.unstorable_bound.ensures ∙ w.if-unstorable_bound.true) in
          sym (ap (λ (b : Bool). closing && (ascend && not b)) bad ∙ ap (λ (b : Bool). closing && b) (and_no ascend) ∙ and_no closing)
    ]

pub loop-end-preserved : goal.loop-end-preserved
loop-end-preserved c =
    let k = c.loop-end in
    let a = c.args in
    let ts = a.times.now in
    let e = get_or a.ends.now k.end-index 0 in
    let fit = every-fits ts c.type_inv.times in
    let good = sym c.unstorable_bound.ensures ∙ c.if-unstorable_bound.false in
    let walked = one-walked ts a.ends.now k.between k.begin k.end-index fit k.invariant.1 c.if-end-begin.false c.if-end-times.false good k.invariant.3 in (
      omega (arith, k.invariant.0, c.fall_behind-between.ensures, behind-one ts k.begin e),
      sym (begin-next a.ends.now k.end-index),
      k.invariant.2 ∙ closes-next a.ends.now (length ts) k.begin k.end-index (omega arith) c.if-end-begin.false,
      subst (λ (m : ℕ). Walked ts a.ends.now (k.between + m) e (k.end-index + 1)) (sym c.fall_behind-between.ensures) walked,
    )

pub returns-then-begin-times : goal.returns-then-begin-times
returns-then-begin-times c =
    let k = c.loop-end in
    let a = c.args in
    let n = length a.times.now in
    let done : k.end-index ≡ length a.ends.now = omega arith in
    let closed = k.invariant.2 ∙ closes-end a.ends.now n k.begin k.end-index (omega arith) ∙ eq-eqb k.begin n c.if-begin-times.true in
    let walked = subst (λ (i : ℕ). Walked a.times.now a.ends.now k.between k.begin i) done k.invariant.3 in
    ap (λ (m : ℕ). eqb m k.between) c.falls-all.ensures
    ∙ all-walked a.times.now a.ends.now k.between k.begin c.if-begin-times.true walked
    ∙ sym (ap (λ (b : Bool). b && (parts_ascend a.times.now a.ends.now && not (any_unstorable a.times.now))) closed)

pub returns-else-begin-times : goal.returns-else-begin-times
returns-else-begin-times c =
    let k = c.loop-end in
    let a = c.args in
    let n = length a.times.now in
    let other = ne_eqb k.begin n (λ e. omega (arith, c.if-begin-times.false)) in
    other ∙ unclosed _ (parts_ascend a.times.now a.ends.now && not (any_unstorable a.times.now)) (k.invariant.2 ∙ closes-end a.ends.now n k.begin k.end-index (omega arith) ∙ other)
