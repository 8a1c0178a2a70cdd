-- `template::clip_times` meets its contract: 2, 7, 8, 22, else the clip times. Assumes nothing.
use Prim.Native.Nat.{ℕ, ◌≤◌}
use mathlib.Core.Path.{◌≡◌, sym, subst, ◌∙◌}
use mathlib.Core.Bool.{false}
use native.Mathlib.Omega.{arith}
use lib.ListN.{length, take}
use lib.Seq.{length-take-le}
use Rattle.std.specs.Prelude.{Result, Err}
use Rattle.definitions.specs.declared.refusal.Refusal.{Refusal}
use Rattle.definitions.specs.Template.{promoted, times_unstorable, times_disordered}
use Rattle.template.specs.Expanding.{offset_of, SaysClipTimes}
use Rattle.clip.proofs.Laws.{lent}
use Rattle.clip.proofs.Preparing.{by-reason}
use Rattle.template.proofs.ClipTimes.{says-2, says-7, says-8, says-22, says_all}
use Rattle.template.proofs.clip_times.Goals.{In_ok-promoted, Else-is_disordered, Else-is_unstorable}
use Rattle.template.proofs.clip_times.Goals as goal

finite : (c : Else-is_unstorable) → times_unstorable c.args.times (offset_of c.args.times c.args.offset) ≡ false
finite c = sym c.is_unstorable.ensures ∙ c.if-is_unstorable.false

ordered : (c : Else-is_disordered) → times_disordered c.args.times (offset_of c.args.times c.args.offset) ≡ false
ordered c = sym c.is_disordered.ensures ∙ c.if-is_disordered.false

few : (c : In_ok-promoted) → length (promoted c.args.times) ≤ 256
few c = let p = c.in_ok-promoted.ensures in omega (arith, p.few, p.count)

pub returns-then-is_unstorable : goal.returns-then-is_unstorable
returns-then-is_unstorable c =
    let a = c.args in
    says-2 a.times (offset_of a.times a.offset) a.out.now (sym c.is_unstorable.ensures ∙ c.if-is_unstorable.true)

pub returns-then-is_disordered : goal.returns-then-is_disordered
returns-then-is_disordered c =
    let p = c in
    let a = p.args in
    says-7 a.times (offset_of a.times a.offset) a.out.now (finite (goal.at.returns-then-is_disordered p).Else-is_unstorable) (sym c.is_disordered.ensures ∙ c.if-is_disordered.true)

pub returns-in_err-promoted : goal.returns-in_err-promoted
returns-in_err-promoted c =
    let a = c.args in
    let o = offset_of a.times a.offset in
    let many = c.in_err-promoted.ensures in
    by-reason (λ (r : Result ℕ Refusal). SaysClipTimes a.times o a.out.now a.out.now r) _ _ c.from_residual.ensures.1
    (subst (λ (e : Refusal). SaysClipTimes a.times o a.out.now a.out.now (Err e)) (sym many.1) (says-8 a.times o a.out.now (finite (goal.at.returns-in_err-promoted c).Else-is_unstorable) (ordered (goal.at.returns-in_err-promoted c).Else-is_disordered) many.0))

pub returns-then-out-count : goal.returns-then-out-count
returns-then-out-count c =
    let r = c in
    let q = r in
    let p = q in
    let a = p.args in
    says-22 a.times (offset_of a.times a.offset) a.out.now (finite (goal.at.returns-then-out-count p).Else-is_unstorable) (ordered (goal.at.returns-then-out-count q).Else-is_disordered) (few (goal.at.returns-then-out-count r).In_ok-promoted) (omega (arith, c.if-out-count.true, r.in_ok-promoted.ensures.count))

clips-lent : (c : In_ok-promoted) → let p = c.in_ok-promoted.promoted in length (take p.count p.items) ≡ p.count
clips-lent c = let p = c.in_ok-promoted.promoted in lent 256 p.count p.items c.in_ok-promoted.ensures.long c.in_ok-promoted.ensures.few

pub slice_bounds-write_clip_times-end : goal.slice_bounds-write_clip_times-end
slice_bounds-write_clip_times-end c = sym (clips-lent (goal.at.slice_bounds-write_clip_times-end c).In_ok-promoted)

pub slice_bounds-write_clip_times-end-3 : goal.slice_bounds-write_clip_times-end-3
slice_bounds-write_clip_times-end-3 c = sym (length-take-le _ _ c.if-out-count.false)

pub write_clip_times-requires : goal.write_clip_times-requires
write_clip_times-requires c = length-take-le _ _ c.if-out-count.false ∙ sym (clips-lent (goal.at.write_clip_times-requires c).In_ok-promoted)

pub returns : goal.returns
returns c =
    let f = c in
    let r = f in
    let q = r in
    let p = q in
    let a = p.args in
    let w = c.write_clip_times in
    says_all a.times (offset_of a.times a.offset) a.out.now (finite (goal.at.returns p).Else-is_unstorable) (ordered (goal.at.returns q).Else-is_disordered) (few (goal.at.returns r).In_ok-promoted) _ _ _ r.in_ok-promoted.ensures.count r.in_ok-promoted.ensures.list w.ensures (omega (arith, f.if-out-count.false, r.in_ok-promoted.ensures.count))
