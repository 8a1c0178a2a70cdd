-- `template::expand_template` meets its contract: the numbers of its fields, 8, or those of the settled lists. Assumes nothing.
use Prim.Native.Nat.{◌≤◌}
use Rattle.std.specs.Prelude.{Result, Err}
use Rattle.definitions.specs.declared.refusal.Refusal.{Refusal}
use Rattle.clip.specs.declared.ClipSet.{ClipSet}
use Rattle.clip.specs.Preparing.{Examines}
use Rattle.definitions.specs.Examining.{by_template}
use mathlib.Core.Path.{◌≡◌, sym, ap, subst, ◌∙◌}
use mathlib.Core.List.{List}
use native.Mathlib.Omega.{arith}
use lib.Dec.{T}
use lib.ListN.{length, take}
use lib.Seq.{length-take-le}
use lib.Ieee.{Float}
use Rattle.definitions.specs.Template.{TemplateFields, active_offset}
use Rattle.laws.proofs.set.SoundTemplate.{TemplateFits}
use Rattle.clip.specs.Storing.{Stores}
use Rattle.definitions.specs.Examining.{empty_set}
use Rattle.clip.specs.Holding.{manifest}
use Rattle.template.specs.Expanding.{template_fields, template_fields_number, knot_count, expanded_set}
use Rattle.clip.proofs.Laws.{all_fit, lent}
use Rattle.clip.proofs.Preparing.{same-reason, by-reason}
use Rattle.template.proofs.Expansion.{few-knots}
use Rattle.template.proofs.Templates.{few-blocks, template-refuses, template-beyond, template-settles}
use Rattle.template.proofs.expand_template.Goals.{After-knot_count-m, After-shared_slice_known-2-1, In_ok-check_fields, Start as At-start}
use Rattle.template.proofs.expand_template.Goals as goal

abbrev fields : At-start → TemplateFields
fields c = template_fields c.args.template.now c.args.times c.args.offset c.args.blocks.now (manifest c.args.default c.args.interpolate)

none : (c : In_ok-check_fields) → template_fields_number (fields (goal.at.In_ok-check_fields c).Start) ≡ 0
none c = sym c.in_ok-check_fields.ensures

-- the clips and the knots have room
few-lent : (c : After-knot_count-m) → c.knot_count-m.result ≤ 512
few-lent c = let p = c.in_ok-promoted in omega (arith, c.knot_count-m.ensures, few-knots c.args.offset p.promoted.count p.ensures.few)

clips-lent : (c : After-knot_count-m) → let p = c.in_ok-promoted.promoted in length (take p.count p.items) ≡ p.count
clips-lent c = let p = c.in_ok-promoted in lent 256 p.promoted.count p.promoted.items p.ensures.long p.ensures.few

-- what owning `f64`s tells: the format holds them
fitting : (c : After-shared_slice_known-2-1) → TemplateFits (fields (goal.at.After-shared_slice_known-2-1 c).Start)
fitting c = record { blocks = all_fit c.args.blocks.now c.shared_slice_known-2-1.given; value = subst T (sym c.well_formed.1.1.1.1.0.1.1.1.0.1) tt }

pub returns-in_err-check_fields : goal.returns-in_err-check_fields
returns-in_err-check_fields c =
    template-refuses (fields (goal.at.returns-in_err-check_fields c).Start) _ _ (same-reason _ _ c.from_residual.ensures.1) c.in_err-check_fields.ensures

pub returns-in_err-promoted : goal.returns-in_err-promoted
returns-in_err-promoted c =
    let f = fields (goal.at.returns-in_err-promoted c).Start in
    let many = c.in_err-promoted.ensures in
    by-reason (λ (r : Result ClipSet Refusal). Examines (by_template f) r) _ _ c.from_residual-in_err-promoted.ensures.1
    (subst (λ (e : Refusal). Examines (by_template f) (Err e)) (sym many.1) (template-beyond f (none (goal.at.returns-in_err-promoted c).In_ok-check_fields) many.0))

pub slice_bounds-expand_lists-end : goal.slice_bounds-expand_lists-end
slice_bounds-expand_lists-end c = sym (clips-lent (goal.at.slice_bounds-expand_lists-end c).After-knot_count-m)

pub slice_bounds-starts-end : goal.slice_bounds-starts-end
slice_bounds-starts-end c = omega (arith, c.in_ok-promoted.ensures.few)

pub slice_bounds-expand_lists-end-2 : goal.slice_bounds-expand_lists-end-2
slice_bounds-expand_lists-end-2 c = sym (length-take-le _ _ c.in_ok-promoted.ensures.few)

pub slice_bounds-numbers-end : goal.slice_bounds-numbers-end
slice_bounds-numbers-end c = omega (arith, c.in_ok-promoted.ensures.few)

pub slice_bounds-expand_lists-end-3 : goal.slice_bounds-expand_lists-end-3
slice_bounds-expand_lists-end-3 c = sym (length-take-le _ _ c.in_ok-promoted.ensures.few)

pub slice_bounds-xs-end : goal.slice_bounds-xs-end
slice_bounds-xs-end c = omega (arith, few-lent (goal.at.slice_bounds-xs-end c).After-knot_count-m)

pub slice_bounds-expand_lists-end-4 : goal.slice_bounds-expand_lists-end-4
slice_bounds-expand_lists-end-4 c = sym (length-take-le _ _ (few-lent (goal.at.slice_bounds-expand_lists-end-4 c).After-knot_count-m))

pub slice_bounds-ys-end : goal.slice_bounds-ys-end
slice_bounds-ys-end c = omega (arith, few-lent (goal.at.slice_bounds-ys-end c).After-knot_count-m)

pub slice_bounds-expand_lists-end-5 : goal.slice_bounds-expand_lists-end-5
slice_bounds-expand_lists-end-5 c = sym (length-take-le _ _ (few-lent (goal.at.slice_bounds-expand_lists-end-5 c).After-knot_count-m))

pub expand_lists-requires : goal.expand_lists-requires
expand_lists-requires c =
    let b = c in
    let n = b.in_ok-promoted.promoted.count in
    let t = clips-lent (goal.at.expand_lists-requires b).After-knot_count-m in
    let k : b.knot_count-m.result ≡ knot_count b.args.offset (length (take n b.in_ok-promoted.promoted.items)) = b.knot_count-m.ensures ∙ ap (knot_count b.args.offset) (sym t) in
    record {
      for-times = length-take-le _ _ b.in_ok-promoted.ensures.few ∙ sym t;
      for-numbers = length-take-le _ _ b.in_ok-promoted.ensures.few ∙ sym t;
      for-xs = length-take-le _ _ (few-lent (goal.at.expand_lists-requires b).After-knot_count-m) ∙ k;
      for-ys = length-take-le _ _ (few-lent (goal.at.expand_lists-requires b).After-knot_count-m) ∙ k;
      few = omega (arith, t, b.in_ok-promoted.ensures.few);
      few-blocks = few-blocks (fields (goal.at.expand_lists-requires b).Start) (none (goal.at.expand_lists-requires b).In_ok-check_fields);
    }

pub returns : goal.returns
returns c =
    let b = c in
    let s = b in
    let f = fields (goal.at.returns s).Start in
    let r = c.expand_lists in
    template-settles f r.result (fitting (goal.at.returns b).After-shared_slice_known-2-1) (none (goal.at.returns b).In_ok-check_fields) (omega (arith, b.in_ok-promoted.ensures.count, b.in_ok-promoted.ensures.few))
    (subst (λ (ts : List Float). Stores empty_set (expanded_set ts s.args.times (active_offset f) s.args.blocks.now (manifest s.args.default s.args.interpolate)) r.result) b.in_ok-promoted.ensures.list r.ensures)
