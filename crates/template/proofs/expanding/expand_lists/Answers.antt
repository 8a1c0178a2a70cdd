-- `template::expanding::expand_lists` meets its contract. Assumes nothing.
use mathlib.Core.Path.{sym, subst, ◌∙◌}
use native.Mathlib.Omega.{arith}
use lib.ListN.{length}
use Rattle.definitions.specs.ClipSet as Definitions
use Rattle.definitions.specs.Examining.{empty_set}
use Rattle.clip.specs.Storing.{Fitting, Stores}
use Rattle.clip.proofs.Stored.{sorted-is}
use Rattle.template.specs.Expanding.{offset_of}
use Rattle.template.proofs.Expansion.{expanded-is, few-knots}
use Rattle.template.proofs.expanding.expand_lists.Goals.{After-sort_lists-arg-4-1}
use Rattle.template.proofs.expanding.expand_lists.Goals as goal

-- lists of their lengths
fitting : (c : After-sort_lists-arg-4-1) → let w = c in let v = w in let k = v in let h = k in
    Fitting h.write_starts.new.to k.write_numbers.new.to v.write_knots.new.xs w.copy_from_slice.new.self h.args.blocks.now
fitting c =
    let w = c in
    let v = w in
    let k = v in
    let h = k in
    let s = h in
    let t = h.write_starts.auto.to ∙ s.requires.for-times in
    let n = k.write_numbers.auto.to ∙ s.requires.for-numbers in
    let x = v.write_knots.auto.xs ∙ s.requires.for-xs in
    let y = w.copy_from_slice.auto.self ∙ s.requires.for-ys in
    record { starts = t ∙ sym n; knots = x ∙ sym y; few-starts = omega (arith, s.requires.few); few-knots = omega (arith, few-knots s.args.offset (length s.args.ts.now) s.requires.few); few-blocks = s.requires.few-blocks }

pub sort_lists-requires : goal.sort_lists-requires
sort_lists-requires c = let f = fitting c in record { times_len = (f.starts, omega (arith, f.few-starts)); xs_len = (f.knots, omega (arith, f.few-knots)) }

pub check_and_store-requires : goal.check_and_store-requires
check_and_store-requires c =
    let f = fitting (goal.at.check_and_store-requires c).After-sort_lists-arg-4-1 in
    record {
      starts = c.sort_lists.auto.times ∙ f.starts ∙ sym c.sort_lists.auto.numbers;
      knots = c.sort_lists.auto.xs ∙ f.knots ∙ sym c.sort_lists.auto.ys;
      few-starts = omega (arith, c.sort_lists.auto.times, f.few-starts);
      few-knots = omega (arith, c.sort_lists.auto.xs, f.few-knots);
      few-blocks = f.few-blocks;
    }

pub shape_of-starts : goal.shape_of-starts
shape_of-starts c = c.sort_lists.auto.times ∙ c.write_starts.auto.to

pub shape_of-numbers : goal.shape_of-numbers
shape_of-numbers c = c.sort_lists.auto.numbers ∙ c.write_numbers.auto.to

pub shape_of-xs : goal.shape_of-xs
shape_of-xs c = c.sort_lists.auto.xs ∙ c.write_knots.auto.xs

pub shape_of-ys : goal.shape_of-ys
shape_of-ys c = c.sort_lists.auto.ys ∙ c.copy_from_slice.auto.self

pub returns : goal.returns
returns c =
    let o = c.sort_lists in
    let y = c.copy_from_slice in
    let x = c.write_knots in
    let n = c.write_numbers in
    let t = c.write_starts in
    let s = c in
    let a = s.args in
    let r = c.check_and_store in
    subst (λ (set : Definitions.ClipSet). Stores empty_set set r.result)
    (sorted-is (length a.ts.now) t.new.to o.new.times n.new.to o.new.numbers x.new.xs y.new.self o.new.xs o.new.ys a.blocks.now a.manifest o.ensures.numbers_value o.ensures.ys_value
    ∙ expanded-is a.times (offset_of a.times a.offset) a.ts.now t.new.to n.new.to a.numbers.now x.new.xs y.new.self a.blocks.now a.manifest
    t.ensures n.ensures s.requires.for-numbers x.ensures y.ensures.after)
    r.ensures
