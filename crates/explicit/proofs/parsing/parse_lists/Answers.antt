-- `explicit::parsing::parse_lists` meets its contract. Assumes nothing.
use mathlib.Core.Path.{sym, subst, ◌∙◌}
use native.Mathlib.Omega.{arith}
use Rattle.definitions.specs.ClipSet as Definitions
use Rattle.definitions.specs.Explicit.{ExplicitFields}
use Rattle.laws.proofs.set.SoundExplicit.{ExplicitLimits}
use Rattle.definitions.specs.Examining.{empty_set}
use Rattle.clip.specs.Storing.{Fitting, Stores}
use Rattle.clip.proofs.Stored.{sorted-is}
use Rattle.explicit.specs.Parsing.{explicit_fields}
use Rattle.explicit.proofs.Indices.{clips-indexed}
use Rattle.explicit.proofs.Acceptance.{fields_fit, fields-clips, explicit-is}
use Rattle.explicit.proofs.parsing.parse_lists.Goals.{After-sort_lists-arg-4-1, Start as At-start}
use Rattle.explicit.proofs.parsing.parse_lists.Goals as goal

abbrev fields : At-start → ExplicitFields
fields c = explicit_fields c.args.clips c.args.starts.now c.args.numbers.now c.args.xs.now c.args.ys.now c.args.blocks.now c.args.manifest

limits : (c : At-start) → ExplicitLimits (fields c)
limits c = fields_fit (fields c) c.requires.fact_1

pub copy_clips-requires : goal.copy_clips-requires
copy_clips-requires c =
    let s = c in
    record { fact_1 = clips-indexed s.args.clips s.args.numbers.now (omega arith) (fields-clips (fields (goal.at.copy_clips-requires s).Start) s.requires.fact_1); fact_2 = s.requires.fact_2.for-indices ∙ (limits (goal.at.copy_clips-requires s).Start).starts-paired }

pub copy_from_slice-requires-3 : goal.copy_from_slice-requires-3
copy_from_slice-requires-3 c = let s = c in s.requires.fact_2.for-ys ∙ (limits (goal.at.copy_from_slice-requires-3 s).Start).knots-paired

-- lists of their lengths
fitting : (c : After-sort_lists-arg-4-1) → let w = c in let v = w in let k = v in let h = k in
    Fitting h.copy_from_slice.new.self k.copy_clips.new.to v.copy_from_slice-2.new.self w.copy_from_slice-3.new.self h.args.blocks.now
fitting c =
    let w = c in
    let v = w in
    let k = v in
    let h = k in
    let s = h in
    let t = h.copy_from_slice.auto.self ∙ s.requires.fact_2.for-times in
    let i = k.copy_clips.auto.to ∙ s.requires.fact_2.for-indices in
    let x = v.copy_from_slice-2.auto.self ∙ s.requires.fact_2.for-xs in
    let y = w.copy_from_slice-3.auto.self ∙ s.requires.fact_2.for-ys in
    let l = limits (goal.at.After-sort_lists-arg-4-1 s).Start in
    record { starts = t ∙ sym i; knots = x ∙ sym y; few-starts = omega arith; few-knots = omega arith; few-blocks = l.blocks }

pub sort_lists-requires : goal.sort_lists-requires
sort_lists-requires c = let f = fitting c in record { times_len = (f.starts, omega (arith, f.few-starts)); xs_len = (f.knots, omega (arith, f.few-knots)) }

pub check_and_store-requires : goal.check_and_store-requires
check_and_store-requires c =
    let f = fitting (goal.at.check_and_store-requires c).After-sort_lists-arg-4-1 in
    record {
      starts = c.sort_lists.auto.times ∙ f.starts ∙ sym c.sort_lists.auto.numbers;
      knots = c.sort_lists.auto.xs ∙ f.knots ∙ sym c.sort_lists.auto.ys;
      few-starts = omega (arith, c.sort_lists.auto.times, f.few-starts);
      few-knots = omega (arith, c.sort_lists.auto.xs, f.few-knots);
      few-blocks = f.few-blocks;
    }

pub shape_of-times : goal.shape_of-times
shape_of-times c = c.sort_lists.auto.times ∙ c.copy_from_slice.auto.self

pub shape_of-indices : goal.shape_of-indices
shape_of-indices c = c.sort_lists.auto.numbers ∙ c.copy_clips.auto.to

pub shape_of-us : goal.shape_of-us
shape_of-us c = c.sort_lists.auto.xs ∙ c.copy_from_slice-2.auto.self

pub shape_of-vs : goal.shape_of-vs
shape_of-vs c = c.sort_lists.auto.ys ∙ c.copy_from_slice-3.auto.self

pub returns : goal.returns
returns c =
    let o = c.sort_lists in
    let y = c.copy_from_slice-3 in
    let x = c.copy_from_slice-2 in
    let i = c.copy_clips in
    let t = c.copy_from_slice in
    let r = c.check_and_store in
    let a = c.args in
    subst (λ (set : Definitions.ClipSet). Stores empty_set set r.result)
    (sorted-is a.clips t.new.self o.new.times i.new.to o.new.numbers x.new.self y.new.self o.new.xs o.new.ys a.blocks.now a.manifest o.ensures.numbers_value o.ensures.ys_value
    ∙ explicit-is a.clips a.starts.now t.new.self a.numbers.now i.new.to a.xs.now x.new.self a.ys.now y.new.self a.blocks.now a.manifest t.ensures.after i.ensures x.ensures.after y.ensures.after)
    r.ensures
