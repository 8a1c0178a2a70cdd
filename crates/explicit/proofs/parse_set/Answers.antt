-- `explicit::parse_set` meets its contract: the numbers of its fields, or those of the settled lists. Assumes nothing.
use mathlib.Core.Path.{◌≡◌, sym, subst}
use native.Mathlib.Omega.{arith}
use lib.Dec.{T}
use lib.Seq.{length-take-le}
use Rattle.definitions.specs.Explicit.{ExplicitFields}
use Rattle.laws.proofs.set.SoundExplicit.{ExplicitLimits, ExplicitFits}
use Rattle.clip.specs.Holding.{manifest}
use Rattle.explicit.specs.Parsing.{explicit_fields, fields_number}
use Rattle.clip.proofs.Laws.{all_fit}
use Rattle.clip.proofs.Preparing.{same-reason}
use Rattle.explicit.proofs.Acceptance.{fields_fit, parse-refuses, parse-settles}
use Rattle.explicit.proofs.parse_set.Goals.{After-shared_slice_known-5-1, In_ok-check_fields, Start as At-start}
use Rattle.explicit.proofs.parse_set.Goals as goal

abbrev fields : At-start → ExplicitFields
fields c = explicit_fields c.args.clips c.args.starts.now c.args.numbers.now c.args.xs.now c.args.ys.now c.args.blocks.now (manifest c.args.default c.args.interpolate)

none : (c : In_ok-check_fields) → fields_number (fields (goal.at.In_ok-check_fields c).Start) ≡ 0
none c = sym c.in_ok-check_fields.ensures

limits : (c : In_ok-check_fields) → ExplicitLimits (fields (goal.at.In_ok-check_fields c).Start)
limits c = fields_fit (fields (goal.at.In_ok-check_fields c).Start) (none c)

-- what owning `f64`s tells: the format holds them
fitting : (c : After-shared_slice_known-5-1) → ExplicitFits (fields (goal.at.After-shared_slice_known-5-1 c).Start)
fitting c =
    let a = c.args in
    record {
      start_times = all_fit a.starts.now c.shared_slice_known-1.given;
      knot_x = all_fit a.xs.now c.shared_slice_known-3-1.given;
      knot_y = all_fit a.ys.now c.shared_slice_known-4-1.given;
      blocks = all_fit a.blocks.now c.shared_slice_known-5-1.given;
      value = subst T (sym c.well_formed.1.1.1.1.1.1.0.1.1.1.0.1) tt;
    }

pub returns-in_err-check_fields : goal.returns-in_err-check_fields
returns-in_err-check_fields c =
    parse-refuses (fields (goal.at.returns-in_err-check_fields c).Start) _ _ (same-reason _ _ c.from_residual.ensures.1) c.in_err-check_fields.ensures

pub slice_bounds-times-end : goal.slice_bounds-times-end
slice_bounds-times-end c = omega (arith, (limits c).starts)

pub slice_bounds-parse_lists-end : goal.slice_bounds-parse_lists-end
slice_bounds-parse_lists-end c = sym (length-take-le _ _ (limits (goal.at.slice_bounds-parse_lists-end c).In_ok-check_fields).starts)

pub slice_bounds-indices-end : goal.slice_bounds-indices-end
slice_bounds-indices-end c = omega (arith, (limits (goal.at.slice_bounds-indices-end c).In_ok-check_fields).starts)

pub slice_bounds-parse_lists-end-2 : goal.slice_bounds-parse_lists-end-2
slice_bounds-parse_lists-end-2 c = sym (length-take-le _ _ (limits (goal.at.slice_bounds-parse_lists-end-2 c).In_ok-check_fields).starts)

pub slice_bounds-us-end : goal.slice_bounds-us-end
slice_bounds-us-end c = omega (arith, (limits (goal.at.slice_bounds-us-end c).In_ok-check_fields).knots)

pub slice_bounds-parse_lists-end-3 : goal.slice_bounds-parse_lists-end-3
slice_bounds-parse_lists-end-3 c = sym (length-take-le _ _ (limits (goal.at.slice_bounds-parse_lists-end-3 c).In_ok-check_fields).knots)

pub slice_bounds-vs-end : goal.slice_bounds-vs-end
slice_bounds-vs-end c = omega (arith, (limits (goal.at.slice_bounds-vs-end c).In_ok-check_fields).knots)

pub slice_bounds-parse_lists-end-4 : goal.slice_bounds-parse_lists-end-4
slice_bounds-parse_lists-end-4 c = sym (length-take-le _ _ (limits (goal.at.slice_bounds-parse_lists-end-4 c).In_ok-check_fields).knots)

pub parse_lists-requires : goal.parse_lists-requires
parse_lists-requires c =
    let l = limits (goal.at.parse_lists-requires c).In_ok-check_fields in record {
      fact_1 = none (goal.at.parse_lists-requires c).In_ok-check_fields;
      fact_2 = record {
        for-times = length-take-le _ _ l.starts;
        for-indices = length-take-le _ _ l.starts;
        for-xs = length-take-le _ _ l.knots;
        for-ys = length-take-le _ _ l.knots;
      };
    }

pub returns : goal.returns
returns c =
    let e = c in
    parse-settles (fields (goal.at.returns e).Start) c.parse_lists.result (fitting (goal.at.returns e).After-shared_slice_known-5-1) (none (goal.at.returns e).In_ok-check_fields) c.parse_lists.ensures
