-- `normal_form::normalize_time_samples` meets its contract: what the input alone refuses writes nothing, and the rest is `normalize_into`'s promise. Assumes nothing.
use Rattle.std.proofs.lemmas.Result.{err_from_is_err_and}
use Prim.Native.Nat.{◌≤◌}
use mathlib.Core.Path.{◌≡◌, sym}
use lib.ListN.{length}
use lib.Seq.{length-take-le}
use Rattle.normal_form.specs.Normalizes.{listed_number}
use Rattle.definitions.proofs.Refused.{not-zero}
use Rattle.normal_form.proofs.Normal.{refused}
use Rattle.normal_form.proofs.Written.{untouched, long}
use Rattle.definitions.specs.Moments.{outputs}
use Rattle.normal_form.proofs.normalize_time_samples.Goals.{In_ok-check_listed}
use Rattle.normal_form.proofs.normalize_time_samples.Goals as goal

pub returns-in_err-check_listed : goal.returns-in_err-check_listed
returns-in_err-check_listed c =
    let e = c.args in
    let p = err_from_is_err_and c.from_residual.result c.from_residual.ensures.1 in
    rw (p.1, p.2)
    (untouched e.times.now e.values.now e.marks.now (outputs e.outtimes.now e.outvalues.now e.outmarks.now) _
    (refused e.times.now e.values.now e.marks.now _ _ c.in_err-check_listed.ensures (not-zero _)))

passed : (c : In_ok-check_listed) → listed_number c.args.times.now c.args.values.now c.args.marks.now ≡ 0
passed c = sym c.in_ok-check_listed.ensures

few : (c : In_ok-check_listed) → length c.args.times.now ≤ 4096
few c = (long _ _ _ (passed c)).0

pub slice_bounds-places-end : goal.slice_bounds-places-end
slice_bounds-places-end c = few c

pub slice_bounds-normalize_into-end : goal.slice_bounds-normalize_into-end
slice_bounds-normalize_into-end c = sym (length-take-le _ _ (few (goal.at.slice_bounds-normalize_into-end c).In_ok-check_listed))

pub slice_bounds-firsts-end : goal.slice_bounds-firsts-end
slice_bounds-firsts-end c = few (goal.at.slice_bounds-firsts-end c).In_ok-check_listed

pub slice_bounds-normalize_into-end-2 : goal.slice_bounds-normalize_into-end-2
slice_bounds-normalize_into-end-2 c = sym (length-take-le _ _ (few (goal.at.slice_bounds-normalize_into-end-2 c).In_ok-check_listed))

pub slice_bounds-lasts-end : goal.slice_bounds-lasts-end
slice_bounds-lasts-end c = few (goal.at.slice_bounds-lasts-end c).In_ok-check_listed

pub slice_bounds-normalize_into-end-3 : goal.slice_bounds-normalize_into-end-3
slice_bounds-normalize_into-end-3 c = sym (length-take-le _ _ (few (goal.at.slice_bounds-normalize_into-end-3 c).In_ok-check_listed))

pub normalize_into-requires : goal.normalize_into-requires
normalize_into-requires c =
    let e = c in
    (passed (goal.at.normalize_into-requires e).In_ok-check_listed, record { places-long = length-take-le _ _ (few (goal.at.normalize_into-requires e).In_ok-check_listed); first-long = length-take-le _ _ (few (goal.at.normalize_into-requires e).In_ok-check_listed); last-long = length-take-le _ _ (few (goal.at.normalize_into-requires e).In_ok-check_listed) })
