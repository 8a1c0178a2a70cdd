-- `fill::fill_in` meets its contract. Assumes nothing.
use mathlib.Core.Path.{sym, subst}
use mathlib.Core.List.{List}
use Prim.Native.Nat.{ℕ, ◌≤◌}
use native.Mathlib.Omega.{arith}
use lib.ListN.{length}
use lib.Ieee.{Float}
use Rattle.definitions.specs.declared.Knot.{Knot}
use Rattle.definitions.specs.Moments.{outputs}
use Rattle.cell.specs.step.Entries.{entry_is}
use Rattle.run.specs.Walks.{Walked}
use Rattle.run.specs.Runs.{passing_at, Passing}
use Rattle.track.specs.declared.span.ReadBy.{ReadBy}
use Rattle.track.specs.span.Runs.{PastRun, SpanIs, entry_by}
use Rattle.track.proofs.span.Cuts.{cut, uncut, recut}
use borrow.Author.Rules.{rules}
use Rattle.track.proofs.span.fill.fill_in.Goals.{After-clip_end-b, In-ByRun}
use Rattle.track.proofs.span.fill.fill_in.Goals as goal

-- the segment, the lower neighbour
abbrev clip : (c : In-ByRun) → ℕ
clip c = c.in-ByRun.clip

abbrev floor : (c : In-ByRun) → Float
floor c = c.in-ByRun.field-1

abbrev pair : (c : In-ByRun) → Knot × Knot
pair c = (c.in-ByRun.segment.a, c.in-ByRun.segment.b)

run : (c : In-ByRun) → PastRun c.args.times.now c.args.values.now c.args.marks.now c.args.ends.now (clip c) (pair c) (floor c) (entry_is c.args.s.here) c.args.k c.args.s.hi
run c =
    let a = c.args in
    subst (λ (d : ReadBy). SpanIs a.times.now a.values.now a.marks.now a.ends.now d (entry_is a.s.here) a.k a.s.hi) c.in-ByRun.is c.requires.span_is

inside : (c : After-clip_end-b) → (c.clip_begin-a.result ≤ c.clip_end-b.result) × (c.clip_end-b.result ≤ length c.args.times.now) × (c.clip_end-b.result ≤ length c.args.values.now) × (c.clip_end-b.result ≤ length c.args.marks.now)
inside c =
    let R = run (goal.at.After-clip_end-b c).In-ByRun in
    let f = R.from in
    let i = R.inside in
    let v = R.valued in
    let m = R.flagged in
    (omega arith, omega arith, omega arith, omega arith)

-- in the slices that were cut out
passing : (e : After-clip_end-b) → Passing (cut e.args.times.now e.clip_begin-a.result e.clip_end-b.result) (cut e.args.values.now e.clip_begin-a.result e.clip_end-b.result) (cut e.args.marks.now e.clip_begin-a.result e.clip_end-b.result) (pair (goal.at.After-clip_end-b e).In-ByRun) (floor (goal.at.After-clip_end-b e).In-ByRun) (entry_is e.args.s.here) e.args.k e.args.s.hi
passing e =
    let a = e.args in
    recut a.times.now a.values.now a.marks.now a.ends.now (clip (goal.at.After-clip_end-b e).In-ByRun) e.clip_begin-a.result e.clip_end-b.result e.clip_begin-a.ensures e.clip_end-b.ensures
    (λ (ts vs : List Float) (ms : List ℕ). Passing ts vs ms (pair (goal.at.After-clip_end-b e).In-ByRun) (floor (goal.at.After-clip_end-b e).In-ByRun) (entry_is a.s.here) a.k a.s.hi) (run (goal.at.After-clip_end-b e).In-ByRun).passing

pub fill_cell-requires : goal.fill_cell-requires
fill_cell-requires c =
    let a = c.args in
    record { keys = c.requires.keys; runs = subst (λ (d : ReadBy). SpanIs a.times.now a.values.now a.marks.now a.ends.now d (entry_is a.s.here) a.k a.s.hi) c.in-ByCell.is c.requires.span_is; room = c.requires.room }

pub clip_begin-a-requires : goal.clip_begin-a-requires
clip_begin-a-requires c = (run c).clip

pub clip_end-b-requires : goal.clip_end-b-requires
clip_end-b-requires c = (run (goal.at.clip_end-b-requires c).In-ByRun).clip

pub offset_bounds-times-a : goal.offset_bounds-times-a
offset_bounds-times-a c = let h = inside c in omega (arith, c.well_formed)

pub slice_bounds-fill_run-count : goal.slice_bounds-fill_run-count
slice_bounds-fill_run-count c = (inside c).0

pub slice_bounds-fill_run-start : goal.slice_bounds-fill_run-start
slice_bounds-fill_run-start c = (inside c).0

pub slice_bounds-fill_run-end : goal.slice_bounds-fill_run-end
slice_bounds-fill_run-end c = let h = inside c in search rules

pub offset_bounds-values-a : goal.offset_bounds-values-a
offset_bounds-values-a c = let h = inside (goal.at.offset_bounds-values-a c).After-clip_end-b in omega (arith, c.well_formed)

pub slice_bounds-fill_run-count-in-ByRun : goal.slice_bounds-fill_run-count-in-ByRun
slice_bounds-fill_run-count-in-ByRun c = (inside (goal.at.slice_bounds-fill_run-count-in-ByRun c).After-clip_end-b).0

pub slice_bounds-fill_run-start-in-ByRun : goal.slice_bounds-fill_run-start-in-ByRun
slice_bounds-fill_run-start-in-ByRun c = (inside (goal.at.slice_bounds-fill_run-start-in-ByRun c).After-clip_end-b).0

pub slice_bounds-fill_run-end-in-ByRun : goal.slice_bounds-fill_run-end-in-ByRun
slice_bounds-fill_run-end-in-ByRun c = let h = inside (goal.at.slice_bounds-fill_run-end-in-ByRun c).After-clip_end-b in search rules

pub slice_bounds-fill_run-count-in-ByRun-2 : goal.slice_bounds-fill_run-count-in-ByRun-2
slice_bounds-fill_run-count-in-ByRun-2 c = (inside (goal.at.slice_bounds-fill_run-count-in-ByRun-2 c).After-clip_end-b).0

pub slice_bounds-fill_run-start-in-ByRun-2 : goal.slice_bounds-fill_run-start-in-ByRun-2
slice_bounds-fill_run-start-in-ByRun-2 c = (inside (goal.at.slice_bounds-fill_run-start-in-ByRun-2 c).After-clip_end-b).0

pub slice_bounds-fill_run-end-in-ByRun-2 : goal.slice_bounds-fill_run-end-in-ByRun-2
slice_bounds-fill_run-end-in-ByRun-2 c = let h = inside (goal.at.slice_bounds-fill_run-end-in-ByRun-2 c).After-clip_end-b in search rules

pub fill_run-requires : goal.fill_run-requires
fill_run-requires c =
    let a = c.args in record { passing_on = record { floor = floor (goal.at.fill_run-requires c).In-ByRun; passing = passing (goal.at.fill_run-requires c).After-clip_end-b }; room = c.requires.room }

pub returns-in-ByCell : goal.returns-in-ByCell
returns-in-ByCell c =
    let a = c.args in
    subst (λ (d : ReadBy). Walked (entry_by a.times.now a.values.now a.marks.now a.ends.now d (entry_is a.s.here)) a.k a.s.hi a.room a.n (outputs a.outtimes.now a.outvalues.now a.outmarks.now) (outputs c.fill_cell.new.outtimes c.fill_cell.new.outvalues c.fill_cell.new.outmarks) c.fill_cell.result)
    (sym c.in-ByCell.is) c.fill_cell.ensures

pub returns-in-ByRun : goal.returns-in-ByRun
returns-in-ByRun c =
    let a = c.args in
    let r = c.fill_run.result in
    let p = outputs a.outtimes.now a.outvalues.now a.outmarks.now in
    let q = outputs c.fill_run.new.outtimes c.fill_run.new.outvalues c.fill_run.new.outmarks in
    subst (λ (d : ReadBy). Walked (entry_by a.times.now a.values.now a.marks.now a.ends.now d (entry_is a.s.here)) a.k a.s.hi a.room a.n p q r)
    (sym c.in-ByRun.is)
    (uncut a.times.now a.values.now a.marks.now a.ends.now (clip (goal.at.returns-in-ByRun c).In-ByRun) c.clip_begin-a.result c.clip_end-b.result c.clip_begin-a.ensures c.clip_end-b.ensures
    (λ (ts vs : List Float) (ms : List ℕ). Walked (passing_at ts vs ms (pair (goal.at.returns-in-ByRun c).In-ByRun) (floor (goal.at.returns-in-ByRun c).In-ByRun)) a.k a.s.hi a.room a.n p q r)
    (c.fill_run.ensures (floor (goal.at.returns-in-ByRun c).In-ByRun) (passing (goal.at.returns-in-ByRun c).After-clip_end-b)))
