-- `fill::fill_cell` meets its contract. Assumes nothing.
use mathlib.Core.Path.{refl, sym, subst}
use mathlib.Core.Bool.{true}
use mathlib.Core.List.{List}
use Prim.Native.Nat.{ℕ, ◌≤◌}
use native.Mathlib.Omega.{arith}
use lib.ListN.{length}
use lib.Ieee.{Float}
use Rattle.definitions.specs.Track.{Entry}
use Rattle.definitions.specs.Moments.{outputs}
use Rattle.cell.specs.step.Entries.{entry_is}
use Rattle.run.specs.Readings.{reading_at}
use Rattle.run.specs.Walks.{Walked}
use Rattle.run.proofs.Walking.{stands-first, stands-level, walked_all}
use Rattle.cell.specs.declared.Cell.{Cell}
use Rattle.track.specs.span.Runs.{Run, Runs, entry_on}
use Rattle.track.proofs.span.Cuts.{uncut, cut-reads, cut-turns, cut_inside}
use borrow.Author.Rules.{rules}
use Rattle.track.proofs.span.fill.fill_cell.Goals.{After-clip_end-b, In-Reading}
use Rattle.track.proofs.span.fill.fill_cell.Goals as goal

-- the clip's part can be read
run : (c : In-Reading) → Run c.args.times.now c.args.values.now c.args.marks.now c.args.ends.now c.in-Reading.clip c.in-Reading.line c.args.k c.args.hi
run c =
    let a = c.args in
    subst (λ (d : Cell). Runs a.times.now a.values.now a.marks.now a.ends.now d a.k a.hi) c.in-Reading.is c.requires.runs

inside : (c : After-clip_end-b) → (c.clip_begin-a.result ≤ c.clip_end-b.result) × (c.clip_end-b.result ≤ length c.args.times.now) × (c.clip_end-b.result ≤ length c.args.values.now) × (c.clip_end-b.result ≤ length c.args.marks.now)
inside c =
    let a = c.args in
    cut_inside a.times.now a.values.now a.marks.now a.ends.now c.in-Reading.clip c.clip_begin-a.result c.clip_end-b.result c.clip_begin-a.ensures c.clip_end-b.ensures c.in-Reading.line a.k a.hi (run (goal.at.After-clip_end-b c).In-Reading)

pub returns-in_default : goal.returns-in_default
returns-in_default c =
    let a = c.args in
    let o = outputs a.outtimes.now a.outvalues.now a.outmarks.now in
    let w : ℕ → Entry = λ j. entry_is a.here in
    subst (λ (d : Cell). Walked (entry_on a.times.now a.values.now a.marks.now a.ends.now d (entry_is a.here)) a.k a.hi a.room a.n o o (record { key = a.hi; last = a.here; count = a.n; done = true }))
    (sym c.in_default.is) (walked_all (stands-level w a.k a.room a.n o c.requires.room (stands-first w a.k a.room a.n o c.requires.room (entry_is a.here) refl) c.requires.keys.order (λ j x y. refl)) refl)

pub clip_begin-a-requires : goal.clip_begin-a-requires
clip_begin-a-requires c = (run c).clip

pub clip_end-b-requires : goal.clip_end-b-requires
clip_end-b-requires c = (run (goal.at.clip_end-b-requires c).In-Reading).clip

pub offset_bounds-times-a : goal.offset_bounds-times-a
offset_bounds-times-a c = let h = inside c in omega (arith, c.well_formed)

pub slice_bounds-fill_changes-count : goal.slice_bounds-fill_changes-count
slice_bounds-fill_changes-count c = (inside c).0

pub slice_bounds-fill_changes-start : goal.slice_bounds-fill_changes-start
slice_bounds-fill_changes-start c = (inside c).0

pub slice_bounds-fill_changes-end : goal.slice_bounds-fill_changes-end
slice_bounds-fill_changes-end c = let h = inside c in search rules

pub offset_bounds-values-a : goal.offset_bounds-values-a
offset_bounds-values-a c = let h = inside (goal.at.offset_bounds-values-a c).After-clip_end-b in omega (arith, c.well_formed)

pub slice_bounds-fill_changes-count-2 : goal.slice_bounds-fill_changes-count-2
slice_bounds-fill_changes-count-2 c = (inside (goal.at.slice_bounds-fill_changes-count-2 c).After-clip_end-b).0

pub slice_bounds-fill_changes-start-2 : goal.slice_bounds-fill_changes-start-2
slice_bounds-fill_changes-start-2 c = (inside (goal.at.slice_bounds-fill_changes-start-2 c).After-clip_end-b).0

pub slice_bounds-fill_changes-end-2 : goal.slice_bounds-fill_changes-end-2
slice_bounds-fill_changes-end-2 c = let h = inside (goal.at.slice_bounds-fill_changes-end-2 c).After-clip_end-b in search rules

pub slice_bounds-fill_changes-count-3 : goal.slice_bounds-fill_changes-count-3
slice_bounds-fill_changes-count-3 c = (inside (goal.at.slice_bounds-fill_changes-count-3 c).After-clip_end-b).0

pub slice_bounds-fill_changes-start-3 : goal.slice_bounds-fill_changes-start-3
slice_bounds-fill_changes-start-3 c = (inside (goal.at.slice_bounds-fill_changes-start-3 c).After-clip_end-b).0

pub slice_bounds-fill_changes-end-3 : goal.slice_bounds-fill_changes-end-3
slice_bounds-fill_changes-end-3 c = let h = inside (goal.at.slice_bounds-fill_changes-end-3 c).After-clip_end-b in search rules

pub fill_changes-requires : goal.fill_changes-requires
fill_changes-requires c =
    let a = c.args in
    record { reads = cut-reads a.times.now a.values.now a.marks.now a.ends.now c.in-Reading.clip c.clip_begin-a.result c.clip_end-b.result c.clip_begin-a.ensures c.clip_end-b.ensures c.in-Reading.line a.k a.hi (run (goal.at.fill_changes-requires c).In-Reading); keys = c.requires.keys; left_once = cut-turns a.times.now a.values.now a.marks.now a.ends.now c.in-Reading.clip c.clip_begin-a.result c.clip_end-b.result c.clip_begin-a.ensures c.clip_end-b.ensures c.in-Reading.line a.k a.hi (run (goal.at.fill_changes-requires c).In-Reading); room = c.requires.room }

pub returns : goal.returns
returns c =
    let a = c.args in
    let r = c.fill_changes.result in
    let p = outputs a.outtimes.now a.outvalues.now a.outmarks.now in
    let q = outputs c.fill_changes.new.outtimes c.fill_changes.new.outvalues c.fill_changes.new.outmarks in
    subst (λ (d : Cell). Walked (entry_on a.times.now a.values.now a.marks.now a.ends.now d (entry_is a.here)) a.k a.hi a.room a.n p q r)
    (sym c.in-Reading.is)
    (uncut a.times.now a.values.now a.marks.now a.ends.now c.in-Reading.clip c.clip_begin-a.result c.clip_end-b.result c.clip_begin-a.ensures c.clip_end-b.ensures
    (λ (ts vs : List Float) (ms : List ℕ). Walked (reading_at ts vs ms c.in-Reading.line) a.k a.hi a.room a.n p q r)
    c.fill_changes.ensures)
