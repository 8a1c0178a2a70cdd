-- `count::count_within` meets its contract. The invariant: `count` is the number of changes up to the cursor. The measure is what is left up to top. Assumes nothing.
use mathlib.Core.Path.{◌≡◌, refl, sym, ap, ◌∙◌}
use Prim.Native.Nat.{ℕ, ◌+◌, min}
use native.Mathlib.Nat.{le_of_eq}
use native.Mathlib.Omega.{arith}
use lib.ListN.{length}
use Rattle.definitions.specs.ClipSet.{ClipSet}
use Rattle.definitions.specs.Samples.{Samples}
use Rattle.laws.proofs.track.Laws.{changes-none}
use Rattle.laws.specs.cell.Keys.{entry_at_key}
use Rattle.laws.specs.cell.Tracks.{entry-same}
use Rattle.laws.specs.cell.Lent.{set_of, samples_of}
use Rattle.track.specs.span.Changes.{changes_of}
use Rattle.track.specs.Fills.{PageIs}
use Rattle.track.proofs.Walks.{split-length, paged, slots-long}
use Rattle.track.proofs.Counts.{changes-few, count-beyond}
use Rattle.track.proofs.count.count_within.Goals.{After-slice_known-in-loop-m-3-1, At-loop-m, Start as At-start}
use Rattle.track.proofs.count.count_within.Goals as goal

-- the set and the samples that are lent
abbrev set : At-start → ClipSet
set a = set_of (length a.args.ends.now) a.args.starts.now a.args.clips.now a.args.xs.now a.args.ys.now a.args.blocks.now a.args.m

abbrev lent : At-start → Samples
lent a = samples_of a.args.times.now a.args.values.now a.args.marks.now a.args.ends.now

abbrev many : At-loop-m → ℕ → ℕ → ℕ
many b j k = length (changes_of (set (goal.at.At-loop-m b).Start) (lent (goal.at.At-loop-m b).Start) j k)

-- what a page promises
page : (c : After-slice_known-in-loop-m-3-1) → let a = c.args in
    PageIs a.starts.now a.clips.now a.xs.now a.ys.now a.blocks.now a.m a.times.now a.values.now a.marks.now a.ends.now c.loop-m.at.key a.top c.fill-page.result
page c =
    paged _ _ _ _ _ (slots-long c.loop-m.invariant.3 c.requires.nonzero) c.fill-page.ensures

-- the changes up to the page, on it, and behind it
parts : (c : After-slice_known-in-loop-m-3-1) → let a = c.args in
    (many (goal.at.After-slice_known-in-loop-m-3-1 c).At-loop-m a.from.key c.fill-page.result.cursor.key ≡ c.loop-m.count + c.fill-page.result.count) × (many (goal.at.After-slice_known-in-loop-m-3-1 c).At-loop-m a.from.key a.top ≡ c.loop-m.count + c.fill-page.result.count + many (goal.at.After-slice_known-in-loop-m-3-1 c).At-loop-m c.fill-page.result.cursor.key a.top)
parts c =
    let a = c.args in
    let P = c.fill-page.ensures.passed in
    let n = P.count in
    let q = c.loop-m.invariant.2 in
    let i = c.loop-m.invariant.0 in
    let o = P.order in
    let u = P.cursor.keys.order in
    let x = split-length (set (goal.at.After-slice_known-in-loop-m-3-1 c).Start) (lent (goal.at.After-slice_known-in-loop-m-3-1 c).Start) a.from.key c.loop-m.at.key c.fill-page.result.cursor.key i o in
    let y = split-length (set (goal.at.After-slice_known-in-loop-m-3-1 c).Start) (lent (goal.at.After-slice_known-in-loop-m-3-1 c).Start) a.from.key c.fill-page.result.cursor.key a.top (omega arith) u in
    (omega arith, omega arith)

pub loop-m-init : goal.loop-m-init
loop-m-init c =
    let k = c.args.from.key in
    (le_of_eq refl, c.requires.cursor_is, sym (ap length (changes-none entry-same (entry_at_key (set (goal.at.loop-m-init c).Start) (lent (goal.at.loop-m-init c).Start)) k k (le_of_eq refl))), record { times = refl; values = refl; marks = refl })

pub fill-page-requires : goal.fill-page-requires
fill-page-requires c = record { accepted_lists = c.requires.accepted_lists; latest_of = c.requires.latest_of; cursor_is = c.loop-m.invariant.1 }

pub overflow_add-count : goal.overflow_add-count
overflow_add-count c =
    let a = c.args in
    let e = (parts (goal.at.overflow_add-count c).After-slice_known-in-loop-m-3-1).0 in
    let n = changes-few (set (goal.at.overflow_add-count c).Start) (lent (goal.at.overflow_add-count c).Start) a.from.key c.fill-page.result.cursor.key in
    let u = c.fill-page.ensures.passed.cursor.keys.order in
    let h = c.fill-page.ensures.passed.cursor.keys.high in
    omega arith

pub shape_of-pagetimes-then-page : goal.shape_of-pagetimes-then-page
shape_of-pagetimes-then-page c = c.fill-page.auto.outtimes ∙ c.loop-m.invariant.3.times

pub shape_of-pagevalues-then-page : goal.shape_of-pagevalues-then-page
shape_of-pagevalues-then-page c = c.fill-page.auto.outvalues ∙ c.loop-m.invariant.3.values

pub shape_of-pagemarks-then-page : goal.shape_of-pagemarks-then-page
shape_of-pagemarks-then-page c = c.fill-page.auto.outmarks ∙ c.loop-m.invariant.3.marks

pub returns-then-page : goal.returns-then-page
returns-then-page c =
    let a = c.args in
    let e = (parts (goal.at.returns-then-page c).After-slice_known-in-loop-m-3-1).0 in
    ap (λ (n : ℕ). min n (a.room + 1)) (sym e ∙ ap (λ (j : ℕ). many (goal.at.returns-then-page c).At-loop-m a.from.key j) (c.fill-page.ensures.passed.whole c.if-page.true))

pub shape_of-pagetimes-then-room-count : goal.shape_of-pagetimes-then-room-count
shape_of-pagetimes-then-room-count c = c.fill-page.auto.outtimes ∙ c.loop-m.invariant.3.times

pub shape_of-pagevalues-then-room-count : goal.shape_of-pagevalues-then-room-count
shape_of-pagevalues-then-room-count c = c.fill-page.auto.outvalues ∙ c.loop-m.invariant.3.values

pub shape_of-pagemarks-then-room-count : goal.shape_of-pagemarks-then-room-count
shape_of-pagemarks-then-room-count c = c.fill-page.auto.outmarks ∙ c.loop-m.invariant.3.marks

pub returns-then-room-count : goal.returns-then-room-count
returns-then-room-count c =
    count-beyond _ _ _ c.args.room (parts (goal.at.returns-then-room-count c).After-slice_known-in-loop-m-3-1).1 c.if-room-count.true

pub loop-m-smaller : goal.loop-m-smaller
loop-m-smaller c =
    let P = page (goal.at.loop-m-smaller c).After-slice_known-in-loop-m-3-1 in
    let o = P.onward c.if-page.false in
    let u = P.passed.cursor.keys.order in
    omega arith

pub loop-m-preserved : goal.loop-m-preserved
loop-m-preserved c =
    let P = c.fill-page.ensures.passed in
    let o = P.order in
    let i = c.loop-m.invariant.0 in (
      omega arith,
      P.cursor,
      sym (parts (goal.at.loop-m-preserved c).After-slice_known-in-loop-m-3-1).0,
      record {
        times = c.fill-page.auto.outtimes ∙ c.loop-m.invariant.3.times;
        values = c.fill-page.auto.outvalues ∙ c.loop-m.invariant.3.values;
        marks = c.fill-page.auto.outmarks ∙ c.loop-m.invariant.3.marks;
      },
    )
