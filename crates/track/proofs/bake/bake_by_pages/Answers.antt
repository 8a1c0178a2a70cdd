-- `bake::bake_by_pages` meets its contract: the changes are counted, and only where there is room for them written. Assumes nothing.
use mathlib.Core.Path.{◌≡◌, ap, ◌∙◌}
use Prim.Native.Nat.{ℕ, ◌+◌, ◌-◌, ◌≤◌, ◌<◌, min}
use native.Mathlib.Omega.{arith}
use lib.ListN.{length}
use Rattle.gf.specs.Doubles.{least, most}
use Rattle.definitions.specs.ClipSet.{ClipSet}
use Rattle.definitions.specs.Samples.{Samples}
use Rattle.definitions.specs.Track.{slots}
use Rattle.definitions.specs.Moments.{outputs}
use Rattle.laws.specs.cell.Keys.{entry_at_key}
use Rattle.laws.specs.cell.Lent.{set_of, samples_of}
use Rattle.cell.specs.step.Entries.{entry_is}
use Rattle.run.proofs.Filling.{Long}
use Rattle.track.specs.span.Changes.{changes_of}
use Rattle.track.proofs.Walks.{slots-is, slots-long, room_of, filled-total, filled-done, filled-all}
use Rattle.track.proofs.Baking.{page-copied, bake-refused, bake-done}
use Rattle.track.proofs.bake.bake_by_pages.Goals.{After-fill-first, Start as At-start}
use Rattle.track.proofs.bake.bake_by_pages.Goals as goal

-- the set and the samples that are lent, and how many changes there are
abbrev set : At-start → ClipSet
set a = set_of (length a.args.ends.now) a.args.starts.now a.args.clips.now a.args.xs.now a.args.ys.now a.args.blocks.now a.args.m

abbrev lent : At-start → Samples
lent a = samples_of a.args.times.now a.args.values.now a.args.marks.now a.args.ends.now

abbrev count : At-start → ℕ
count a = length (changes_of (set a) (lent a) least most)

abbrev room : At-start → ℕ
room a = min (length a.args.outtimes.now) (min (length a.args.outvalues.now) (length a.args.outmarks.now))

-- the value at the lowest key
head-is : (a : At-start) → entry_is a.args.from.last ≡ entry_at_key (set a) (lent a) least
head-is a = a.requires.cursor_is_1.last ∙ ap (entry_at_key (set a) (lent a)) a.requires.cursor_is_2

-- the changes on the first page and behind it
total : (f : After-fill-first) → count (goal.at.After-fill-first f).Start ≡ f.fill-first.result.count + length (changes_of (set (goal.at.After-fill-first f).Start) (lent (goal.at.After-fill-first f).Start) f.fill-first.result.cursor.key most)
total f = filled-total _ _ _ _ _ _ f.fill-first.ensures f.requires.cursor_is_2

-- the page is as long as it was
page-long : (f : After-fill-first) → let a = f.args in Long (outputs a.pagetimes.now a.pagevalues.now a.pagemarks.now) (outputs f.fill-first.new.outtimes f.fill-first.new.outvalues f.fill-first.new.outmarks)
page-long f = record { times = f.fill-first.auto.outtimes; values = f.fill-first.auto.outvalues; marks = f.fill-first.auto.outmarks }

pub fill-first-requires : goal.fill-first-requires
fill-first-requires c = record { accepted_lists = c.requires.accepted_lists; latest_of = c.requires.latest_of; cursor_is = c.requires.cursor_is_1 }

pub returns-then-room-count : goal.returns-then-room-count
returns-then-room-count c =
    let h = c.if-room-count.true in
    let t = total (goal.at.returns-then-room-count c).After-fill-first in
    let less : room (goal.at.returns-then-room-count c).Start < count (goal.at.returns-then-room-count c).Start = omega arith in
    bake-refused (set (goal.at.returns-then-room-count c).Start) (lent (goal.at.returns-then-room-count c).Start) c.args.outtimes.now c.args.outvalues.now c.args.outmarks.now less

pub write_page-requires : goal.write_page-requires
write_page-requires c =
    let l = page-long (goal.at.write_page-requires c).After-fill-first in
    let s = slots-is c.args.pagetimes.now c.args.pagevalues.now c.args.pagemarks.now in
    let n = c.fill-first.ensures.fits in
    let h = c.if-room-count.false in
    record { fact_1 = room_of _ _ _ _ (omega (arith, l.times, l.values, l.marks)); fact_2 = room_of _ _ _ _ (omega arith) }

pub returns-then-first : goal.returns-then-first
returns-then-first c =
    let d = filled-done _ _ least _ _ _ c.fill-first.ensures c.requires.cursor_is_2 c.if-first.true in
    let h = c.if-room-count.false in
    let n : c.fill-first.result.count ≡ count (goal.at.returns-then-first c).Start = d.0 in
    let fits : count (goal.at.returns-then-first c).Start ≤ room (goal.at.returns-then-first c).Start = omega arith in
    bake-done (set (goal.at.returns-then-first c).Start) (lent (goal.at.returns-then-first c).Start) c.args.outtimes.now c.args.outvalues.now c.args.outmarks.now _ _ _ _ fits (head-is (goal.at.returns-then-first c).Start) d.0
    (c.write_page.ensures ∙ page-copied (changes_of (set (goal.at.returns-then-first c).Start) (lent (goal.at.returns-then-first c).Start) least most) (outputs c.args.pagetimes.now c.args.pagevalues.now c.args.pagemarks.now) (outputs c.fill-first.new.outtimes c.fill-first.new.outvalues c.fill-first.new.outmarks) (outputs c.args.outtimes.now c.args.outvalues.now c.args.outmarks.now) c.fill-first.result.count d.0 d.1)

pub count_within-rest-requires : goal.count_within-rest-requires
count_within-rest-requires c =
    record { accepted_lists = c.requires.accepted_lists; latest_of = c.requires.latest_of; cursor_is = c.fill-first.ensures.passed.cursor; nonzero = slots-long (page-long (goal.at.count_within-rest-requires c).After-fill-first) c.requires.nonzero }

pub returns-then-left-rest : goal.returns-then-left-rest
returns-then-left-rest c =
    let h = c.if-room-count.false in
    let t = total (goal.at.returns-then-left-rest c).After-fill-first in
    let b = c.if-left-rest.true in
    let n : c.shortest-room.result - c.fill-first.result.count < length (changes_of (set (goal.at.returns-then-left-rest c).Start) (lent (goal.at.returns-then-left-rest c).Start) c.fill-first.result.cursor.key most) = omega arith in
    let less : room (goal.at.returns-then-left-rest c).Start < count (goal.at.returns-then-left-rest c).Start = omega arith in
    bake-refused (set (goal.at.returns-then-left-rest c).Start) (lent (goal.at.returns-then-left-rest c).Start) c.args.outtimes.now c.args.outvalues.now c.args.outmarks.now less

pub fill-filled-requires : goal.fill-filled-requires
fill-filled-requires c = record { accepted_lists = c.requires.accepted_lists; latest_of = c.requires.latest_of; cursor_is = c.requires.cursor_is_1 }

pub shape_of-pagetimes : goal.shape_of-pagetimes
shape_of-pagetimes c = c.count_within-rest.auto.pagetimes ∙ c.fill-first.auto.outtimes

pub shape_of-pagevalues : goal.shape_of-pagevalues
shape_of-pagevalues c = c.count_within-rest.auto.pagevalues ∙ c.fill-first.auto.outvalues

pub shape_of-pagemarks : goal.shape_of-pagemarks
shape_of-pagemarks c = c.count_within-rest.auto.pagemarks ∙ c.fill-first.auto.outmarks

pub returns : goal.returns
returns c =
    let h = c.if-room-count.false in
    let t = total (goal.at.returns c).After-fill-first in
    let b = c.if-left-rest.false in
    let n : length (changes_of (set (goal.at.returns c).Start) (lent (goal.at.returns c).Start) c.fill-first.result.cursor.key most) ≤ c.shortest-room.result - c.fill-first.result.count = omega arith in
    let q = slots-is c.args.outtimes.now c.args.outvalues.now c.args.outmarks.now in
    let l : count (goal.at.returns c).Start ≤ slots (outputs c.args.outtimes.now c.args.outvalues.now c.args.outmarks.now) = omega arith in
    let d = filled-all _ _ least _ _ _ c.fill-filled.ensures c.requires.cursor_is_2 l in
    let fits : count (goal.at.returns c).Start ≤ room (goal.at.returns c).Start = omega arith in
    bake-done (set (goal.at.returns c).Start) (lent (goal.at.returns c).Start) c.args.outtimes.now c.args.outvalues.now c.args.outmarks.now _ _ _ _ fits (head-is (goal.at.returns c).Start) d.0 d.1
