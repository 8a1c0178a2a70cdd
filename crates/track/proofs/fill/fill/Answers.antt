-- `fill::fill` meets its contract. The invariant: the walk stands at the key at, and the place is one of the set's. The measure is what is left up to top. Assumes nothing.
use mathlib.Core.Path.{◌≡◌, sym, ◌∙◌, subst}
use Prim.Native.Nat.{ℕ, ◌+◌, ◌≤◌, ◌<◌}
use native.Mathlib.Omega.{arith}
use lib.ListN.{length}
use borrow.Author.Tests.{not-true, not-false}
use Rattle.definitions.specs.ClipSet.{ClipSet}
use Rattle.definitions.specs.Samples.{Samples}
use Rattle.definitions.specs.Track.{Entry, Outputs, slots}
use Rattle.definitions.specs.Moments.{outputs}
use Rattle.laws.specs.cell.Keys.{Keys, entry_at_key}
use Rattle.laws.specs.cell.Lent.{set_of, samples_of}
use Rattle.cell.specs.step.Entries.{entry_is}
use Rattle.run.specs.Walks.{Room, Stands, Walked}
use Rattle.run.proofs.Filling.{Long}
use Rattle.run.proofs.Walking.{Reaches, stands-first, stands-long, stands-room, stands-next, stands-full, full, walked_all, walked-full, walked-agree, walked-wider, walked-join}
use Rattle.cell.proofs.Lent.{sound, samples, numbers}
use Rattle.track.proofs.Walks.{next-key, slots-room, slots-is, filled}
use Rattle.track.proofs.fill.fill.Goals.{After-fill_in-went, After-offer-slot, Then-not-went, At-loop-at, Else-at-top, Else-room-slot, Start as At-start, Then-at-top, Then-room-slot}
use Rattle.track.proofs.fill.fill.Goals as goal

-- the set and the samples that are lent, the value, the outputs
abbrev set : At-start → ClipSet
set a = set_of (length a.args.ends.now) a.args.starts.now a.args.clips.now a.args.xs.now a.args.ys.now a.args.blocks.now a.args.m

abbrev lent : At-start → Samples
lent a = samples_of a.args.times.now a.args.values.now a.args.marks.now a.args.ends.now

abbrev v : At-start → ℕ → Entry
v a = entry_at_key (set a) (lent a)

abbrev outs : At-start → Outputs
outs a = outputs a.args.outtimes.now a.args.outvalues.now a.args.outmarks.now

keys : (a : At-start) → Keys a.args.from.key a.args.top
keys a = a.requires.cursor_is.keys

abbrev room : At-loop-at → ℕ
room b = b.shortest-room.result

has : (b : At-loop-at) → Room (room b) 0 (outs (goal.at.At-loop-at b).Start)
has b = let a = b.args in slots-room a.outtimes.now a.outvalues.now a.outmarks.now (room b) b.shortest-room.ensures

all : (b : At-loop-at) → room b ≡ slots (outs (goal.at.At-loop-at b).Start)
all b = let a = b.args in b.shortest-room.ensures ∙ sym (slots-is a.outtimes.now a.outvalues.now a.outmarks.now)

abbrev now : At-loop-at → Outputs
now b = outputs b.loop-at.outtimes b.loop-at.outvalues b.loop-at.outmarks

-- what stands in the outputs o at a key
abbrev At : At-loop-at → Outputs → ℕ → Entry → ℕ → Type 0
At b o at e c = Stands (v (goal.at.At-loop-at b).Start) b.args.from.key (room b) 0 (outs (goal.at.At-loop-at b).Start) o at e c

long : (b : At-loop-at) (o : Outputs) (at : ℕ) (e : Entry) (c : ℕ) → At b o at e c → Long (outs (goal.at.At-loop-at b).Start) o
long b o at e c S = stands-long (v (goal.at.At-loop-at b).Start) b.args.from.key (room b) 0 (outs (goal.at.At-loop-at b).Start) (has b) S

-- the next key
reaches : (b : At-loop-at) → Reaches (v (goal.at.At-loop-at b).Start) b.loop-at.at (b.loop-at.at + 1)
reaches b = next-key (set (goal.at.At-loop-at b).Start) (lent (goal.at.At-loop-at b).Start) (sound b.requires.accepted_lists) (samples b.requires.accepted_lists) (numbers b.requires.accepted_lists) b.loop-at.at

below : (c : Else-at-top) → c.loop-at.at < c.args.top
below c = let h = c.loop-at.invariant.0 in let n = c.if-at-top.false in omega arith

next_keys : (c : Else-at-top) → Keys (c.loop-at.at + 1) c.args.top
next_keys c = let K = keys (goal.at.Else-at-top c).Start in let l = below c in let f = c.loop-at.invariant.2.from in record { low = omega (arith, K.low); order = omega arith; high = K.high }

abbrev after : After-offer-slot → Outputs
after c = outputs c.offer-slot.new.outtimes c.offer-slot.new.outvalues c.offer-slot.new.outmarks

refused : (c : Then-room-slot) → At (goal.at.Then-room-slot c).At-loop-at (after (goal.at.Then-room-slot c).After-offer-slot) c.loop-at.at (entry_is c.loop-at.last) c.loop-at.count
refused c =
    stands-full (v (goal.at.Then-room-slot c).Start) c.args.from.key (room (goal.at.Then-room-slot c).At-loop-at) 0 (outs (goal.at.Then-room-slot c).Start) (has (goal.at.Then-room-slot c).At-loop-at) c.loop-at.invariant.2 (reaches (goal.at.Then-room-slot c).At-loop-at) c.span_at-step.ensures.span.here c.offer-slot.ensures c.if-room-slot.true

taken : (c : Else-room-slot) → At (goal.at.Else-room-slot c).At-loop-at (after (goal.at.Else-room-slot c).After-offer-slot) (c.loop-at.at + 1) (entry_is c.span_at-step.result.span.here) c.offer-slot.result
taken c =
    let h = c.if-room-slot.false in
    stands-next (v (goal.at.Else-room-slot c).Start) c.args.from.key (room (goal.at.Else-room-slot c).At-loop-at) 0 (outs (goal.at.Else-room-slot c).Start) (has (goal.at.Else-room-slot c).At-loop-at) c.loop-at.invariant.2 (reaches (goal.at.Else-room-slot c).At-loop-at) c.span_at-step.ensures.span.here c.offer-slot.ensures (omega arith)

abbrev behind : After-fill_in-went → Outputs
behind c = outputs c.fill_in-went.new.outtimes c.fill_in-went.new.outvalues c.fill_in-went.new.outmarks

walked : (c : After-fill_in-went) → Walked (v (goal.at.After-fill_in-went c).Start) c.args.from.key c.span_at-step.result.span.hi (room (goal.at.After-fill_in-went c).At-loop-at) 0 (outs (goal.at.After-fill_in-went c).Start) (behind c) c.fill_in-went.result
walked c =
    walked-join (v (goal.at.After-fill_in-went c).Start) c.args.from.key c.span_at-step.result.span.hi (room (goal.at.After-fill_in-went c).At-loop-at) 0 (outs (goal.at.After-fill_in-went c).Start) (has (goal.at.After-fill_in-went c).At-loop-at) (taken (goal.at.After-fill_in-went c).Else-room-slot) (walked-agree c.span_at-step.ensures.span.says c.fill_in-went.ensures)

within : (c : After-fill_in-went) → (c.loop-at.at < c.span_at-step.result.span.hi) × (c.span_at-step.result.span.hi ≤ c.args.top)
within c = let S = c.span_at-step.ensures.span in (let o = S.keys.order in omega arith, S.within)

long-full : (c : Then-room-slot) → Long (outs (goal.at.Then-room-slot c).Start) (after (goal.at.Then-room-slot c).After-offer-slot)
long-full c = long (goal.at.Then-room-slot c).At-loop-at _ _ _ _ (refused c)

long-stop : (c : Then-not-went) → Long (outs (goal.at.Then-not-went c).Start) (behind (goal.at.Then-not-went c).After-fill_in-went)
long-stop c = long (goal.at.Then-not-went c).At-loop-at _ _ _ _ (walked (goal.at.Then-not-went c).After-fill_in-went).stands

long-end : (c : Then-at-top) → Long (outs (goal.at.Then-at-top c).Start) (now (goal.at.Then-at-top c).At-loop-at)
long-end c = long (goal.at.Then-at-top c).At-loop-at _ _ _ _ c.loop-at.invariant.2

pub shortest-room-requires : goal.shortest-room-requires
shortest-room-requires c = tt

pub loop-at-init : goal.loop-at-init
loop-at-init c =
    let r = c.shortest-room in
    ((keys (goal.at.loop-at-init c).Start).order, c.requires.cursor_is.place, stands-first (v (goal.at.loop-at-init c).Start) c.args.from.key r.result 0 (outs (goal.at.loop-at-init c).Start) (slots-room c.args.outtimes.now c.args.outvalues.now c.args.outmarks.now r.result r.ensures) (entry_is c.args.from.last) c.requires.cursor_is.last)

pub shape_of-outtimes-then-at-top : goal.shape_of-outtimes-then-at-top
shape_of-outtimes-then-at-top c = (long-end c).times

pub shape_of-outvalues-then-at-top : goal.shape_of-outvalues-then-at-top
shape_of-outvalues-then-at-top c = (long-end c).values

pub shape_of-outmarks-then-at-top : goal.shape_of-outmarks-then-at-top
shape_of-outmarks-then-at-top c = (long-end c).marks

pub returns-then-at-top : goal.returns-then-at-top
returns-then-at-top c =
    filled c.args.from.key c.args.top (room (goal.at.returns-then-at-top c).At-loop-at) (keys (goal.at.returns-then-at-top c).Start) (outs (goal.at.returns-then-at-top c).Start) (now (goal.at.returns-then-at-top c).At-loop-at) (all (goal.at.returns-then-at-top c).At-loop-at) _ (walked_all c.loop-at.invariant.2 c.if-at-top.true) c.loop-at.place c.loop-at.invariant.1

pub overflow_add-k : goal.overflow_add-k
overflow_add-k c = let l = below c in let K = keys (goal.at.overflow_add-k c).Start in omega (arith, K.high)

pub span_at-step-requires : goal.span_at-step-requires
span_at-step-requires c = record { accepted_lists = c.requires.accepted_lists; latest_of = c.requires.latest_of; place_is = c.loop-at.invariant.1; keys = next_keys c }

pub offer-slot-requires : goal.offer-slot-requires
offer-slot-requires c =
    let K = next_keys (goal.at.offer-slot-requires c).Else-at-top in
    record { le_k = (K.low, omega (arith, K.order, K.high)); room = stands-room (v (goal.at.offer-slot-requires c).Start) c.args.from.key (room (goal.at.offer-slot-requires c).At-loop-at) 0 (outs (goal.at.offer-slot-requires c).Start) (has (goal.at.offer-slot-requires c).At-loop-at) c.loop-at.invariant.2 }

pub shape_of-outtimes-then-room-slot : goal.shape_of-outtimes-then-room-slot
shape_of-outtimes-then-room-slot c = (long-full c).times

pub shape_of-outvalues-then-room-slot : goal.shape_of-outvalues-then-room-slot
shape_of-outvalues-then-room-slot c = (long-full c).values

pub shape_of-outmarks-then-room-slot : goal.shape_of-outmarks-then-room-slot
shape_of-outmarks-then-room-slot c = (long-full c).marks

pub returns-then-room-slot : goal.returns-then-room-slot
returns-then-room-slot c =
    let l = below (goal.at.returns-then-room-slot c).Else-at-top in
    filled c.args.from.key c.args.top (room (goal.at.returns-then-room-slot c).At-loop-at) (keys (goal.at.returns-then-room-slot c).Start) (outs (goal.at.returns-then-room-slot c).Start) (after (goal.at.returns-then-room-slot c).After-offer-slot) (all (goal.at.returns-then-room-slot c).At-loop-at) _
    (walked-full (refused c) c.loop-at.invariant.0
    (full (v (goal.at.returns-then-room-slot c).Start) c.args.from.key (room (goal.at.returns-then-room-slot c).At-loop-at) 0 (outs (goal.at.returns-then-room-slot c).Start) (has (goal.at.returns-then-room-slot c).At-loop-at) c.loop-at.invariant.2 (reaches (goal.at.returns-then-room-slot c).At-loop-at) c.span_at-step.ensures.span.here c.offer-slot.ensures (omega arith) c.if-room-slot.true))
    c.loop-at.place c.loop-at.invariant.1

pub fill_in-went-requires : goal.fill_in-went-requires
fill_in-went-requires c =
    let S = c.span_at-step.ensures.span in
    record { keys = S.keys; span_is = S.runs; room = stands-room (v (goal.at.fill_in-went-requires c).Start) c.args.from.key (room (goal.at.fill_in-went-requires c).At-loop-at) 0 (outs (goal.at.fill_in-went-requires c).Start) (has (goal.at.fill_in-went-requires c).At-loop-at) (taken (goal.at.fill_in-went-requires c).Else-room-slot) }

pub shape_of-outtimes-then-not-went : goal.shape_of-outtimes-then-not-went
shape_of-outtimes-then-not-went c = (long-stop (goal.at.shape_of-outtimes-then-not-went c).Then-not-went).times

pub shape_of-outvalues-then-not-went : goal.shape_of-outvalues-then-not-went
shape_of-outvalues-then-not-went c = (long-stop (goal.at.shape_of-outvalues-then-not-went c).Then-not-went).values

pub shape_of-outmarks-then-not-went : goal.shape_of-outmarks-then-not-went
shape_of-outmarks-then-not-went c = (long-stop (goal.at.shape_of-outmarks-then-not-went c).Then-not-went).marks

pub returns-then-not-went : goal.returns-then-not-went
returns-then-not-went c =
    filled c.args.from.key c.args.top (room (goal.at.returns-then-not-went c).At-loop-at) (keys (goal.at.returns-then-not-went c).Start) (outs (goal.at.returns-then-not-went c).Start) (behind (goal.at.returns-then-not-went c).After-fill_in-went) (all (goal.at.returns-then-not-went c).At-loop-at) _ (walked-wider (within (goal.at.returns-then-not-went c).After-fill_in-went).1 (not-true c.fill_in-went.result.done c.if-not-went.true) (walked (goal.at.returns-then-not-went c).After-fill_in-went)) c.span_at-step.result.place c.span_at-step.ensures.place

pub loop-at-smaller : goal.loop-at-smaller
loop-at-smaller c = let h = within (goal.at.loop-at-smaller c).After-fill_in-went in let l = c.loop-at.invariant.0 in omega (arith, h.0, h.1)

pub loop-at-preserved : goal.loop-at-preserved
loop-at-preserved c =
    ((within (goal.at.loop-at-preserved c).After-fill_in-went).1, c.span_at-step.ensures.place, subst (λ (j : ℕ). At (goal.at.loop-at-preserved c).At-loop-at (behind (goal.at.loop-at-preserved c).After-fill_in-went) j (entry_is c.fill_in-went.result.last) c.fill_in-went.result.count) ((walked (goal.at.loop-at-preserved c).After-fill_in-went).whole (not-false c.fill_in-went.result.done c.if-not-went.false)) (walked (goal.at.loop-at-preserved c).After-fill_in-went).stands)
