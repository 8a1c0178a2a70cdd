-- `run::inside::fill_run` meets its contract. The invariant: the walk stands at the key at, and place is that of at among the samples. The measure is how many samples may still come. Assumes nothing.
use Rattle.std.specs.Prelude.{Option, None}
use mathlib.Core.Path.{◌≡◌, refl, sym, ◌∙◌, subst}
use Prim.Native.Nat.{ℕ}
use native.Mathlib.Omega.{arith}
use lib.Ieee.{Float}
use Rattle.definitions.specs.declared.Knot.{Knot}
use Rattle.definitions.specs.Track.{Entry, Outputs}
use Rattle.definitions.specs.Moments.{outputs}
use Rattle.window.specs.nearest.Crossings.{is_beyond, Crossing}
use Rattle.cell.specs.step.Entries.{entry_is}
use Rattle.run.specs.declared.inside.NextInRun.{NextInRun}
use Rattle.run.specs.Runs.{passing_at, Passing, InRunAt, NextInRunIs}
use Rattle.run.specs.Walks.{Room, Stands}
use Rattle.run.proofs.Runs.{begins}
use Rattle.run.proofs.Between.{stays, passed_reads, passed-reaches}
use Rattle.run.proofs.Walking.{stands-first, stands-room, stands-level, stands-next, stands-full, full, walked_all, walked-full}
use Rattle.run.proofs.inside.fill_run.Goals.{After-offer-behind, In-Some, In_default, Start as At-start, Then-room-behind}
use Rattle.run.proofs.inside.fill_run.Goals as goal

-- from the function's entry: the segment, what is asked, what is read, the outputs
abbrev q : At-start → Knot × Knot
q a = (a.args.s.a, a.args.s.b)

abbrev w : At-start → Float → ℕ → Entry
w a floor = passing_at a.args.cs.now a.args.vs.now a.args.ms.now (q a) floor

abbrev Asks : At-start → Float → Type 0
Asks a floor = Passing a.args.cs.now a.args.vs.now a.args.ms.now (q a) floor (entry_is a.args.last) a.args.k a.args.hi

-- of some floor; what needs no floor is told by that
asked : (a : At-start) → Asks a a.requires.passing_on.floor
asked a = a.requires.passing_on.passing

abbrev outs : At-start → Outputs
outs a = outputs a.args.outtimes.now a.args.outvalues.now a.args.outmarks.now

room : (a : At-start) → Room a.args.room a.args.slot (outs a)
room a = a.requires.room

ended : (c : In_default) (f : Float) → Asks (goal.at.In_default c).Start f → Stands (w (goal.at.In_default c).Start f) c.args.k c.args.room c.args.slot (outs (goal.at.In_default c).Start) (outputs c.loop-next.outtimes c.loop-next.outvalues c.loop-next.outmarks) c.args.hi (entry_is c.loop-next.held) c.loop-next.count
ended c f P =
    let S = c.loop-next.invariant.2 f P in
    let l : NextInRunIs c.args.cs.now (q (goal.at.In_default c).Start) c.loop-next.place c.loop-next.at c.args.hi None = subst (λ (r : Option NextInRun). NextInRunIs c.args.cs.now (q (goal.at.In_default c).Start) c.loop-next.place c.loop-next.at c.args.hi r) c.in_default.is (c.next_in_run.ensures c.loop-next.at c.loop-next.invariant.1) in
    stands-level (w (goal.at.In_default c).Start f) c.args.k c.args.room c.args.slot (outs (goal.at.In_default c).Start) (room (goal.at.In_default c).Start) S c.loop-next.invariant.0 (stays P c.loop-next.at c.args.hi S.from (omega arith) l)

found : (c : In-Some) → InRunAt c.args.cs.now (q (goal.at.In-Some c).Start) c.loop-next.place c.loop-next.at c.args.hi c.in-Some.next.key c.in-Some.next.sample c.in-Some.next.behind
found c = subst (λ (r : Option NextInRun). NextInRunIs c.args.cs.now (q (goal.at.In-Some c).Start) c.loop-next.place c.loop-next.at c.args.hi r) c.in-Some.is (c.next_in_run.ensures c.loop-next.at c.loop-next.invariant.1)

abbrev after : After-offer-behind → Outputs
after c = outputs c.offer-behind.new.outtimes c.offer-behind.new.outvalues c.offer-behind.new.outmarks

there : (c : After-offer-behind) (f : Float) → Asks (goal.at.After-offer-behind c).Start f → entry_is c.entry_along-entry.result ≡ w (goal.at.After-offer-behind c).Start f c.in-Some.next.key
there c f P =
    c.entry_along-entry.ensures ∙ sym (passed_reads P (c.loop-next.invariant.2 f P).from (found (goal.at.After-offer-behind c).In-Some))

-- without room for it
refused : (c : Then-room-behind) → (f : Float) → Asks (goal.at.Then-room-behind c).Start f → Stands (w (goal.at.Then-room-behind c).Start f) c.args.k c.args.room c.args.slot (outs (goal.at.Then-room-behind c).Start) (after (goal.at.Then-room-behind c).After-offer-behind) c.loop-next.at (entry_is c.loop-next.held) c.loop-next.count
refused c f P =
    let S = c.loop-next.invariant.2 f P in
    stands-full (w (goal.at.Then-room-behind c).Start f) c.args.k c.args.room c.args.slot (outs (goal.at.Then-room-behind c).Start) (room (goal.at.Then-room-behind c).Start) S (passed-reaches P S.from (found (goal.at.Then-room-behind c).In-Some)) (there (goal.at.Then-room-behind c).After-offer-behind f P) c.offer-behind.ensures c.if-room-behind.true

pub loop-next-init : goal.loop-next-init
loop-next-init c =
    let R = asked (goal.at.loop-next-init c).Start in
    let K = R.keys in
    let U = subst (λ (t : Float). Crossing (is_beyond t (q (goal.at.loop-next-init c).Start)) c.args.cs.now c.crossing-place.result) c.of_key.ensures c.crossing-place.ensures in (
      K.order,
      begins c.args.cs.now R.reads.ascending (q (goal.at.loop-next-init c).Start) R.segment c.args.k c.crossing-place.result K.low (omega (arith, K.order, K.high)) U,
      λ f P. stands-first (w (goal.at.loop-next-init c).Start f) c.args.k c.args.room c.args.slot (outs (goal.at.loop-next-init c).Start) (room (goal.at.loop-next-init c).Start) (entry_is c.args.last) P.last,
    )

pub returns-in_default : goal.returns-in_default
returns-in_default c = λ f P. walked_all (ended c f P) refl

pub entry_along-entry-requires : goal.entry_along-entry-requires
entry_along-entry-requires c =
    let R = asked (goal.at.entry_along-entry-requires c).Start in
    let p = found (goal.at.entry_along-entry-requires c).In-Some in
    let l = (c.loop-next.invariant.2 _ R).from in
    record { reads = R.reads; le_k = (omega (arith, R.keys.low, l, p.from), omega (arith, R.keys.high, p.within)) }

pub offer-behind-requires : goal.offer-behind-requires
offer-behind-requires c =
    let K = (asked (goal.at.offer-behind-requires c).Start).keys in
    let f = found (goal.at.offer-behind-requires c).In-Some in
    let S = c.loop-next.invariant.2 _ (asked (goal.at.offer-behind-requires c).Start) in
    let l = S.from in
    record { le_k = (omega (arith, K.low, l, f.from), omega (arith, K.high, f.within)); room = stands-room (w (goal.at.offer-behind-requires c).Start c.requires.passing_on.floor) c.args.k c.args.room c.args.slot (outs (goal.at.offer-behind-requires c).Start) (room (goal.at.offer-behind-requires c).Start) S }

pub returns-then-room-behind : goal.returns-then-room-behind
returns-then-room-behind c = λ f P.
    let p = found (goal.at.returns-then-room-behind c).In-Some in
    let S = c.loop-next.invariant.2 f P in
    walked-full (refused c f P) c.loop-next.invariant.0
    (full (w (goal.at.returns-then-room-behind c).Start f) c.args.k c.args.room c.args.slot (outs (goal.at.returns-then-room-behind c).Start) (room (goal.at.returns-then-room-behind c).Start) S (passed-reaches P S.from p) (there (goal.at.returns-then-room-behind c).After-offer-behind f P) c.offer-behind.ensures p.within c.if-room-behind.true)

pub loop-next-smaller : goal.loop-next-smaller
loop-next-smaller c = (found (goal.at.loop-next-smaller c).In-Some).less

pub loop-next-preserved : goal.loop-next-preserved
loop-next-preserved c =
    let p = found (goal.at.loop-next-preserved c).In-Some in
    let h = c.if-room-behind.false in
    (p.within, p.place, λ f P. let S = c.loop-next.invariant.2 f P in stands-next (w (goal.at.loop-next-preserved c).Start f) c.args.k c.args.room c.args.slot (outs (goal.at.loop-next-preserved c).Start) (room (goal.at.loop-next-preserved c).Start) S (passed-reaches P S.from p) (there (goal.at.loop-next-preserved c).After-offer-behind f P) c.offer-behind.ensures (omega arith))
