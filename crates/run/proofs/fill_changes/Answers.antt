-- `run::fill_changes` meets its contract. The invariant: the walk stands at the key at, and place is what is read there. The measure is what is left up to hi. Assumes nothing.
use Rattle.std.specs.Prelude.{Option}
use mathlib.Core.Path.{◌≡◌, refl, sym, ap, ◌∙◌, subst}
use Prim.Native.Nat.{ℕ}
use native.Mathlib.Omega.{arith}
use Rattle.gf.specs.Doubles.{of_key}
use Rattle.definitions.specs.Track.{Entry, Outputs}
use Rattle.definitions.specs.Moments.{outputs}
use Rattle.laws.specs.track.Steps.{Level, StepAt, FirstStep}
use Rattle.laws.specs.cell.Keys.{Keys}
use Rattle.laws.specs.cell.Knots as Knots
use Rattle.cell.specs.step.Lines.{line_is, place_on}
use Rattle.cell.specs.step.Entries.{entry_is}
use Rattle.run.specs.Readings.{Reads, entry_at, reading_at}
use Rattle.run.specs.Walks.{Room, Stands}
use Rattle.run.proofs.Readings.{turns-once, place_inside, place-slots, read-level, read-reaches}
use Rattle.run.proofs.Walking.{stands-first, stands-level, stands-next, stands-full, full, walked_all, walked-full}
use Rattle.run.proofs.fill_changes.Goals.{After-offer-slot, At-loop-step, In-Some, In_default, Start as At-start, Then-room-slot}
use Rattle.run.proofs.fill_changes.Goals as goal

-- from the function's entry: the samples, the keys, what is read, the outputs
reads : (a : At-start) → Reads a.args.ts.now a.args.vs.now a.args.ms.now
reads a = a.requires.reads

keys : (a : At-start) → Keys a.args.k a.args.hi
keys a = a.requires.keys

abbrev f : At-start → ℕ → ℕ
f a = place_on a.args.ts.now a.args.line

abbrev w : At-start → ℕ → Entry
w a = reading_at a.args.ts.now a.args.vs.now a.args.ms.now a.args.line

abbrev outs : At-start → Outputs
outs a = outputs a.args.outtimes.now a.args.outvalues.now a.args.outmarks.now

room : (a : At-start) → Room a.args.room a.args.n (outs a)
room a = a.requires.room

ended : (c : In_default) → Stands (w (goal.at.In_default c).Start) c.args.k c.args.room c.args.n (outs (goal.at.In_default c).Start) (outputs c.loop-step.outtimes c.loop-step.outvalues c.loop-step.outmarks) c.args.hi (entry_is c.loop-step.last) c.loop-step.count
ended c =
    let l : Level (f (goal.at.In_default c).Start) c.loop-step.at c.args.hi = subst (λ (n : Option ℕ). FirstStep (f (goal.at.In_default c).Start) c.loop-step.at c.args.hi n) c.in_default.is c.next_step.ensures in
    stands-level (w (goal.at.In_default c).Start) c.args.k c.args.room c.args.n (outs (goal.at.In_default c).Start) (room (goal.at.In_default c).Start) c.loop-step.invariant.2 c.loop-step.invariant.0 (read-level (reads (goal.at.In_default c).Start) c.args.line l)

found : (c : In-Some) → StepAt (f (goal.at.In-Some c).Start) c.loop-step.at c.args.hi c.in-Some.step
found c = subst (λ (n : Option ℕ). FirstStep (f (goal.at.In-Some c).Start) c.loop-step.at c.args.hi n) c.in-Some.is c.next_step.ensures

abbrev after : After-offer-slot → Outputs
after c = outputs c.offer-slot.new.outtimes c.offer-slot.new.outvalues c.offer-slot.new.outmarks

there : (c : After-offer-slot) → entry_is c.entry_of_sample-entry.result ≡ w (goal.at.After-offer-slot c).Start c.in-Some.step
there c =
    c.entry_of_sample-entry.ensures ∙ ap (entry_at c.args.vs.now c.args.ms.now) c.place_beside-next.ensures

-- without room for it
refused : (c : Then-room-slot) → Stands (w (goal.at.Then-room-slot c).Start) c.args.k c.args.room c.args.n (outs (goal.at.Then-room-slot c).Start) (after (goal.at.Then-room-slot c).After-offer-slot) c.loop-step.at (entry_is c.loop-step.last) c.loop-step.count
refused c =
    stands-full (w (goal.at.Then-room-slot c).Start) c.args.k c.args.room c.args.n (outs (goal.at.Then-room-slot c).Start) (room (goal.at.Then-room-slot c).Start) c.loop-step.invariant.2 (read-reaches (reads (goal.at.Then-room-slot c).Start) c.args.line (found (goal.at.Then-room-slot c).In-Some)) (there (goal.at.Then-room-slot c).After-offer-slot) c.offer-slot.ensures c.if-room-slot.true

pub entry_of_sample-last-requires : goal.entry_of_sample-last-requires
entry_of_sample-last-requires c = let parts = place-slots (reads (goal.at.entry_of_sample-last-requires c).Start) c.args.line c.place_on-place.result c.args.k c.place_on-place.ensures in record { place_in_bounds = parts.0; place_in_bounds_2 = parts.1 }

pub loop-step-init : goal.loop-step-init
loop-step-init c =
    let e = c.entry_of_sample-last.ensures ∙ ap (entry_at c.args.vs.now c.args.ms.now) c.place_on-place.ensures in
    ((keys (goal.at.loop-step-init c).Start).order, c.place_on-place.ensures, stands-first (w (goal.at.loop-step-init c).Start) c.args.k c.args.room c.args.n (outs (goal.at.loop-step-init c).Start) (room (goal.at.loop-step-init c).Start) (entry_is c.entry_of_sample-last.result) e)

-- the clip time at hi
top-is : (b : At-loop-step) → b.along-top.result ≡ Knots.along (line_is b.args.line) (of_key b.args.hi)
top-is b = b.along-top.ensures ∙ ap (Knots.along (line_is b.args.line)) b.of_key.ensures

pub next_step-requires : goal.next_step-requires
next_step-requires c =
    let K = keys (goal.at.next_step-requires c).Start in
    let e = c.loop-step.invariant.1 in
    let h = place_inside (reads (goal.at.next_step-requires c).Start) c.args.line c.loop-step.at in
    let l = c.loop-step.invariant.2.from in
    record { ascending_1 = (reads (goal.at.next_step-requires c).Start).ascending; ascending_2 = omega arith; top_value = top-is c; keys = record { low = omega (arith, K.low, l); order = c.loop-step.invariant.0; high = K.high }; once = turns-once c.loop-step.at l c.requires.left_once; k_value = sym e }

pub returns-in_default : goal.returns-in_default
returns-in_default c = walked_all (ended c) refl

pub entry_of_sample-entry-requires : goal.entry_of_sample-entry-requires
entry_of_sample-entry-requires c =
    let parts = place-slots (reads (goal.at.entry_of_sample-entry-requires c).Start) c.args.line c.place_beside-next.result c.in-Some.step c.place_beside-next.ensures in record { place_in_bounds = parts.0; place_in_bounds_2 = parts.1 }

pub returns-then-room-slot : goal.returns-then-room-slot
returns-then-room-slot c =
    let p = found (goal.at.returns-then-room-slot c).In-Some in
    walked-full (refused c) c.loop-step.invariant.0
    (full (w (goal.at.returns-then-room-slot c).Start) c.args.k c.args.room c.args.n (outs (goal.at.returns-then-room-slot c).Start) (room (goal.at.returns-then-room-slot c).Start) c.loop-step.invariant.2 (read-reaches (reads (goal.at.returns-then-room-slot c).Start) c.args.line p) (there (goal.at.returns-then-room-slot c).After-offer-slot) c.offer-slot.ensures p.within c.if-room-slot.true)

pub loop-step-preserved : goal.loop-step-preserved
loop-step-preserved c =
    let p = found (goal.at.loop-step-preserved c).In-Some in
    let h = c.if-room-slot.false in
    (p.within, c.place_beside-next.ensures, stands-next (w (goal.at.loop-step-preserved c).Start) c.args.k c.args.room c.args.n (outs (goal.at.loop-step-preserved c).Start) (room (goal.at.loop-step-preserved c).Start) c.loop-step.invariant.2 (read-reaches (reads (goal.at.loop-step-preserved c).Start) c.args.line p) (there (goal.at.loop-step-preserved c).After-offer-slot) c.offer-slot.ensures (omega arith))
