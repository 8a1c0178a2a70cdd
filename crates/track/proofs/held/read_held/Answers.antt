-- `held::read_held` meets its contract. The times of the track that is lent are the front of the list, which is searched; the reply is what holds after as many changes as are found.
-- Assumes nothing.
use Prim.Native.Nat.{ℕ, suc, ◌-◌, ◌≤◌, ◌<◌, min}
use mathlib.Core.Path.{◌≡◌, refl, sym, ap, ◌∙◌}
use mathlib.Core.List.{List}
use native.Mathlib.Omega.{arith}
use lib.ListN.{length, take}
use lib.Ieee.{Float}
use lib.Seq.{length-take-le}
use Rattle.definitions.specs.Track.{Entry, Track, change_times}
use Rattle.definitions.specs.Reading.{entry, track_of_lists, partition_point, held_after, read_by_halves}
use Rattle.definitions.proofs.Reading.{partition-within}
use Rattle.track.proofs.Fronts.{front-times, held_at}
use Rattle.track.proofs.held.read_held.Goals.{After-partition_point-found, After-shortest-n, Else-found-eq0, Start as At-start}
use Rattle.track.proofs.held.read_held.Goals as goal

shortest-is : (p : After-shortest-n) → p.shortest-n.result ≡ min (length p.args.times.now) (min (length p.args.values.now) (length p.args.marks.now))
shortest-is p = p.shortest-n.ensures

pub slice_bounds-partition_point-end : goal.slice_bounds-partition_point-end
slice_bounds-partition_point-end c = let q = shortest-is c in sym (length-take-le c.shortest-n.result c.args.times.now (omega arith))

-- the track that is lent
abbrev lent : At-start → Track
lent s = track_of_lists s.args.value s.args.mark s.args.times.now s.args.values.now s.args.marks.now

-- as many of its changes are found
found-is : (p : After-partition_point-found) → p.partition_point-found.result ≡ partition_point (change_times (lent (goal.at.After-partition_point-found p).Start).changes) p.args.t
found-is p =
    p.partition_point-found.ensures
    ∙ ap (λ (l : List Float). partition_point l p.args.t)
    (ap (λ (n : ℕ). take n p.args.times.now) (shortest-is (goal.at.After-partition_point-found p).After-shortest-n) ∙ sym (front-times p.args.times.now p.args.values.now p.args.marks.now))

-- at most as many as the shortest list has
found_within : (p : After-partition_point-found) → p.partition_point-found.result ≤ p.shortest-n.result
found_within p =
    let n = p.shortest-n.result in
    let w = partition-within (take n p.args.times.now) p.args.t in
    let f : p.partition_point-found.result ≡ partition_point (take n p.args.times.now) p.args.t = p.partition_point-found.ensures in
    let l = length-take-le n p.args.times.now (let q = shortest-is (goal.at.After-partition_point-found p).After-shortest-n in omega arith) in
    omega arith

-- what is read after a number of changes
reads : (p : After-partition_point-found) (k : ℕ) (e : Entry) → p.partition_point-found.result ≡ k → e ≡ held_after k (lent (goal.at.After-partition_point-found p).Start).initial (lent (goal.at.After-partition_point-found p).Start).changes
    → e ≡ read_by_halves (lent (goal.at.After-partition_point-found p).Start) p.args.t
unfolding read_by_halves
reads p k e q r =
    let s = lent (goal.at.After-partition_point-found p).Start in
    r ∙ ap (λ (n : ℕ). held_after n s.initial s.changes) (sym q ∙ found-is p)

pub returns-then-found-eq0 : goal.returns-then-found-eq0
returns-then-found-eq0 c = reads (goal.at.returns-then-found-eq0 c).After-partition_point-found 0 _ c.if-found-eq0.true (unfold held_after in refl)

inside : (c : Else-found-eq0) → c.partition_point-found.result - 1 < c.shortest-n.result
inside c = let w = found_within (goal.at.Else-found-eq0 c).After-partition_point-found in omega arith

pub offset_bounds-values-last : goal.offset_bounds-values-last
offset_bounds-values-last c = let i = inside c in let q = shortest-is (goal.at.offset_bounds-values-last c).After-shortest-n in omega arith

pub bounds-values-last : goal.bounds-values-last
bounds-values-last c = let i = inside (goal.at.bounds-values-last c).Else-found-eq0 in let q = shortest-is (goal.at.bounds-values-last c).After-shortest-n in omega arith

pub bounds-marks-last : goal.bounds-marks-last
bounds-marks-last c = let i = inside (goal.at.bounds-marks-last c).Else-found-eq0 in let q = shortest-is (goal.at.bounds-marks-last c).After-shortest-n in omega arith

pub returns : goal.returns
returns c =
    let a = c.args in
    let k = c.partition_point-found.result - 1 in
    let i = inside (goal.at.returns c).Else-found-eq0 in
    let q = shortest-is (goal.at.returns c).After-shortest-n in
    reads (goal.at.returns c).After-partition_point-found (suc k) _ (omega arith) (sym (held_at a.times.now a.values.now a.marks.now (entry a.value a.mark) k (omega arith)))
