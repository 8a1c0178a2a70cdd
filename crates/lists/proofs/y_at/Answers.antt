-- `lists::y_at` meets its contract: below the first knot, from the last on, and between two. Assumes nothing.
use Prim.Native.Nat.{suc, ◌+◌, ◌-◌, ◌≤◌, ◌<◌}
use mathlib.Core.Path.{◌≡◌, sym, ap, subst, ◌∙◌}
use native.Mathlib.Omega.{arith}
use borrow.Author.Rules.{rules}
use lib.Dec.{T}
use lib.ListN.{length}
use lib.Ieee.{Float, nan, binary64, fits}
use mathlib.Core.List.{List}
use Rattle.definitions.specs.declared.Knot.{Knot}
use Rattle.definitions.specs.declared.Segment.{Segment}
use Rattle.definitions.specs.Timing.{on_segment}
use Rattle.laws.proofs.list.Places.{at_most, up_to, last-is}
use Rattle.lists.specs.Segments.{knot_at}
use Rattle.lists.proofs.ClipTimes.{map-none, map_first, map_last, map-between, next-knot, no_knot}
use Rattle.lists.proofs.y_at.Goals.{After-last_at_most-lo, Else-lo-last, Start as At-start}
use Rattle.lists.proofs.y_at.Goals as goal

abbrev xs : After-last_at_most-lo → List Float
xs c = c.args.xs.now

abbrev ys : After-last_at_most-lo → List Float
ys c = c.args.ys.now

-- what owning an `f64` tells: the format holds it
held : (c : At-start) → T (fits binary64 c.args.t)
held c = subst T (sym c.well_formed.1.1.0.1) tt

-- the last knot lies above t, or t is a NaN
below : (c : After-last_at_most-lo) → at_most (xs c) c.args.t ≤ length (xs c) - 1
below c = up_to c.args.t (held (goal.at.After-last_at_most-lo c).Start) nan (xs c) c.requires.fact_1 (length (xs c) - 1) (omega arith) c.if-xs-last.false

found : (c : After-last_at_most-lo) → c.last_at_most-lo.result ≡ at_most (xs c) c.args.t - 1
found c = c.last_at_most-lo.ensures ∙ last-is c.args.t (held (goal.at.After-last_at_most-lo c).Start) (xs c) c.requires.fact_1

inside : (c : Else-lo-last) → c.last_at_most-lo.result + 1 < length (xs (goal.at.Else-lo-last c).After-last_at_most-lo)
inside c = omega (arith, below (goal.at.Else-lo-last c).After-last_at_most-lo, found (goal.at.Else-lo-last c).After-last_at_most-lo)

pub returns-then-n-eq0 : goal.returns-then-n-eq0
returns-then-n-eq0 c = let a = c.args in sym (map-none a.xs.now a.ys.now a.t c.if-n-eq0.true)

pub returns-then-t-xs : goal.returns-then-t-xs
returns-then-t-xs c =
    let s = c in
    sym (map_first nan s.args.xs.now s.args.ys.now s.args.t s.requires.fact_2 (omega arith) c.if-t-xs.true)

pub returns-then-xs-last : goal.returns-then-xs-last
returns-then-xs-last c =
    let s = c in
    sym (map_last nan s.args.xs.now s.args.ys.now s.args.t (length s.args.xs.now - 1) s.requires.fact_2 (omega arith) c.if-t-xs.false c.if-xs-last.true)

pub returns-then-lo-last : goal.returns-then-lo-last
returns-then-lo-last c =
    let a = c in
    let s = a in
    let i = a.last_at_most-lo.result in
    let z : i ≡ 0 = omega (arith, below (goal.at.returns-then-lo-last a).After-last_at_most-lo, found (goal.at.returns-then-lo-last a).After-last_at_most-lo) in
    let n : length (xs (goal.at.returns-then-lo-last a).After-last_at_most-lo) ≤ suc i = omega arith in
    c.clip_time.ensures
    ∙ ap (λ (k : Knot). on_segment k k s.args.t) c.knot_at-only.ensures
    ∙ map-between nan (xs (goal.at.returns-then-lo-last a).After-last_at_most-lo) (ys (goal.at.returns-then-lo-last a).After-last_at_most-lo) s.args.t (length (xs (goal.at.returns-then-lo-last a).After-last_at_most-lo) - 1) i (knot_at (xs (goal.at.returns-then-lo-last a).After-last_at_most-lo) (ys (goal.at.returns-then-lo-last a).After-last_at_most-lo) i) s.requires.fact_2 (omega arith) a.if-t-xs.false a.if-xs-last.false
    a.last_at_most-lo.ensures (omega arith) (no_knot nan (xs (goal.at.returns-then-lo-last a).After-last_at_most-lo) (ys (goal.at.returns-then-lo-last a).After-last_at_most-lo) i s.requires.fact_2 n z)

pub segment_at-requires : goal.segment_at-requires
segment_at-requires c = let h = inside c in search rules

pub returns : goal.returns
returns c =
    let a = c in
    let s = a in
    let i = a.last_at_most-lo.result in
    let n : suc i < length (xs (goal.at.returns a).After-last_at_most-lo) = omega (arith, inside (goal.at.returns c).Else-lo-last) in
    c.clip_time-2.ensures
    ∙ ap (λ (q : Segment). on_segment q.a q.b s.args.t) c.segment_at.ensures
    ∙ map-between nan (xs (goal.at.returns a).After-last_at_most-lo) (ys (goal.at.returns a).After-last_at_most-lo) s.args.t (length (xs (goal.at.returns a).After-last_at_most-lo) - 1) i (knot_at (xs (goal.at.returns a).After-last_at_most-lo) (ys (goal.at.returns a).After-last_at_most-lo) (i + 1)) s.requires.fact_2 (omega arith) a.if-t-xs.false a.if-xs-last.false
    a.last_at_most-lo.ensures (omega arith) (next-knot nan (xs (goal.at.returns a).After-last_at_most-lo) (ys (goal.at.returns a).After-last_at_most-lo) i (knot_at (xs (goal.at.returns a).After-last_at_most-lo) (ys (goal.at.returns a).After-last_at_most-lo) 0) s.requires.fact_2 n)
