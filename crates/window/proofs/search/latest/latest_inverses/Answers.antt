-- `window::search::latest::latest_inverses` meets its contract: the latest of the segments before the last knot that was passed stand. Assumes nothing.
use Prim.Native.Nat.{◌+◌, ◌-◌}
use mathlib.Core.Path.{◌≡◌, sym, subst}
use native.Mathlib.Omega.{arith}
use lib.ListN.{set}
use lib.Ieee.{of_bits, neg, div, fits, is_nan}
use Rattle.definitions.specs.declared.Segment.{Segment}
use Rattle.window.specs.SoundSegments.{SoundSegment}
use Rattle.window.specs.search.Latest.{LaterInverse}
use Rattle.window.proofs.search.LatestLaws.{TopsTo, latest-none, latest-next, segment-here}
use Rattle.window.proofs.search.latest.latest_inverses.Goals as goal

pub loop-i-init : goal.loop-i-init
unfolding of_bits neg div fits is_nan
loop-i-init c = latest-none _ _ _ _ c.some_times-items.ensures (tt, tt)

pub later_inverse-top-requires-clause-fact_1 : goal.later_inverse-top-requires-clause-fact_1
later_inverse-top-requires-clause-fact_1 c =
    let a = c.args in
    subst (λ (q : Segment). SoundSegment (q.a, q.b)) (sym c.segment_at.ensures) (segment-here a.xs.now a.ys.now c.requires.fact_1 c.requires.fact_3 (c.loop-i.i - 1) (omega arith))

pub loop-i-preserved : goal.loop-i-preserved
loop-i-preserved c =
    let a = c.args in
    let l = c.loop-i in
    let top = c.later_inverse-top.result in
    let N = subst (λ (q : Segment). LaterInverse (q.a, q.b) l.top top) c.segment_at.ensures c.later_inverse-top.ensures in
    let next : l.i - 1 + 1 ≡ l.i + 1 - 1 = omega arith in
    subst (TopsTo a.xs.now a.ys.now (set l.items (l.i - 1) top) top) next (latest-next a.xs.now a.ys.now l.items l.top top (l.i - 1) (omega (arith, l.invariant.long, c.requires.fact_2)) l.invariant N)
