-- `window::search::latest::latest_inverse` meets its contract: top stands for the segments before k. Assumes nothing.
use mathlib.Core.Path.{sym, subst}
use native.Mathlib.Omega.{arith}
use lib.Ieee.{of_bits, neg, div, fits, is_nan}
use Rattle.definitions.specs.declared.Segment.{Segment}
use Rattle.window.specs.SoundSegments.{SoundSegment}
use Rattle.window.specs.search.Latest.{LaterInverse}
use Rattle.window.proofs.search.LatestLaws.{reach-none, reach-next, segment-here}
use Rattle.window.proofs.search.latest.latest_inverse.Goals as goal

pub loop-k-init : goal.loop-k-init
unfolding of_bits neg div fits is_nan
loop-k-init c = reach-none _ _ _ (tt, tt)

pub later_inverse-top-requires-clause-fact_1 : goal.later_inverse-top-requires-clause-fact_1
later_inverse-top-requires-clause-fact_1 c =
    let a = c.args in
    subst (λ (q : Segment). SoundSegment (q.a, q.b)) (sym c.segment_at.ensures) (segment-here a.xs.now a.ys.now c.requires.fact_1 c.requires.fact_2 c.loop-k.k (omega (arith, c.requires.fact_3)))

pub loop-k-preserved : goal.loop-k-preserved
loop-k-preserved c =
    let a = c.args in
    let l = c.loop-k in
    reach-next a.xs.now a.ys.now l.top c.later_inverse-top.result l.k l.invariant (subst (λ (q : Segment). LaterInverse (q.a, q.b) l.top c.later_inverse-top.result) c.segment_at.ensures c.later_inverse-top.ensures)
