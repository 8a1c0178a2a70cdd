-- `window::search::near_segment` meets its contract. Assumes nothing.
use mathlib.Core.Path.{sym, subst}
use Rattle.definitions.specs.declared.Segment.{Segment}
use Rattle.window.specs.SoundSegments.{SoundSegment}
use Rattle.window.proofs.search.LatestLaws.{segment-here}
use Rattle.window.proofs.search.near_segment.Goals as goal

pub near_crossing-found-requires : goal.near_crossing-found-requires
near_crossing-found-requires c =
    record { fact_1 = subst (λ (q : Segment). SoundSegment (q.a, q.b)) (sym c.segment_at-s.ensures) (segment-here c.args.xs.now c.args.ys.now c.requires.fact_1.paired c.requires.fact_1.segments c.args.j c.requires.fact_2); fact_2 = c.requires.fact_1.samples; fact_3 = c.requires.fact_1.faces; fact_4 = c.crossing-n.ensures }
