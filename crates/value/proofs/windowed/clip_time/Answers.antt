-- `value::windowed::clip_time` meets its contract. Assumes nothing.
use mathlib.Core.Path.{sym, ap, ◌∙◌}
use lib.Dec.{T}
use lib.Ieee.{binary64, fits}
use Rattle.definitions.specs.declared.Segment.{Segment}
use Rattle.definitions.specs.ClipSet.{clip}
use Rattle.definitions.specs.Timing.{on_segment, map_stage_to_clip}
use Rattle.value.specs.ClipTimes.{OnSegment}
use Rattle.value.proofs.ClipTimes.{on-between, on-segment}
use borrow.Author.Rules.{rules}
use Rattle.value.proofs.windowed.clip_time.Goals.{Start as At-start, Then-is_between}
use Rattle.value.proofs.windowed.clip_time.Goals as goal

-- what owning an `f64` tells: the format holds it
held : (s : At-start) → T (fits binary64 s.args.t.0)
held s = search rules

on : (o : Then-is_between) → OnSegment o.args.xs.now o.args.t.0 o.args.knot
on o = on-between _ _ _ (sym o.is_between.ensures ∙ o.if-is_between.true)

pub segment_at-requires : goal.segment_at-requires
segment_at-requires c = record { fact_1 = c.requires.fact_2; fact_2 = (on c).place }

pub returns-then-is_between : goal.returns-then-is_between
unfolding map_stage_to_clip
returns-then-is_between c =
    let a = c.args in
    ap clip
    (c.clip_time.ensures
    ∙ ap (λ (q : Segment). on_segment q.a q.b a.t.0) c.segment_at.ensures
    ∙ on-segment a.xs.now a.ys.now c.requires.fact_1 c.requires.fact_2 a.t.0 (held (goal.at.returns-then-is_between c).Start) a.knot (on (goal.at.returns-then-is_between c).Then-is_between))
