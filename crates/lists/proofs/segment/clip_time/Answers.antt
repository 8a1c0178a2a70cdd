-- `lists::segment::clip_time` meets its contract. Assumes nothing.
use Rattle.definitions.specs.Timing.{on_segment}
use Rattle.lists.proofs.segment.clip_time.Goals as goal

pub returns-then-t-s : goal.returns-then-t-s
unfolding on_segment
returns-then-t-s c = rw c.if-t-s.true

pub returns : goal.returns
unfolding on_segment
returns c = rw c.if-t-s.false c.lerp.ensures
