-- `lists::segment::segment_at` meets its contract. Assumes nothing.
use mathlib.Core.Path.{ap₂}
use Rattle.definitions.specs.declared.Knot.{Knot}
use Rattle.definitions.specs.declared.Segment.{Segment}
use Rattle.lists.proofs.segment.segment_at.Goals as goal

abbrev joined : Knot → Knot → Segment
joined a b = record { a = a; b = b }

pub returns : goal.returns
returns c = ap₂ joined c.knot_at-a.ensures c.knot_at-b.ensures
