-- Two neighbouring knots of a set. Assumes nothing.
use Rattle.std.specs.Prelude.{T}
use Rattle.std.specs.Float.Ieee.{le}
use Rattle.definitions.specs.declared.Knot.{Knot}
use Rattle.laws.specs.cell.Knots.{SoundKnot}

-- two neighbouring knots of a set
pub record SoundSegment (q : Knot × Knot) : Type 0 where
  pub first : SoundKnot q.0
  pub second : SoundKnot q.1
  pub wide : T (le q.0.x q.1.x)
