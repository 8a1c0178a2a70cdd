-- A window of a set without knots: one cell reads it. Assumes nothing.
use Rattle.std.specs.Prelude.{cond, ltb}
use Rattle.cell.specs.declared.step.line.Line.TheVariants.{Identity}
use Rattle.window.specs.declared.search.Window.{Window}
use Rattle.cell.specs.declared.Cell.{Cell}
use Rattle.cell.specs.declared.Cell.TheVariants.{Constant, Reading}

-- the clip's samples where the window has some, else what stands in for them
abbrev pub knotless_cell : Window → Cell
knotless_cell w = cond (ltb w.begin w.end) (Reading w.clip Identity) (Constant w.gap)
