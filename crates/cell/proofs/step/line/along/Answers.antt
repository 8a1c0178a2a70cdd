-- `line::along` meets its contract, by the line's form. Assumes nothing.
use mathlib.Core.Path.{sym, ◌∙◌}
use Rattle.cell.proofs.step.Lines.{along-plain, along-flat, along-segment}
use Rattle.cell.proofs.step.line.along.Goals as goal

pub returns-in-Identity : goal.returns-in-Identity
returns-in-Identity c = let a = c.args in sym (along-plain a.line a.t c.in-Identity.is)

pub returns-in-Flat : goal.returns-in-Flat
returns-in-Flat c = let a = c.args in sym (along-flat a.line a.t c.in-Flat.y c.in-Flat.is)

pub returns-in-Segment : goal.returns-in-Segment
returns-in-Segment c =
    let a = c.args in
    c.clip_time.ensures ∙ sym (along-segment a.line a.t c.in-Segment.s c.in-Segment.is)
