-- `sdf::scans::bad_marks` meets its contract: the largest mark answers for all. Assumes nothing.
use mathlib.Core.Path.{◌≡◌, ◌∙◌}
use borrow.Author.Rules.{rules}
use Rattle.definitions.specs.Samples.{bad_marks}
use Rattle.sdf.proofs.Scanned.{Largest, above_block, by-largest}
use Rattle.sdf.proofs.scans.bad_marks.Goals as goal

pub returns : goal.returns
unfolding bad_marks
returns c =
    let ms = c.args.marks.now in
    let largest : Largest ms c.max.result = search rules in
    let e : c.is_some_and.result ≡ above_block c.max.result = search rules in
    e ∙ by-largest ms c.max.result largest
