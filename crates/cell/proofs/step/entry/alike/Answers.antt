-- `entry::alike` meets its contract. Assumes nothing.
use borrow.Author.Rules.{rules}
use Rattle.definitions.specs.Track.{alike}
use Rattle.cell.proofs.step.entry.alike.Goals as goal

pub returns-then-a-ne0 : goal.returns-then-a-ne0
unfolding alike
returns-then-a-ne0 c = search rules

pub returns-else-a-ne0 : goal.returns-else-a-ne0
unfolding alike
returns-else-a-ne0 c = search rules

pub returns-else-a-b : goal.returns-else-a-b
unfolding alike
returns-else-a-b c = search rules
