-- `set_changes::retime` meets its contract: 20, else the set of the name. Assumes nothing.
use Rattle.pages.specs.Pages.{Pages, pages}
use Rattle.set_changes.proofs.Moved.{below, retimes, retimes-20}
use Rattle.set_changes.proofs.retime.Goals.{Start as At-start}
use Rattle.set_changes.proofs.retime.Goals as goal

abbrev lent : At-start → Pages
lent s = let a = s.args in pages a.starts.now a.numbers.now a.xs.now a.ys.now a.blocks.now a.defaults.now a.counts.now a.bytes.now

pub retime_at-requires-clause-fact_2 : goal.retime_at-requires-clause-fact_2
retime_at-requires-clause-fact_2 c = below (lent (goal.at.retime_at-requires-clause-fact_2 c).Start) c.requires c.args.name.now c.args.o _ c.in-Some.ensures

pub returns : goal.returns
returns c = retimes (lent (goal.at.returns c).Start) c.requires c.args.name.now c.args.o _ c.in-Some.ensures _ _ c.retime_at.ensures

pub returns-in_default : goal.returns-in_default
returns-in_default c = retimes-20 (lent (goal.at.returns-in_default c).Start) c.requires c.args.name.now c.args.o c.in_default.ensures
