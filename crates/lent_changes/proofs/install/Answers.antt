-- `lent_changes::install` meets its contract: the prepared set in the lent lists. Assumes nothing.
use Rattle.resolver.specs.declared.Resolver.{Resolver}
use Rattle.resolver.specs.State.{lent_state}
use Rattle.resolver.proofs.Laws.{unpacks}
use Rattle.lent_changes.proofs.install.Goals.{Start as At-start}
use Rattle.lent_changes.proofs.install.Goals as goal

abbrev state : At-start → Resolver
state s = let a = s.args in lent_state a.shape a.starts.now a.numbers.now a.xs.now a.ys.now a.blocks.now

pub unpacked-counts-requires : goal.unpacked-counts-requires
unpacked-counts-requires c =
    let w = c.requires.made.whole in
    record { fact_1 = c.requires.made_set.held; fact_2 = record { of-starts = w.in-starts.long; of-numbers = w.in-numbers.long; of-xs = w.in-xs.long; of-ys = w.in_ys.long; of_blocks = w.in_blocks.long } }

pub returns : goal.returns
returns c = rw c.manifest.ensures (unpacks (state (goal.at.returns c).Start) c.args.set c.requires.made_set c.unpacked-counts.ensures)
