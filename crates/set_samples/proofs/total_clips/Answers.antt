-- `set_samples::total_clips` meets its contract: the sum is std's, and fits, since a dispatcher holds few clips. Assumes nothing.
use Rattle.std.proofs.Common.{rules}
use Rattle.set_samples.proofs.Sums.{sum_is, clips-fit}
use Rattle.set_samples.proofs.total_clips.Goals as goal

pub sum-requires-clause-fits : goal.sum-requires-clause-fits
sum-requires-clause-fits c = let fits = clips-fit c.args.clips.now c.requires in search rules

pub returns : goal.returns
returns c = let e = sum_is c.args.clips.now in search (rules, e)
