-- `count::count_from_least` meets its contract: there is room for every change. Assumes nothing.
use lib.ListN.{length}
use Rattle.laws.specs.cell.Lent.{set_of, samples_of}
use Rattle.track.proofs.Walks.{slots-some}
use Rattle.track.proofs.Counts.{count-all}
use Rattle.track.proofs.count.count_from_least.Goals as goal

pub count_within-requires : goal.count_within-requires
count_within-requires c =
    record { accepted_lists = c.requires.accepted_lists; latest_of = c.requires.latest_of; cursor_is = c.least_cursor-from.ensures.0; nonzero = slots-some _ _ _ _ _ _ }

pub returns : goal.returns
returns c =
    let a = c.args in
    count-all (set_of (length a.ends.now) a.starts.now a.clips.now a.xs.now a.ys.now a.blocks.now a.m) (samples_of a.times.now a.values.now a.marks.now a.ends.now)
    _ _ c.least_cursor-from.ensures.1 c.count_within.ensures
