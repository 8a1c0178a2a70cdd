-- `count::change_count` meets its contract: without segments there are no inverse times. Assumes nothing.
use Rattle.window.proofs.Parts.{ready-readable}
use Rattle.cell.proofs.Lent.{few-knots}
use Rattle.track.proofs.Walks.{no-latest}
use Rattle.track.proofs.count.change_count.Goals as goal

pub count_from_least-requires : goal.count_from_least-requires
count_from_least-requires c = record { accepted_lists = c.requires; latest_of = no-latest _ _ }

pub latest_inverses-latest-requires : goal.latest_inverses-latest-requires
latest_inverses-latest-requires c = record { fact_1 = c.requires.knots-paired; fact_2 = few-knots c.requires; fact_3 = (ready-readable c.requires).segments }
