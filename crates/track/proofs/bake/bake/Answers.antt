-- `bake::bake` meets its contract: without segments there are no inverse times. Assumes nothing.
use Rattle.window.proofs.Parts.{ready-readable}
use Rattle.cell.proofs.Lent.{few-knots}
use Rattle.track.proofs.Walks.{no-latest}
use Rattle.track.proofs.bake.bake.Goals as goal

pub bake_from_least-requires : goal.bake_from_least-requires
bake_from_least-requires c =
    record { accepted_lists = c.requires; latest_of = no-latest _ _ }

pub latest_inverses-latest-requires : goal.latest_inverses-latest-requires
latest_inverses-latest-requires c = record { fact_1 = c.requires.knots-paired; fact_2 = few-knots c.requires; fact_3 = (ready-readable c.requires).segments }

pub bake_from_least-requires-2 : goal.bake_from_least-requires-2
bake_from_least-requires-2 c =
    record { accepted_lists = c.requires; latest_of = c.latest_inverses-latest.ensures }
