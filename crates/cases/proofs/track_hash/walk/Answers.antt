-- `cases::track_hash::walk` is safe and ends: each page leads to a higher key, so the keys that are left are fewer. Assumes nothing.
use Rattle.window.proofs.Parts.{ready-readable}
use Rattle.cell.proofs.Lent.{few-knots}
use Rattle.cases.proofs.track_hash.walk.Goals as goal

pub latest_inverses-latest-requires-clause-fact_2 : goal.latest_inverses-latest-requires-clause-fact_2
latest_inverses-latest-requires-clause-fact_2 c = few-knots c.requires.accepted_lists

pub latest_inverses-latest-requires-clause-fact_3 : goal.latest_inverses-latest-requires-clause-fact_3
latest_inverses-latest-requires-clause-fact_3 c = (ready-readable c.requires.accepted_lists).segments
