-- `cases::track_hash::walk_page` meets its contract. Assumes nothing.
use Rattle.track.proofs.Walks.{slots-some, paged}
use Rattle.cases.proofs.track_hash.walk_page.Goals as goal

pub returns : goal.returns
returns c = paged _ _ _ _ _ (slots-some _ _ _ _ _ _) c.fill-filled.ensures
