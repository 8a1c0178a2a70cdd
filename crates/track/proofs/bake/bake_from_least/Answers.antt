-- `bake::bake_from_least` meets its contract: the walk begins at the lowest key, with a page of its own. Assumes nothing.
use Rattle.track.proofs.Walks.{slots-some}
use Rattle.track.proofs.bake.bake_from_least.Goals as goal

pub bake_by_pages-requires : goal.bake_by_pages-requires
bake_by_pages-requires c =
    record { accepted_lists = c.requires.accepted_lists; latest_of = c.requires.latest_of; cursor_is_1 = c.least_cursor-from.ensures.0; cursor_is_2 = c.least_cursor-from.ensures.1; nonzero = slots-some _ _ _ _ _ _ }
