-- `clip::empty` meets its contract. Assumes nothing.
use lib.Ieee.{of_bits}
use Rattle.clip.proofs.empty.Goals as goal

pub returns : goal.returns
unfolding of_bits
returns c =
    record {
      is = rw (c.no_active-active.ensures.list, c.no_knots-knots.ensures.list, c.no_blocks-blocks.ensures.list);
      held = record { active = c.no_active-active.ensures.room; knots = c.no_knots-knots.ensures.room; blocks = c.no_blocks-blocks.ensures.room };
    }
