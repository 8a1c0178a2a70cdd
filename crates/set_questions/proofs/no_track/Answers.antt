-- `set_questions::no_track` meets its contract. Assumes nothing.
use mathlib.Core.Path.{refl}
use lib.Ieee.{of_bits}
use Rattle.set_questions.proofs.no_track.Goals as goal

pub returns : goal.returns
unfolding of_bits
returns c = refl
