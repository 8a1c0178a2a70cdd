-- `names::digits::put_digits` meets its contract: writing the digits that are left makes the whole. Assumes nothing.
use mathlib.Core.Path.{◌≡◌}
use Rattle.definitions.specs.Names.{digits}
use Rattle.names.specs.Put.{put}
use Rattle.names.proofs.digits.put_digits.Given as goal

abbrev pub invariant-loop-i : goal.invariant-loop-i
invariant-loop-i l = put l.out l.at (digits l.i l.left) ≡ put l.initial.out l.at (digits l.width l.n)
