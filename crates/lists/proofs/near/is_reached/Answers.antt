-- `lists::near::is_reached` meets its contract. Assumes nothing.
use Rattle.std.proofs.Common.{T, sym, subst, arith}
use lib.Ieee.{binary64, fits}
use Rattle.lists.proofs.Beside.{reached-is}
use Rattle.lists.proofs.near.is_reached.Goals.{Start as At-start}
use Rattle.lists.proofs.near.is_reached.Goals as goal

-- what owning an `f64` tells: the format holds it
held : (c : At-start) → T (fits binary64 c.args.t)
held c = subst T (sym c.well_formed.1.1.0.1) tt

pub returns-else-place-eq0 : goal.returns-else-place-eq0
returns-else-place-eq0 c =
    reached-is c.args.t (held (goal.at.returns-else-place-eq0 c).Start) c.args.times.now c.requires.fact_1 c.args.place c.if-place-eq0.false (omega (arith, c.requires.fact_2))
