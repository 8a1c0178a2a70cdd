-- `lists::near::is_passed` meets its contract. Assumes nothing.
use mathlib.Core.Path.{sym, subst, ◌∙◌}
use native.Mathlib.Omega.{arith}
use lib.Dec.{T}
use borrow.Author.Tests.{le-ltb}
use lib.Ieee.{binary64, fits}
use Rattle.lists.proofs.Beside.{passed_is, not-passed}
use Rattle.lists.proofs.near.is_passed.Goals.{Start as At-start}
use Rattle.lists.proofs.near.is_passed.Goals as goal

-- what owning an `f64` tells: the format holds it
held : (c : At-start) → T (fits binary64 c.args.t)
held c = subst T (sym c.well_formed.1.1.0.1) tt

pub returns-then-next-times : goal.returns-then-next-times
returns-then-next-times c =
    let s = c in
    passed_is s.args.t (held (goal.at.returns-then-next-times s).Start) s.args.times.now s.requires.fact_1 s.args.place (omega arith)

pub returns-else-next-times : goal.returns-else-next-times
returns-else-next-times c =
    let s = c in
    le-ltb _ _ (omega arith) ∙ not-passed s.args.t (held (goal.at.returns-else-next-times s).Start) s.args.times.now s.requires.fact_1 s.args.place (omega arith)
