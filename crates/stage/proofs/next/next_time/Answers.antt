-- `stage::next::next_time` meets its contract: by a search in the active window. Assumes nothing.
use mathlib.Core.Path.{sym, subst}
use Prim.Native.Nat.{◌<◌}
use native.Mathlib.Omega.{arith}
use lib.Dec.{T}
use lib.ListN.{length}
use lib.Ieee.{binary64, fits}
use Rattle.laws.proofs.cell.Places.{last-short}
use Rattle.stage.proofs.Times.{next-none}
use Rattle.stage.proofs.Zeros.{windows-sampled}
use Rattle.stage.proofs.Around.{next-searched}
use Rattle.stage.proofs.next.next_time.Goals.{After-last_at_most_near-p, Start as At-start}
use Rattle.stage.proofs.next.next_time.Goals as goal

-- what owning an `f64` tells: the format holds it
held : (s : At-start) → T (fits binary64 s.args.t)
held s = subst T (sym s.well_formed.1.1.1.1.1.1.1.0.1) tt

pub returns-then-starts-eq0 : goal.returns-then-starts-eq0
returns-then-starts-eq0 c = next-none c.requires.fact_1 c.args.t (held (goal.at.returns-then-starts-eq0 c).Start) c.if-starts-eq0.true

pub last_at_most_near-p-requires : goal.last_at_most_near-p-requires
last_at_most_near-p-requires c = c.requires.fact_1.windows.rising

-- the active start's place
active : (k : After-last_at_most_near-p) → k.last_at_most_near-p.result < length k.args.starts.now
active k = omega (arith, last-short k.args.starts.now k.args.t (omega (arith, k.if-starts-eq0.false)), k.last_at_most_near-p.ensures)

pub search_window-found-requires : goal.search_window-found-requires
search_window-found-requires c =
    record { windows_1 = c.requires.fact_1.windows; windows_2 = c.requires.fact_2; p_value_1 = c.last_at_most_near-p.ensures; p_value_2 = active c; p_value_3 = c.requires.fact_3 }

pub with_zero-requires : goal.with_zero-requires
with_zero-requires c =
    windows-sampled c.requires.fact_1.windows (omega (arith, active (goal.at.with_zero-requires c).After-last_at_most_near-p))

pub returns : goal.returns
returns c =
    rw c.with_zero.ensures (next-searched c.requires.fact_1 c.args.t (held (goal.at.returns c).Start) c.last_at_most_near-p.result c.last_at_most_near-p.ensures (active (goal.at.returns c).After-last_at_most_near-p) c.search_window-found.result.upper c.search_window-found.ensures)
