-- `value::value::value_source` meets its contract: no start, one start directly, several in the window of t. Assumes nothing.
use mathlib.Core.Path.{sym, ◌∙◌}
use Prim.Native.Nat.{◌<◌}
use native.Mathlib.Omega.{arith}
use lib.Dec.{T}
use lib.ListN.{length}
use lib.Ieee.{binary64, fits}
use borrow.Author.Rules.{rules}
use Rattle.laws.proofs.cell.Places.{last-short}
use Rattle.window.proofs.Parts.{ready-starts, ready-readable}
use Rattle.value.proofs.direct.Sources.{reads-absent}
use Rattle.value.proofs.WindowOf.{window-lent}
use Rattle.value.proofs.Values.{value-few, value-asks, value_in}
use Rattle.value.proofs.value.value_source.Goals.{After-last_at_most-p, Start as At-start}
use Rattle.value.proofs.value.value_source.Goals as goal

-- what owning an `f64` tells: the format holds it
held : (s : At-start) → T (fits binary64 s.args.t.0)
held s = search rules

active : (k : After-last_at_most-p) → k.last_at_most-p.result < length k.args.starts.now
active k = omega (arith, last-short k.args.starts.now k.args.t.0 (omega arith))

pub returns-then-starts-eq0 : goal.returns-then-starts-eq0
returns-then-starts-eq0 c = reads-absent c.requires.fact_1 c.args.t.0 c.if-starts-eq0.true ∙ value-few c.requires.fact_1 c.args.t.0 (held (goal.at.returns-then-starts-eq0 c).Start) c.requires.fact_2 (omega arith)

pub last_at_most-p-requires : goal.last_at_most-p-requires
last_at_most-p-requires c = ready-starts c.requires.fact_1

pub window_of-w-requires : goal.window_of-w-requires
window_of-w-requires c = record { fact_1 = c.requires.fact_1; fact_2 = active c }

pub source_in-requires : goal.source_in-requires
source_in-requires c =
    let A = c.requires.fact_1 in
    record { fact_1 = (ready-readable A).knots; fact_2 = A.knots-paired; fact_3 = window-lent A c.last_at_most-p.result c.window_of-w.result c.window_of-w.ensures }

pub returns-then-starts-lt2 : goal.returns-then-starts-lt2
returns-then-starts-lt2 c =
    c.source_in.ensures ∙ sym (c.window_of-w.ensures.direct c.args.t.0 (sym c.last_at_most-p.ensures)) ∙ value-few c.requires.fact_1 c.args.t.0 (held (goal.at.returns-then-starts-lt2 c).Start) c.requires.fact_2 c.if-starts-lt2.true

pub value_in-requires : goal.value_in-requires
value_in-requires c =
    value-asks c.requires.fact_1 c.args.t.0 (held (goal.at.value_in-requires c).Start) c.requires.fact_2 c.if-starts-lt2.false c.last_at_most-p.result c.last_at_most-p.ensures c.window_of-w.result c.window_of-w.ensures

pub returns : goal.returns
returns c =
    value_in c.requires.fact_1 c.args.t.0 (held (goal.at.returns c).Start) c.requires.fact_2 c.if-starts-lt2.false c.last_at_most-p.result c.last_at_most-p.ensures c.window_of-w.result c.window_of-w.ensures c.value_in.result c.value_in.ensures
