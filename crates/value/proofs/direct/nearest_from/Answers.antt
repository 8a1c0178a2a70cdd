-- `value::direct::nearest_from` meets its contract. Assumes nothing.
use mathlib.Core.Path.{sym, ◌∙◌}
use native.Mathlib.Omega.{arith}
use Rattle.value.proofs.direct.ReadsLaws.{none-read, from_found, from_on, from_end}
use Rattle.value.proofs.direct.nearest_from.Goals as goal

pub returns-then-is_some : goal.returns-then-is_some
returns-then-is_some c =
    let a = c.args in
    from_found a.blocks.now a.xs.now a.ys.now a.times.now a.ends.now a.starts.now a.clips.now c.requires.fact_1.paired c.loop-i.i (omega arith) c.read_start-found.result (sym c.is_some.ensures ∙ c.if-is_some.true) c.read_start-found.ensures
    ∙ sym c.loop-i.invariant

pub loop-i-preserved : goal.loop-i-preserved
loop-i-preserved c =
    let a = c.args in
    c.loop-i.invariant
    ∙ from_on a.blocks.now a.xs.now a.ys.now a.times.now a.ends.now a.starts.now a.clips.now c.requires.fact_1.paired c.loop-i.i (omega arith) (none-read c.read_start-found.result (sym c.is_some.ensures ∙ c.if-is_some.false) ∙ c.read_start-found.ensures)

pub returns : goal.returns
returns c =
    let a = c.args in
    sym (c.loop-i.invariant ∙ from_end a.blocks.now a.xs.now a.ys.now a.times.now a.ends.now a.starts.now a.clips.now c.requires.fact_1.paired c.loop-i.i (omega arith))
