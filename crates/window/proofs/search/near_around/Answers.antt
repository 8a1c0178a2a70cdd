-- `window::search::near_around` meets its contract. Assumes nothing.
use Rattle.window.proofs.search.Reaches.{around-all}
use Rattle.window.proofs.search.near_around.Goals as goal

pub returns : goal.returns
returns c =
    let a = c.args in
    let n = c.next_place-to in
    around-all a.t a.w a.xs.now a.ys.now a.cs.now c.requires.fact_1.faces c.requires.fact_1.time c.requires.fact_1.knots c.requires.fact_1.paired c.requires.fact_1.segments a.i c.requires.fact_4 c.requires.fact_3 n.result n.ensures.0 n.ensures.1 n.ensures.2
    c.near_before.ensures
