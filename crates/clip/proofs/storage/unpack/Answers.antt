-- `clip::storage::unpack` meets its contract: the parts of the first i entries are written. Assumes nothing.
use mathlib.Core.Path.{ap, ◌∙◌}
use mathlib.Core.List.{map}
use native.Mathlib.Omega.{arith}
use lib.ListN.{length-map}
use lib.Ieee.{nan}
use Rattle.lists.proofs.Filled.{fill-next}
use Rattle.clip.proofs.Laws.{mapped_at}
use Rattle.clip.proofs.storage.unpack.Goals as goal

pub loop-i-preserved : goal.loop-i-preserved
loop-i-preserved g c =
    let l = c.args.items.now in
    let k = c.loop-i in
    let x = c.index-items-i in
    let e = g.T.Entry in
    let n = length-map l e.first_of in
    let m = length-map l e.second_of in (
      fill-next (map e.first_of l) k.firsts k.i c.first.result nan k.invariant.0 (omega arith) (c.first.ensures ∙ ap e.first_of x.is ∙ mapped_at e.first_of l k.i x.result nan c.loop-i-test.true),
      fill-next (map e.second_of l) k.seconds k.i c.second.result c.second.result k.invariant.1 (omega arith) (c.second.ensures ∙ ap e.second_of x.is ∙ mapped_at e.second_of l k.i x.result c.second.result c.loop-i-test.true),
    )
