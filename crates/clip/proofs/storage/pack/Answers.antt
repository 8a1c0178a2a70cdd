-- `clip::storage::pack` meets its contract: the first i entries are written. Assumes nothing.
use mathlib.Core.Path.{sym, ap, ◌∙◌}
use native.Mathlib.Omega.{arith}
use lib.ListN.{get_or}
use lib.Ieee.{nan}
use Rattle.definitions.specs.Lists.{zip_with}
use Rattle.laws.proofs.list.Every.{zip-at}
use Rattle.laws.proofs.cell.Lent.{zip_length}
use Rattle.lists.proofs.Filled.{fill_start, fill-next}
use Rattle.clip.proofs.storage.pack.Goals as goal

pub loop-i-init : goal.loop-i-init
loop-i-init g c =
    let n = zip_length g.T.Entry.joined c.args.firsts.now c.args.seconds.now c.requires.paired in
    fill_start (zip_with g.T.Entry.joined c.args.firsts.now c.args.seconds.now) c.args.items.now (omega (arith, c.requires.room))

pub loop-i-preserved : goal.loop-i-preserved
loop-i-preserved g c =
    let xs = c.args.firsts.now in
    let ys = c.args.seconds.now in
    let k = c.loop-i in
    let y = c.index-seconds-i in
    let d = c.join.result in
    let n = zip_length g.T.Entry.joined xs ys c.requires.paired in
    fill-next (zip_with g.T.Entry.joined xs ys) k.items k.i d d k.invariant (omega arith)
    (c.join.ensures ∙ ap (g.T.Entry.joined (get_or xs k.i nan)) y.is ∙ sym (zip-at g.T.Entry.joined xs ys k.i nan y.result d (omega arith) (omega (arith, c.requires.paired))))
