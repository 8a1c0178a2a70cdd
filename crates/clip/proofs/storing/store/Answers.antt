-- `clip::storing::store` meets its contract. Assumes nothing.
use Rattle.clip.proofs.Stored.{packed-is}
use Rattle.clip.proofs.storing.store.Goals as goal

pub returns : goal.returns
returns c =
    let s = c in
    packed-is s.args.clips s.args.times.now s.args.numbers.now s.args.xs.now s.args.ys.now s.args.blocks.now s.args.manifest c.pack_active-active.result c.pack_knots-knots.result c.pack_blocks-blocks.result c.pack_active-active.ensures c.pack_knots-knots.ensures c.pack_blocks-blocks.ensures
