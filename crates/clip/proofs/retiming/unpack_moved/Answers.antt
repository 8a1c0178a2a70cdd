-- `clip::retiming::unpack_moved` meets its contract. Assumes nothing.
use Rattle.clip.proofs.Moved.{moved-is}
use Rattle.clip.proofs.retiming.unpack_moved.Goals as goal

pub returns : goal.returns
returns c =
    let s = c in
    let a = c.unpack_active in
    let k = c.unpack_knots in
    let b = c.unpack_blocks in
    let t = c.move_times in
    let x = c.move_times-2 in
    let m = c.move_times-3 in
    moved-is s.args.o s.args.set a.new.times t.new.times a.new.clips k.new.xs x.new.times k.new.ys b.new.times m.new.times
    a.ensures.times_value a.ensures.clips_value k.ensures.xs_value k.ensures.ys_value b.ensures t.ensures x.ensures m.ensures
