-- `standing::unpacked` meets its contract: each list is written over the front of a lent array. Assumes nothing.
use mathlib.Core.Path.{sym}
use Rattle.clip.proofs.Laws.{lent}
use Rattle.standing.proofs.Arrays.{arrays-unpacked}
use Rattle.standing.proofs.unpacked.Goals as goal

pub slice_bounds-unpack_active-end-2 : goal.slice_bounds-unpack_active-end-2
slice_bounds-unpack_active-end-2 c = sym (lent 256 _ _ c.requires.fact_2.of-starts c.requires.fact_1.active.few)

pub slice_bounds-unpack_active-end-4 : goal.slice_bounds-unpack_active-end-4
slice_bounds-unpack_active-end-4 c = sym (lent 256 _ _ c.requires.fact_2.of-numbers c.requires.fact_1.active.few)

pub unpack_active-requires : goal.unpack_active-requires
unpack_active-requires c =
    let h = c.requires.fact_1.active in
    record { fact_1 = h; fact_2 = lent 256 _ _ c.requires.fact_2.of-starts h.few; fact_3 = lent 256 _ _ c.requires.fact_2.of-numbers h.few }

pub slice_bounds-unpack_knots-end-2 : goal.slice_bounds-unpack_knots-end-2
slice_bounds-unpack_knots-end-2 c = sym (lent 512 _ _ c.requires.fact_2.of-xs c.requires.fact_1.knots.few)

pub slice_bounds-unpack_knots-end-4 : goal.slice_bounds-unpack_knots-end-4
slice_bounds-unpack_knots-end-4 c = sym (lent 512 _ _ c.requires.fact_2.of-ys c.requires.fact_1.knots.few)

pub unpack_knots-requires : goal.unpack_knots-requires
unpack_knots-requires c =
    let h = c.requires.fact_1.knots in
    record { fact_1 = h; fact_2 = lent 512 _ _ c.requires.fact_2.of-xs h.few; fact_3 = lent 512 _ _ c.requires.fact_2.of-ys h.few }

pub slice_bounds-unpack_blocks-end-2 : goal.slice_bounds-unpack_blocks-end-2
slice_bounds-unpack_blocks-end-2 c = sym (lent 256 _ _ c.requires.fact_2.of_blocks c.requires.fact_1.blocks.few)

pub unpack_blocks-requires : goal.unpack_blocks-requires
unpack_blocks-requires c =
    let h = c.requires.fact_1.blocks in
    record { fact_1 = h; fact_2 = lent 256 _ _ c.requires.fact_2.of_blocks h.few }

pub returns : goal.returns
returns c =
    let s = c in
    let a = s.args in
    let starts = c.unpack_active in
    let knots = c.unpack_knots in
    let blocks = c.unpack_blocks in
    arrays-unpacked a.set s.requires.fact_1 a.starts.now a.numbers.now a.xs.now a.ys.now a.blocks.now s.requires.fact_2 starts.new.times starts.new.clips knots.new.xs knots.new.ys
    starts.ensures.times_value starts.ensures.clips_value knots.ensures.xs_value knots.ensures.ys_value blocks.new.times blocks.ensures
