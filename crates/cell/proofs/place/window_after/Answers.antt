-- `place::window_after` meets its contract: what stands in for two windows without samples is the same. Assumes nothing.
use mathlib.Core.Path.{refl}
use native.Mathlib.Omega.{arith}
use Rattle.window.proofs.Parts.{ready-clip}
use Rattle.cell.proofs.Gaps.{window_on}
use Rattle.cell.proofs.place.window_after.Goals as goal

pub follows-requires : goal.follows-requires
follows-requires c = ready-clip c.requires.accepted_lists c.args.p c.requires.p_in_bounds

pub clip_begin-begin-requires : goal.clip_begin-begin-requires
clip_begin-begin-requires c = ready-clip c.requires.accepted_lists c.args.p c.requires.p_in_bounds

pub returns-then-follows : goal.returns-then-follows
returns-then-follows c =
    let F = c.follows.ensures c.if-follows.true in
    let n = F.next in
    let h = c.requires.p_in_bounds in
    window_on c.requires.accepted_lists c.args.place.start c.args.place.window (c.requires.place_is.window (omega arith)) F.none_before (c.requires.place_is.gap (omega arith) F.none_before) c.args.p F.next h F.none_here
    _ refl refl c.window_min.ensures c.window_max.ensures c.clip_begin-begin.ensures refl refl
