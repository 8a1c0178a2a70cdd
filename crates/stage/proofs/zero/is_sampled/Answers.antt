-- `stage::zero::is_sampled` meets its contract. Assumes nothing.
use Prim.Native.Nat.{◌≤◌, ◌<◌}
use native.Mathlib.Omega.{arith}
use lib.ListN.{length, get_or}
use lib.Ieee.{of_bits, neg}
use Rattle.laws.proofs.list.Places.{last-inside}
use Rattle.stage.specs.MinusZero.{minus_zero}
use Rattle.stage.proofs.MinusZero.{minus-finite}
use borrow.Author.Rules.{rules}
use Rattle.stage.proofs.zero.is_sampled.Goals.{After-clip_end-end, After-last_at_most-p}
use Rattle.stage.proofs.zero.is_sampled.Goals as goal

pub last_at_most-p-requires : goal.last_at_most-p-requires
last_at_most-p-requires c = c.requires.rising

-- the active start's place
active : (k : After-last_at_most-p) → k.last_at_most-p.result < length k.args.starts.now
unfolding of_bits neg
active k = omega (arith, k.last_at_most-p.ensures, last-inside minus_zero minus-finite.fitting k.args.starts.now k.requires.rising k.requires.some)

named : (k : After-last_at_most-p) → get_or k.args.clips.now k.last_at_most-p.result 0 < length k.args.ends.now
named k = k.requires.named k.last_at_most-p.result (active k)

pub offset_bounds-clips-p : goal.offset_bounds-clips-p
offset_bounds-clips-p c = let l = active c in let e = c.requires.paired in search rules

pub bounds-clips-p : goal.bounds-clips-p
bounds-clips-p c = omega (arith, active (goal.at.bounds-clips-p c).After-last_at_most-p, c.requires.paired)

pub clip_begin-begin-requires : goal.clip_begin-begin-requires
clip_begin-begin-requires c = named (goal.at.clip_begin-begin-requires c).After-last_at_most-p

pub clip_end-end-requires : goal.clip_end-end-requires
clip_end-end-requires c = named (goal.at.clip_end-end-requires c).After-last_at_most-p

order : (c : After-clip_end-end) → c.clip_begin-begin.result ≤ c.clip_end-end.result
order c = omega (arith, c.requires.order _ (named (goal.at.After-clip_end-end c).After-last_at_most-p), c.clip_begin-begin.ensures, c.clip_end-end.ensures)

upto : (c : After-clip_end-end) → c.clip_end-end.result ≤ length c.args.times.now
upto c = omega (arith, c.requires.inside _ (named (goal.at.After-clip_end-end c).After-last_at_most-p), c.clip_end-end.ensures)

pub offset_bounds-times-begin : goal.offset_bounds-times-begin
offset_bounds-times-begin c = let l = order c in let u = upto c in search rules

pub slice_bounds-has_minus_zero-count : goal.slice_bounds-has_minus_zero-count
slice_bounds-has_minus_zero-count c = order c

pub slice_bounds-has_minus_zero-start : goal.slice_bounds-has_minus_zero-start
slice_bounds-has_minus_zero-start c = let l = order c in let u = upto c in search rules

pub slice_bounds-has_minus_zero-end : goal.slice_bounds-has_minus_zero-end
slice_bounds-has_minus_zero-end c = let l = order c in let u = upto c in search rules

pub returns : goal.returns
unfolding of_bits neg
returns c =
    rw (c.has_minus_zero.ensures, c.clip_end-end.ensures, c.clip_begin-begin.ensures, c.last_at_most-p.ensures)
