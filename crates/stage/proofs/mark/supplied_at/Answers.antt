-- `stage::mark::supplied_at` meets its contract. Assumes nothing.
use mathlib.Core.Path.{sym, ◌∙◌}
use Prim.Native.Nat.{◌<◌}
use native.Mathlib.Omega.{arith}
use lib.ListN.{length}
use Rattle.laws.proofs.cell.Places.{last-short}
use Rattle.window.proofs.Parts.{ready-starts, ready-clip, ready-readable}
use Rattle.stage.proofs.Marks.{mark-none, mark-read, mark-gap}
use borrow.Author.Rules.{rules}
use Rattle.stage.proofs.mark.supplied_at.Goals.{After-last_at_most-p}
use Rattle.stage.proofs.mark.supplied_at.Goals as goal

pub returns-then-starts-eq0 : goal.returns-then-starts-eq0
returns-then-starts-eq0 c = let s = c in c.gap_mark.ensures ∙ mark-none s.requires s.args.t c.if-starts-eq0.true

pub last_at_most-p-requires : goal.last_at_most-p-requires
last_at_most-p-requires c = ready-starts c.requires

-- the active start's place
active : (c : After-last_at_most-p) → c.last_at_most-p.result < length c.args.starts.now
active c = let s = c in omega (arith, last-short s.args.starts.now s.args.t.0 (omega arith))

pub offset_bounds-clips-p : goal.offset_bounds-clips-p
offset_bounds-clips-p c = let h = active c in let e = c.requires.starts-paired in search rules

pub bounds-clips-p : goal.bounds-clips-p
bounds-clips-p c = let h = active (goal.at.bounds-clips-p c).After-last_at_most-p in let e = c.requires.starts-paired in search rules

pub read_clip-own-requires : goal.read_clip-own-requires
read_clip-own-requires c =
    let k = c in
    let R = k.requires in
    record { readable_1 = ready-readable R; readable_2 = ready-clip R k.last_at_most-p.result (active (goal.at.read_clip-own-requires k).After-last_at_most-p); values_len_1 = R.accepted.values; values_len_2 = R.accepted.marks }

pub returns-in-Some : goal.returns-in-Some
returns-in-Some c =
    let a = c.args in
    c.sample_mark.ensures
    ∙ mark-read c.requires a.t c.last_at_most-p.result c.last_at_most-p.ensures (active (goal.at.returns-in-Some c).After-last_at_most-p) _ _ (sym c.in-Some.is ∙ c.read_clip-own.ensures)

pub returns-in-None : goal.returns-in-None
returns-in-None c =
    let a = c.args in
    c.gap_mark-in-None.ensures
    ∙ mark-gap c.requires a.t c.last_at_most-p.result c.last_at_most-p.ensures (active (goal.at.returns-in-None c).After-last_at_most-p) (sym c.in-None.is ∙ c.read_clip-own.ensures)
