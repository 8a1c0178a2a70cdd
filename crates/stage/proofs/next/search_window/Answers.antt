-- `stage::next::search_window` meets its contract. Assumes nothing.
use mathlib.Core.Path.{sym, subst}
use Prim.Native.Nat.{◌≤◌}
use lib.Dec.{T}
use lib.ListN.{length}
use Rattle.definitions.specs.Doubles.{FiniteDouble}
use Rattle.window.specs.search.Windowed.{bounds_of}
use Rattle.stage.proofs.Whole.{whole-order, whole-upto, whole-nears, whole-found}
use borrow.Author.Rules.{rules}
use Rattle.stage.proofs.next.search_window.Goals.{After-whole_window-w, Start as At-start}
use Rattle.stage.proofs.next.search_window.Goals as goal

pub whole_window-w-requires : goal.whole_window-w-requires
whole_window-w-requires c =
    let h = c.requires.p_value_2 in
    (h, (c.requires.windows_1.paired, c.requires.windows_1.named c.args.p h))

order : (k : After-whole_window-w) → k.whole_window-w.result.begin ≤ k.whole_window-w.result.end
order k = whole-order k.requires.windows_1 k.args.p k.requires.p_value_2 k.whole_window-w.result k.whole_window-w.ensures

upto : (k : After-whole_window-w) → k.whole_window-w.result.end ≤ length k.args.times.now
upto k = whole-upto k.requires.windows_1 k.args.p k.requires.p_value_2 k.whole_window-w.result k.whole_window-w.ensures

-- the time, as owning it tells
time : (s : At-start) → FiniteDouble s.args.t
time s = record { fitting = subst T (sym s.well_formed.1.1.1.1.1.1.1.1.0.1) tt; finitely = s.requires.p_value_3 }

pub offset_bounds-times-w : goal.offset_bounds-times-w
offset_bounds-times-w c = let w = (goal.at.offset_bounds-times-w c).After-whole_window-w in let l = order w in let u = upto w in search rules

pub slice_bounds-neighbours_in-count : goal.slice_bounds-neighbours_in-count
slice_bounds-neighbours_in-count c = let l = order (goal.at.slice_bounds-neighbours_in-count c).After-whole_window-w in search rules

pub slice_bounds-neighbours_in-start : goal.slice_bounds-neighbours_in-start
slice_bounds-neighbours_in-start c = let w = (goal.at.slice_bounds-neighbours_in-start c).After-whole_window-w in let l = order w in let u = upto w in search rules

pub slice_bounds-neighbours_in-end : goal.slice_bounds-neighbours_in-end
slice_bounds-neighbours_in-end c = let w = (goal.at.slice_bounds-neighbours_in-end c).After-whole_window-w in let l = order w in let u = upto w in search rules

pub neighbours_in-requires : goal.neighbours_in-requires
neighbours_in-requires c =
    whole-nears c.requires.windows_1 c.args.p c.requires.p_value_2 c.whole_window-w.result c.whole_window-w.ensures c.args.t c.requires.p_value_1 (time (goal.at.neighbours_in-requires c).Start) c.args.latest.now c.requires.windows_2

pub returns : goal.returns
returns c =
    whole-found c.requires.windows_1 c.args.p c.requires.p_value_2 c.whole_window-w.result c.whole_window-w.ensures c.args.t (bounds_of c.neighbours_in.result) c.neighbours_in.ensures
