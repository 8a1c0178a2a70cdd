-- `line::line_of` meets its contract: each way out has the line of its tests, and below the last knot there is a next one. Assumes nothing.
use borrow.Author.Rules.{rules}
use mathlib.Core.Path.{sym, ap, ◌∙◌, subst}
use Prim.Native.Nat.{ℕ, ◌+◌, ◌<◌}
use native.Mathlib.Omega.{arith}
use lib.Dec.{T}
use lib.ListN.{length}
use Rattle.definitions.specs.declared.Segment.{Segment}
use Rattle.definitions.specs.Timing.{last_at_most}
use Rattle.laws.specs.cell.Knots.{segment}
use Rattle.lists.specs.Segments.{segment_at}
use Rattle.cell.proofs.step.Segments.{line_plain, line-below, line-last, line-segment, next-knot}
use Rattle.cell.proofs.step.line.line_of.Goals.{After-last_at_most-lo}
use Rattle.cell.proofs.step.line.line_of.Goals as goal

-- there is a next knot
next : (c : After-last_at_most-lo) → c.last_at_most-lo.result + 1 < length c.args.xs.now
next c =
    let h = next-knot c.args.xs.now c.args.ys.now c.requires.xs_len c.args.t c.requires.ascending (subst T (sym c.well_formed.1.1.0.1) tt) c.requires.t (omega arith) c.if-t-xs.false c.if-xs-last.false in
    omega arith

pub returns-then-n-eq0 : goal.returns-then-n-eq0
returns-then-n-eq0 c = sym (line_plain c.args.xs.now c.args.ys.now c.requires.xs_len c.args.t c.if-n-eq0.true)

pub returns-then-t-xs : goal.returns-then-t-xs
returns-then-t-xs c = sym (line-below c.args.xs.now c.args.ys.now c.requires.xs_len c.args.t (omega arith) c.if-t-xs.true)

pub returns-then-xs-last : goal.returns-then-xs-last
returns-then-xs-last c = sym (line-last c.args.xs.now c.args.ys.now c.requires.xs_len c.args.t (omega arith) c.if-t-xs.false c.if-xs-last.true)

pub segment_at-requires : goal.segment_at-requires
segment_at-requires c = let h = next c in search rules

pub returns : goal.returns
returns c =
    let q : last_at_most c.args.xs.now c.args.t + 1 < length c.args.xs.now = subst (λ (i : ℕ). i + 1 < length c.args.xs.now) c.last_at_most-lo.ensures (next (goal.at.returns c).After-last_at_most-lo) in
    ap (λ (s : Segment). segment s.a s.b) (c.segment_at.ensures ∙ ap (segment_at c.args.xs.now c.args.ys.now) c.last_at_most-lo.ensures)
    ∙ sym (line-segment c.args.xs.now c.args.ys.now c.requires.xs_len c.args.t c.if-t-xs.false c.if-xs-last.false q)
