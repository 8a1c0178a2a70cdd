-- `track::span::cell_step` meets its contract: the cell of k up to its end. Assumes nothing.
use mathlib.Core.Path.{refl, sym, ap, ◌∙◌, subst}
use Prim.Native.Nat.{ℕ, ◌-◌, min}
use native.Mathlib.Omega.{arith}
use lib.ListN.{length}
use lib.Ieee.{Float}
use Rattle.gf.specs.Doubles.{of_key}
use Rattle.definitions.specs.Track.{written_entry}
use Rattle.value.specs.Answers.{answer_in, Answerable}
use Rattle.cell.specs.CellAndEnd.{CellAsks, CellIn}
use Rattle.track.specs.span.Steps.{ReadsAt}
use Rattle.track.proofs.span.cell_step.Goals.{After-cell_at-piece}
use Rattle.track.proofs.span.cell_step.Goals as goal

-- the cell of k
found : (c : After-cell_at-piece) → CellIn c.args.starts.now c.args.xs.now c.args.ys.now c.args.times.now c.args.at.window (of_key c.args.k) c.cell_at-piece.result.cell c.cell_at-piece.result.end
found c = let a = c.args in subst (λ (t : Float). CellIn a.starts.now a.xs.now a.ys.now a.times.now a.at.window t c.cell_at-piece.result.cell c.cell_at-piece.result.end) c.of_key.ensures c.cell_at-piece.ensures

reads : (c : After-cell_at-piece) → ReadsAt c.args.times.now c.args.values.now c.args.marks.now c.args.ends.now c.cell_at-piece.result.cell c.cell_at-piece.result.end c.args.k
reads c = c.requires.reads c.cell_at-piece.result.cell c.cell_at-piece.result.end (found c)

pub cell_at-piece-requires : goal.cell_at-piece-requires
cell_at-piece-requires c =
    subst (CellAsks c.args.starts.now c.args.xs.now c.args.ys.now c.args.times.now c.args.latest.now c.args.at.window) (sym c.of_key.ensures) c.requires.search

pub end_key-requires : goal.end_key-requires
end_key-requires c = (reads c).number

pub overflow_sub-end_key : goal.overflow_sub-end_key
overflow_sub-end_key c = omega (arith, (reads (goal.at.overflow_sub-end_key c).After-cell_at-piece).later, c.end_key.ensures)

pub read_on-source-requires : goal.read_on-source-requires
read_on-source-requires c = let A = reads (goal.at.read_on-source-requires c).After-cell_at-piece in record { keys = A.point; readable = A.read }

pub answer_of-requires : goal.answer_of-requires
answer_of-requires c =
    let a = c.args in
    record { fact_1 = subst (Answerable (length a.values.now) a.ends.now) (sym c.read_on-source.ensures) (reads (goal.at.answer_of-requires c).After-cell_at-piece).said; fact_2 = (reads (goal.at.answer_of-requires c).After-cell_at-piece).flagged }

pub returns : goal.returns
returns c =
    let a = c.args in
    record {
      cell = c.cell_at-piece.result.cell;
      end = c.cell_at-piece.result.end;
      found = found (goal.at.returns c).After-cell_at-piece;
      step = record {
        way = refl;
        here = c.entry_of-here.ensures ∙ ap written_entry (c.answer_of.ensures ∙ ap (answer_in a.m a.values.now a.marks.now a.ends.now) c.read_on-source.ensures);
        upto = c.min-hi.ensures ∙ ap (λ (e : ℕ). min a.top (e - 1)) c.end_key.ensures;
        start = refl;
        window = refl;
      };
    }
