-- `track::span::knotless_step` meets its contract: the window's cell up to the next start. Assumes nothing.
use Rattle.std.specs.Prelude.{Some}
use mathlib.Core.Path.{refl, sym, ap, ◌∙◌, subst}
use Prim.Native.Nat.{ℕ, ◌-◌, min}
use native.Mathlib.Omega.{arith}
use lib.ListN.{length}
use Rattle.definitions.specs.Track.{written_entry}
use Rattle.value.specs.Answers.{answer_in, Answerable}
use Rattle.cell.specs.declared.Cell.{Cell}
use Rattle.track.specs.declared.span.ReadBy.TheVariants.{ByCell}
use Rattle.track.specs.span.Runs.{read_on}
use Rattle.track.specs.span.Steps.{ReadsAt}
use Rattle.track.proofs.span.knotless_step.Goals.{After-knotless_cell-cell}
use Rattle.track.proofs.span.knotless_step.Goals as goal

-- the cell that was handed out can be read
asks : (c : After-knotless_cell-cell) → ReadsAt c.args.times.now c.args.values.now c.args.marks.now c.args.ends.now c.knotless_cell-cell.result (Some c.args.at.window.max) c.args.k
asks c = let a = c.args in subst (λ (d : Cell). ReadsAt a.times.now a.values.now a.marks.now a.ends.now d (Some a.at.window.max) a.k) (sym c.knotless_cell-cell.ensures) c.requires

pub key-requires : goal.key-requires
key-requires c = c.requires.number

pub overflow_sub-key : goal.overflow_sub-key
overflow_sub-key c = omega (arith, c.key.ensures, c.requires.later)

pub read_on-read-requires : goal.read_on-read-requires
read_on-read-requires c = let A = asks (goal.at.read_on-read-requires c).After-knotless_cell-cell in record { keys = A.point; readable = A.read }

pub answer_of-requires : goal.answer_of-requires
answer_of-requires c =
    let a = c.args in
    record { fact_1 = subst (Answerable (length a.values.now) a.ends.now) (sym c.read_on-read.ensures) (asks (goal.at.answer_of-requires c).After-knotless_cell-cell).said; fact_2 = (asks (goal.at.answer_of-requires c).After-knotless_cell-cell).flagged }

pub returns : goal.returns
returns c =
    let a = c.args in
    record {
      way = ap ByCell c.knotless_cell-cell.ensures;
      here =
          c.entry_of-here.ensures
          ∙ ap written_entry (c.answer_of.ensures
          ∙ ap (answer_in a.m a.values.now a.marks.now a.ends.now) (c.read_on-read.ensures ∙ ap (λ (d : Cell). read_on a.times.now a.ends.now d a.k) c.knotless_cell-cell.ensures));
      upto = c.min-hi.ensures ∙ ap (λ (e : ℕ). min a.top (e - 1)) c.key.ensures;
      start = refl;
      window = refl;
    }
