-- `cell::place::place_at` meets its contract. Assumes nothing.
use native.Mathlib.Omega.{arith}
use Rattle.laws.proofs.list.Places.{last-inside}
use Rattle.window.proofs.Parts.{ready-starts}
use Rattle.cell.proofs.CellsRead.{gap-stands}
use Rattle.cell.proofs.place.place_at.Goals as goal

pub last_at_most_near-p-requires : goal.last_at_most_near-p-requires
last_at_most_near-p-requires c = ready-starts c.requires.accepted_lists

pub window_after-w-requires : goal.window_after-w-requires
window_after-w-requires c =
    let n = c.if-starts-eq0.false in
    let h = last-inside c.args.t c.requires.finite_double.fitting c.args.starts.now (ready-starts c.requires.accepted_lists) (omega arith) in
    record { accepted_lists = c.requires.accepted_lists; place_is = c.requires.place_is; p_in_bounds = omega arith }

pub returns : goal.returns
returns c =
    let w = c.window_after-w.result in
    record {
      is = record {
        window = λ _. c.window_after-w.ensures;
        gap = λ _ n. gap-stands c.requires.accepted_lists c.args.t c.last_at_most_near-p.result w c.window_after-w.ensures c.last_at_most_near-p.ensures n;
      };
      place = λ _. c.last_at_most_near-p.ensures;
    }
