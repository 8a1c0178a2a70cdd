-- `stage::mark::write_marks` meets its contract: the marks that were written and those of the times from i on are all. Assumes nothing.
use lib.ListN.{drop}
use Rattle.laws.specs.cell.Lent.{samples_of}
use Rattle.stage.specs.Marks.{unblocked, marks_at}
use Rattle.stage.proofs.Writing.{Wrote}
use Rattle.stage.proofs.mark.write_marks.Given as goal

abbrev pub invariant-loop-i : goal.invariant-loop-i
invariant-loop-i l =
    Wrote (marks_at (unblocked l.starts l.clips l.xs l.ys l.m l.ends) (samples_of l.times l.values l.marks l.ends) l.at) (marks_at (unblocked l.starts l.clips l.xs l.ys l.m l.ends) (samples_of l.times l.values l.marks l.ends) (drop l.i l.at)) l.initial.out l.out l.i
