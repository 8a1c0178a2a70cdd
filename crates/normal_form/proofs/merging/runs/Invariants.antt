-- `normal_form::merging::runs` meets its contract: the loop keeps `Standing`, and i falls to 0. Assumes nothing.
use Rattle.normal_form.proofs.Merged.{Standing}
use Rattle.normal_form.proofs.merging.runs.Given as goal

abbrev pub invariant-loop-i : goal.invariant-loop-i
invariant-loop-i l = Standing l.times l.places l.firsts l.lasts l.at l.i
