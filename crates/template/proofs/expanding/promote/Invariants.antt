-- `template::expanding::promote` meets its contract: the times before t are written, and t begins the rest. Assumes nothing.
use Rattle.template.proofs.Promotion.{Promoting}
use Rattle.template.proofs.expanding.promote.Given as goal

abbrev pub invariant-loop-i : goal.invariant-loop-i
invariant-loop-i l = Promoting l.initial.t l.stride l.bound l.items l.t l.i
