-- `cases::serve` is safe: before each line the resolver, the slots' sets and the dispatcher's lists are such as an operation made. Assumes nothing.
use Rattle.resolver.specs.State.{Made}
use Rattle.pages.specs.Pages as dispatcher
use Rattle.pages.specs.Pages.{pages}
use Rattle.cases.specs.Prepared.{MadeSlots}
use Rattle.cases.proofs.serve.Given as goal

abbrev pub invariant-loop : goal.invariant-loop
invariant-loop l = Made l.session.resolver × MadeSlots l.slots × dispatcher.Made (pages l.starts l.numbers l.xs l.ys l.blocks l.defaults l.counts l.bytes)
