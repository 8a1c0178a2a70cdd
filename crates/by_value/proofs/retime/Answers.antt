-- `by_value::retime` meets its contract: 20 where no set stands, else the moved set is installed. Assumes nothing.
use mathlib.Core.Path.{sym, subst}
use Rattle.std.specs.Prelude.{Result}
use Rattle.definitions.specs.declared.refusal.Refusal.{Refusal}
use Rattle.definitions.specs.Refusals.{number_in}
use Rattle.laws.specs.set.Sound.{Sound}
use Rattle.clip.proofs.Preparing.{by-reason}
use Rattle.resolver.specs.declared.Resolver.{Resolver}
use Rattle.resolver.specs.State.{left}
use Rattle.resolver.specs.Promises.{Retimes}
use Rattle.resolver.proofs.Laws.{retimes-20, retimes, retimes-not, stands-sound}
use Rattle.by_value.proofs.retime.Goals as goal

pub returns-then-not-resolver : goal.returns-then-not-resolver
returns-then-not-resolver c = retimes-20 c.args.resolver c.args.o c.requires c.if-not-resolver.true

pub packed-set-requires : goal.packed-set-requires
packed-set-requires c = c.requires.whole

pub retime_stage_times-requires : goal.retime_stage_times-requires
retime_stage_times-requires c =
    record { held = c.packed-set.ensures.held; sound = subst Sound (sym c.packed-set.ensures.is) (stands-sound c.args.resolver c.requires c.if-not-resolver.false) }

pub returns-in_err-moved : goal.returns-in_err-moved
returns-in_err-moved c =
    by-reason (λ (r : Result Resolver Refusal). Retimes c.args.resolver c.args.o (number_in r) (left c.args.resolver r)) _ _ c.from_residual.ensures.1
    (retimes-not c.args.resolver c.args.o _ c.if-not-resolver.false c.packed-set.ensures _ c.requires c.in_err-moved.ensures)

pub install-requires : goal.install-requires
install-requires c =
    record { made = c.requires; made_set = record { held = c.in_ok-moved.ensures.reply.held; sound = c.in_ok-moved.ensures.sound } }

pub returns : goal.returns
returns c = retimes c.args.resolver c.args.o _ c.if-not-resolver.false c.packed-set.ensures _ _ c.in_ok-moved.ensures c.install.ensures
