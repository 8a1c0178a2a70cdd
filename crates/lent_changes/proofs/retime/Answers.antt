-- `lent_changes::retime` meets its contract: 20, else the moved set is installed. Assumes nothing.
use mathlib.Core.Path.{sym, subst}
use borrow.Author.Tests.{not-true, not-false}
use Rattle.std.specs.Prelude.{Ok}
use Rattle.laws.specs.set.Sound.{Sound}
use Rattle.clip.specs.Retiming as clips
use Rattle.resolver.specs.declared.Resolver.{Resolver}
use Rattle.resolver.specs.State.{lent_state}
use Rattle.resolver.proofs.Laws.{stands-sound, retimes-20, retimes, retimes-not}
use Rattle.lent_changes.proofs.retime.Goals.{In-Ok, Start as At-start}
use Rattle.lent_changes.proofs.retime.Goals as goal

abbrev state : At-start → Resolver
state s = let a = s.args in lent_state a.shape a.starts.now a.numbers.now a.xs.now a.ys.now a.blocks.now

pub returns-then-not-shape : goal.returns-then-not-shape
returns-then-not-shape c = retimes-20 (state (goal.at.returns-then-not-shape c).Start) c.args.o c.requires (not-true _ c.if-not-shape.true)

pub packed-set-requires : goal.packed-set-requires
packed-set-requires c = c.requires.whole

pub retime_stage_times-moved-requires : goal.retime_stage_times-moved-requires
retime_stage_times-moved-requires c =
    record { held = c.packed-set.ensures.held; sound = subst Sound (sym c.packed-set.ensures.is) (stands-sound (state (goal.at.retime_stage_times-moved-requires c).Start) c.requires (not-false _ c.if-not-shape.false)) }

-- what the retiming of the set replied, in the arm where it made one
retimed : (c : In-Ok) → clips.Retimes c.packed-set.result c.args.o (Ok c.in-Ok.set)
retimed c = subst (clips.Retimes c.packed-set.result c.args.o) c.in-Ok.is c.retime_stage_times-moved.ensures

pub install-requires : goal.install-requires
install-requires c =
    let r = retimed (goal.at.install-requires c).In-Ok in
    record { made = c.requires; made_set = record { held = r.reply.held; sound = r.sound } }

pub returns-in-Ok : goal.returns-in-Ok
returns-in-Ok c =
    let s = (goal.at.returns-in-Ok c).Start in
    retimes (state s) c.args.o _ (not-false _ c.if-not-shape.false) c.packed-set.ensures _ _ (retimed (goal.at.returns-in-Ok c).In-Ok) c.install.ensures

pub returns-in-Err : goal.returns-in-Err
returns-in-Err c =
    let s = (goal.at.returns-in-Err c).Start in
    retimes-not (state s) c.args.o _ (not-false _ c.if-not-shape.false) c.packed-set.ensures _ c.requires (subst (clips.Retimes c.packed-set.result c.args.o) c.in-Err.is c.retime_stage_times-moved.ensures)
