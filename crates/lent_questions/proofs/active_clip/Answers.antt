-- `lent_questions::active_clip` meets its contract: 20, 10, else the set's active clip. Assumes nothing.
use mathlib.Core.Path.{sym, ◌∙◌}
use borrow.Author.Tests.{not-true, not-false}
use Rattle.definitions.specs.Timing.{active_clip}
use Rattle.definitions.specs.Questions.{ask_active_clip}
use Rattle.laws.specs.cell.Lent.{set_of}
use Rattle.resolver.specs.declared.Resolver.{Resolver}
use Rattle.resolver.specs.State.{lent_state}
use Rattle.resolver.proofs.Laws.{asked-20, asked, not_finite, is_finite, starts-ascend, clip-told}
use Rattle.lent_questions.proofs.active_clip.Goals.{Start as At-start}
use Rattle.lent_questions.proofs.active_clip.Goals as goal

abbrev state : At-start → Resolver
state s = let a = s.args in lent_state a.shape a.starts.now a.numbers.now a.xs.now a.ys.now a.blocks.now

pub returns-then-not-shape : goal.returns-then-not-shape
unfolding ask_active_clip
returns-then-not-shape c = asked-20 _ (state (goal.at.returns-then-not-shape c).Start) (not-true _ c.if-not-shape.true)

pub returns-then-not-is_finite : goal.returns-then-not-is_finite
unfolding ask_active_clip
returns-then-not-is_finite c =
    let p = c in
    let s = p in
    not_finite s.args.t _ (sym c.is_finite.ensures ∙ c.if-not-is_finite.true) ∙ asked _ (state (goal.at.returns-then-not-is_finite s).Start) (not-false _ p.if-not-shape.false)

pub active_clip-requires : goal.active_clip-requires
active_clip-requires c =
    let p = c in
    let s = p in
    record { fact_1 = s.requires.whole.in-starts; fact_2 = s.requires.whole.in-numbers; fact_3 = starts-ascend (state (goal.at.active_clip-requires s).Start) s.requires (not-false _ p.if-not-shape.false) }

pub returns : goal.returns
unfolding ask_active_clip active_clip set_of
returns c =
    clip-told _ _ c.active_clip.ensures
    ∙ is_finite c.args.t _ (sym c.is_finite.ensures ∙ c.if-not-is_finite.false)
    ∙ asked _ (state (goal.at.returns c).Start) (not-false _ c.if-not-shape.false)
