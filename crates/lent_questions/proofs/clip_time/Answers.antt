-- `lent_questions::clip_time` meets its contract: 20, 10, else the clip time by the set's knots. Assumes nothing.
use mathlib.Core.Path.{sym, ap, ◌∙◌}
use borrow.Author.Tests.{not-true, not-false}
use Rattle.definitions.specs.Questions.{ask_clip_time, replied}
use Rattle.laws.specs.cell.Lent.{set_of}
use Rattle.resolver.specs.declared.Resolver.{Resolver}
use Rattle.resolver.specs.State.{lent_state}
use Rattle.resolver.proofs.Laws.{asked-20, asked, not_finite, is_finite, knots-ascend}
use Rattle.lent_questions.proofs.clip_time.Goals.{Start as At-start}
use Rattle.lent_questions.proofs.clip_time.Goals as goal

abbrev state : At-start → Resolver
state s = let a = s.args in lent_state a.shape a.starts.now a.numbers.now a.xs.now a.ys.now a.blocks.now

pub returns-then-not-shape : goal.returns-then-not-shape
unfolding ask_clip_time
returns-then-not-shape c = asked-20 _ (state (goal.at.returns-then-not-shape c).Start) (not-true _ c.if-not-shape.true)

pub returns-then-not-is_finite : goal.returns-then-not-is_finite
unfolding ask_clip_time
returns-then-not-is_finite c =
    let p = c in
    let s = p in
    not_finite s.args.t _ (sym c.is_finite.ensures ∙ c.if-not-is_finite.true) ∙ asked _ (state (goal.at.returns-then-not-is_finite s).Start) (not-false _ p.if-not-shape.false)

pub map_stage_to_clip-requires : goal.map_stage_to_clip-requires
map_stage_to_clip-requires c =
    let p = c in
    let s = p in
    record { fact_1 = s.requires.whole.in-xs; fact_2 = s.requires.whole.in_ys; fact_3 = knots-ascend (state (goal.at.map_stage_to_clip-requires s).Start) s.requires (not-false _ p.if-not-shape.false) }

pub returns : goal.returns
unfolding ask_clip_time set_of
returns c =
    let p = c in
    let s = p in
    ap replied c.map_stage_to_clip.ensures
    ∙ is_finite s.args.t _ (sym p.is_finite.ensures ∙ p.if-not-is_finite.false)
    ∙ asked _ (state (goal.at.returns s).Start) (not-false _ p.if-not-shape.false)
