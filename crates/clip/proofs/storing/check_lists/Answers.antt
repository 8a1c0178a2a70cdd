-- `clip::storing::check_lists` meets its contract: one test after the other. Assumes nothing.
use mathlib.Core.Path.{◌≡◌, sym, ◌∙◌}
use mathlib.Core.Bool.{false}
use borrow.Author.Tests.{lt-ltb, le-ltb}
use Rattle.definitions.specs.Doubles.{two_equal, three_equal}
use Rattle.definitions.specs.ClipSet.{any_unstorable, bad_default_mark}
use Rattle.clip.specs.Storing.{lists_number}
use Rattle.clip.proofs.storing.check_lists.Goals.{Else-any_unstorable, Else-any_unstorable-2, Else-any_unstorable-3, Else-three_equal, Else-two_equal}
use Rattle.clip.proofs.storing.check_lists.Goals as goal

not1 : (c : Else-any_unstorable) → any_unstorable c.args.times.now ≡ false
not1 c = sym c.any_unstorable.ensures ∙ c.if-any_unstorable.false

not2 : (c : Else-any_unstorable-2) → any_unstorable c.args.xs.now ≡ false
not2 c = sym c.any_unstorable-2.ensures ∙ c.if-any_unstorable-2.false

not3 : (c : Else-any_unstorable-3) → any_unstorable c.args.blocks.now ≡ false
not3 c = sym c.any_unstorable-3.ensures ∙ c.if-any_unstorable-3.false

not4 : (c : Else-two_equal) → two_equal c.args.times.now ≡ false
not4 c = sym c.two_equal.ensures ∙ c.if-two_equal.false

not5 : (c : Else-three_equal) → three_equal c.args.xs.now ≡ false
not5 c = sym c.three_equal.ensures ∙ c.if-three_equal.false

pub returns-then-any_unstorable : goal.returns-then-any_unstorable
unfolding lists_number
returns-then-any_unstorable c = rw (sym c.any_unstorable.ensures ∙ c.if-any_unstorable.true)

pub returns-then-any_unstorable-2 : goal.returns-then-any_unstorable-2
unfolding lists_number
returns-then-any_unstorable-2 c = rw (not1 (goal.at.returns-then-any_unstorable-2 c).Else-any_unstorable, sym c.any_unstorable-2.ensures ∙ c.if-any_unstorable-2.true)

pub returns-then-any_unstorable-3 : goal.returns-then-any_unstorable-3
unfolding lists_number
returns-then-any_unstorable-3 c = rw (not1 (goal.at.returns-then-any_unstorable-3 c).Else-any_unstorable, not2 (goal.at.returns-then-any_unstorable-3 c).Else-any_unstorable-2, sym c.any_unstorable-3.ensures ∙ c.if-any_unstorable-3.true)

pub returns-then-two_equal : goal.returns-then-two_equal
unfolding lists_number
returns-then-two_equal c = let a = c in rw (not1 (goal.at.returns-then-two_equal a).Else-any_unstorable, not2 (goal.at.returns-then-two_equal a).Else-any_unstorable-2, not3 (goal.at.returns-then-two_equal a).Else-any_unstorable-3, sym c.two_equal.ensures ∙ c.if-two_equal.true)

pub returns-then-three_equal : goal.returns-then-three_equal
unfolding lists_number
returns-then-three_equal c = let a = c in rw (not1 (goal.at.returns-then-three_equal a).Else-any_unstorable, not2 (goal.at.returns-then-three_equal a).Else-any_unstorable-2, not3 (goal.at.returns-then-three_equal a).Else-any_unstorable-3, not4 (goal.at.returns-then-three_equal c).Else-two_equal, sym c.three_equal.ensures ∙ c.if-three_equal.true)

pub returns-then-default-gt2 : goal.returns-then-default-gt2
unfolding lists_number bad_default_mark
returns-then-default-gt2 c = let a = c in rw (not1 (goal.at.returns-then-default-gt2 a).Else-any_unstorable, not2 (goal.at.returns-then-default-gt2 a).Else-any_unstorable-2, not3 (goal.at.returns-then-default-gt2 a).Else-any_unstorable-3, not4 (goal.at.returns-then-default-gt2 c).Else-two_equal, not5 (goal.at.returns-then-default-gt2 c).Else-three_equal, lt-ltb _ _ c.if-default-gt2.true)

pub returns : goal.returns
unfolding lists_number bad_default_mark
returns c = let a = c in rw (not1 (goal.at.returns a).Else-any_unstorable, not2 (goal.at.returns a).Else-any_unstorable-2, not3 (goal.at.returns a).Else-any_unstorable-3, not4 (goal.at.returns c).Else-two_equal, not5 (goal.at.returns c).Else-three_equal, le-ltb _ _ c.if-default-gt2.false)
