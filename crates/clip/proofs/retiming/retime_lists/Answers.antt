-- `clip::retiming::retime_lists` meets its contract. Assumes nothing.
use mathlib.Core.Path.{◌≡◌, sym, ap, subst, ◌∙◌}
use native.Mathlib.Omega.{arith}
use Rattle.definitions.specs.declared.Missing.{Missing}
use Rattle.definitions.specs.ClipSet as Definitions
use Rattle.laws.specs.cell.Lent.{set_of}
use Rattle.clip.specs.Holding.{IsHeld, clip_set_of, manifest_of}
use Rattle.clip.specs.Storing.{Fitting, lists_number, settle_number}
use Rattle.clip.specs.Retiming.{moved_and_sorted}
use Rattle.clip.proofs.Moved.{turned-is}
use Rattle.clip.proofs.Preparing.{hands, hands-not, same-reason}
use Rattle.clip.proofs.Stored.{lists-number-is}
use Rattle.clip.proofs.retiming.retime_lists.Goals.{After-sort_turned, Start as At-start}
use Rattle.clip.proofs.retiming.retime_lists.Goals as goal

abbrev retimed : At-start → Definitions.ClipSet
retimed s = moved_and_sorted s.args.o (clip_set_of s.args.set)

-- the lists as they are stored, and their lengths
abbrev lists : After-sort_turned → Definitions.ClipSet
lists c =
    let set = c.args.set in
    set_of set.clips c.sort_turned.new.times c.sort_turned.new.numbers c.sort_turned.new.xs c.sort_turned.new.ys c.unpack_moved.new.blocks (manifest_of set)

lists-are : (c : After-sort_turned) → lists c ≡ retimed (goal.at.After-sort_turned c).Start
lists-are c =
    let u = c.unpack_moved in
    let t = c.sort_turned in
    let a = c.args in
    turned-is a.o (clip_set_of a.set) a.set.clips u.new.times t.new.times u.new.numbers t.new.numbers u.new.xs u.new.ys t.new.xs t.new.ys u.new.blocks (manifest_of a.set)
    u.ensures t.ensures.numbers_value t.ensures.ys_value

fitting : (c : After-sort_turned) → Fitting c.sort_turned.new.times c.sort_turned.new.numbers c.sort_turned.new.xs c.sort_turned.new.ys c.unpack_moved.new.blocks
fitting c =
    let times = c.sort_turned.auto.times ∙ c.unpack_moved.auto.times ∙ c.requires.fact_2.times in
    let numbers = c.sort_turned.auto.numbers ∙ c.unpack_moved.auto.numbers ∙ c.requires.fact_2.numbers in
    let xs = c.sort_turned.auto.xs ∙ c.unpack_moved.auto.xs ∙ c.requires.fact_2.xs in
    let ys = c.sort_turned.auto.ys ∙ c.unpack_moved.auto.ys ∙ c.requires.fact_2.ys in
    let blocks = c.unpack_moved.auto.blocks ∙ c.requires.fact_2.blocks in
    record { starts = times ∙ sym numbers; knots = xs ∙ sym ys; few-starts = omega (arith, c.requires.fact_1.active.few); few-knots = omega (arith, c.requires.fact_1.knots.few); few-blocks = omega (arith, c.requires.fact_1.blocks.few) }

number_is : (c : After-sort_turned) → lists_number c.sort_turned.new.times c.sort_turned.new.xs c.unpack_moved.new.blocks c.args.set.default ≡ settle_number (retimed (goal.at.After-sort_turned c).Start)
number_is c =
    let set = c.args.set in
    lists-number-is set.clips c.sort_turned.new.times c.sort_turned.new.numbers c.sort_turned.new.xs c.sort_turned.new.ys c.unpack_moved.new.blocks (manifest_of set) (fitting c) ∙ ap settle_number (lists-are c)

pub returns-in_err-check_lists : goal.returns-in_err-check_lists
returns-in_err-check_lists c =
    let r = retimed (goal.at.returns-in_err-check_lists c).Start in
    hands-not (clip_set_of c.args.set) r _ _ (settle_number r) (same-reason _ _ c.from_residual.ensures.1) (c.in_err-check_lists.ensures ∙ number_is (goal.at.returns-in_err-check_lists c).After-sort_turned)

pub shape_of-times : goal.shape_of-times
shape_of-times c = c.sort_turned.auto.times ∙ c.unpack_moved.auto.times

pub shape_of-numbers : goal.shape_of-numbers
shape_of-numbers c = c.sort_turned.auto.numbers ∙ c.unpack_moved.auto.numbers

pub shape_of-xs : goal.shape_of-xs
shape_of-xs c = c.sort_turned.auto.xs ∙ c.unpack_moved.auto.xs

pub shape_of-ys : goal.shape_of-ys
shape_of-ys c = c.sort_turned.auto.ys ∙ c.unpack_moved.auto.ys

pub shape_of-blocks : goal.shape_of-blocks
shape_of-blocks c = c.unpack_moved.auto.blocks

pub returns : goal.returns
returns c =
    let r = retimed (goal.at.returns c).Start in
    let sorted = (goal.at.returns c).After-sort_turned in
    let u = c.unpack_moved in
    let t = c.sort_turned in
    let stored = ap (λ (m : Missing). set_of c.args.set.clips t.new.times t.new.numbers t.new.xs t.new.ys u.new.blocks m) c.manifest.ensures in
    hands (clip_set_of c.args.set) r c.store.result (settle_number r) (c.in_ok-check_lists.ensures ∙ number_is sorted)
    (subst (λ (set : Definitions.ClipSet). IsHeld set c.store.result) (stored ∙ lists-are sorted) c.store.ensures)
