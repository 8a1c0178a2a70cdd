use mathlib.Core.Path.{subst}
use Prim.Native.Nat.{◌<◌}
use native.Mathlib.Omega.{arith}
use Rattle.dispatch.specs.NamedSets.{max_sets}
use Rattle.resolver.specs.declared.Shape.{Shape}
use Rattle.std.specs.Prelude.{Result}
use Rattle.definitions.specs.declared.refusal.Refusal.{Refusal}
use Rattle.definitions.specs.Refusals.{number_in}
use Rattle.clip.proofs.Preparing.{by-reason}
use Rattle.set_changes.specs.Promises.{RetimesAt}
use Rattle.pages.specs.Pages.{Pages, pages, shape_in}
use Rattle.pages.specs.Placing.{MovedAt}
use Rattle.set_changes.proofs.Moved.{made-page, refused-at, moved_at-is}
use Rattle.set_changes.proofs.retime_at.Goals.{After-move_set, Start as At-start}
use Rattle.set_changes.proofs.retime_at.Goals as goal

-- `set_changes::retime_at` meets its contract: refused, nothing is written; else the set is moved in its place. Assumes nothing.
abbrev lent : At-start → Pages
lent s = let a = s.args in pages a.starts.now a.numbers.now a.xs.now a.ys.now a.blocks.now a.defaults.now a.counts.now a.bytes.now

few : (s : At-start) → s.args.i < max_sets
few s = omega (arith, s.requires.fact_1.names.few, s.requires.fact_2)

pub move_set-requires : goal.move_set-requires
move_set-requires c =
    let s = c in
    let l = s.requires.fact_1.long in
    record { fact_1 = record { of-starts = l.of-starts; of-numbers = l.of-numbers; of-xs = l.of-xs; of-ys = l.of-ys; of_blocks = l.of_blocks }; fact_2 = few (goal.at.move_set-requires s).Start; fact_3 = made-page (lent (goal.at.move_set-requires s).Start) s.requires.fact_1 s.args.i s.requires.fact_2 _ c.shape_at-shape.ensures }

-- what the move promises, of the shape that the page holds
module _ (c : After-move_set) where
  abbrev Moves : Shape → Result Shape Refusal → Type 0
  Moves h r = MovedAt c.args.i h c.args.o c.args.starts.now c.args.numbers.now c.args.xs.now c.args.ys.now c.args.blocks.now
      r c.move_set.new.starts c.move_set.new.numbers c.move_set.new.xs c.move_set.new.ys c.move_set.new.blocks

  of-page : (r : Result Shape Refusal) → Moves c.shape_at-shape.result r → Moves (shape_in c.args.defaults.now c.args.counts.now c.args.bytes.now c.args.i) r
  of-page r m = subst (λ (h : Shape). Moves h r) c.shape_at-shape.ensures m

pub returns-in_err-moved : goal.returns-in_err-moved
returns-in_err-moved c =
    let s = (goal.at.returns-in_err-moved c).Start in
    let n = c.move_set.new in
    by-reason (λ (r : Result (Unit {0}) Refusal). RetimesAt (lent s) c.args.i c.args.o (number_in r) (pages n.starts n.numbers n.xs n.ys n.blocks c.args.defaults.now c.args.counts.now c.args.bytes.now)) _ _ c.from_residual.ensures.1
    (refused-at (lent s) c.requires.fact_1 c.args.i c.requires.fact_2 c.args.o _ _ _ _ _ _ (of-page (goal.at.returns-in_err-moved c).After-move_set _ c.in_err-moved.ensures))

pub store_shape-requires : goal.store_shape-requires
store_shape-requires c = let s = c in record { fact_1 = s.requires.fact_1.long.sizes; fact_2 = few (goal.at.store_shape-requires s).Start }

pub returns : goal.returns
returns c =
    let s = (goal.at.returns c).Start in
    moved_at-is (lent s) c.requires.fact_1 c.args.i c.requires.fact_2 c.args.o _ _ _ _ _ _ (of-page (goal.at.returns c).After-move_set _ c.in_ok-moved.ensures) _ _ _ c.store_shape.ensures
