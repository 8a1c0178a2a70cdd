use Prim.Native.Nat.{◌+◌, ◌-◌, ◌*◌, ◌≤◌}
use mathlib.Core.Path.{◌≡◌, refl, sym, subst}
use native.Mathlib.Omega.{arith}
use lib.ListN.{length, take, drop}
use Rattle.resolver.specs.declared.Resolver.{Resolver}
use Rattle.definitions.specs.Refusals.{number_in}
use Rattle.resolver.specs.State.{Made, left, lent_state}
use Rattle.resolver.specs.Promises as desk
use Rattle.pages.specs.Pages.{page_state}
use Rattle.pages.proofs.Parts.{part-to}
use Rattle.pages.proofs.LentPages.{back}
use Rattle.pages.proofs.placing.move_set.Goals.{Start as At-start}
use Rattle.pages.proofs.placing.move_set.Goals as goal

-- `pages::placing::move_set` meets its contract: five parts come back in their places. Assumes nothing.
module _ (s : At-start) where
  in-starts : s.args.i * 256 + 256 ≤ length s.args.starts.now
  in-starts = omega (arith, s.requires.fact_1.of-starts, s.requires.fact_2)

  in-numbers : s.args.i * 256 + 256 ≤ length s.args.numbers.now
  in-numbers = omega (arith, s.requires.fact_1.of-numbers, s.requires.fact_2)

  in-xs : s.args.i * 512 + 512 ≤ length s.args.xs.now
  in-xs = omega (arith, s.requires.fact_1.of-xs, s.requires.fact_2)

  in_ys : s.args.i * 512 + 512 ≤ length s.args.ys.now
  in_ys = omega (arith, s.requires.fact_1.of-ys, s.requires.fact_2)

  in_blocks : s.args.i * 256 + 256 ≤ length s.args.blocks.now
  in_blocks = omega (arith, s.requires.fact_1.of_blocks, s.requires.fact_2)

  -- the state as it is lent
  abbrev lent : Resolver
  lent =
      let a = s.args.i * 256 in
      let b = s.args.i * 512 in
      lent_state s.args.shape (take (a + 256 - a) (drop a s.args.starts.now)) (take (a + 256 - a) (drop a s.args.numbers.now)) (take (b + 512 - b) (drop b s.args.xs.now)) (take (b + 512 - b) (drop b s.args.ys.now)) (take (a + 256 - a) (drop a s.args.blocks.now))

  lent-is : lent ≡ page_state s.args.shape s.args.i s.args.starts.now s.args.numbers.now s.args.xs.now s.args.ys.now s.args.blocks.now
  lent-is =
      let a = s.args.i * 256 in
      let b = s.args.i * 512 in
      λ k. lent_state s.args.shape (part-to a 256 s.args.starts.now k) (part-to a 256 s.args.numbers.now k) (part-to b 512 s.args.xs.now k) (part-to b 512 s.args.ys.now k) (part-to a 256 s.args.blocks.now k)

pub retime-requires : goal.retime-requires
retime-requires c = let s = c in subst Made (sym (lent-is (goal.at.retime-requires s).Start)) s.requires.fact_3

pub returns : goal.returns
returns c =
    let s = c in
    let k = c.retime in
    let w = k.ensures.made.whole in
    let a = s.args.i * 256 in
    let b = s.args.i * 512 in
    let own : Resolver = lent_state (left s.args.shape k.result) k.new.starts k.new.numbers k.new.xs k.new.ys k.new.blocks in
    record {
      own = own;
      retimes = subst (λ (x : Resolver). desk.Retimes x s.args.o (number_in k.result) own) (lent-is (goal.at.returns s).Start) k.ensures;
      is = refl;
      starts-after = back a 256 s.args.starts.now (in-starts (goal.at.returns s).Start) k.new.starts w.in-starts.long;
      numbers_after = back a 256 s.args.numbers.now (in-numbers (goal.at.returns s).Start) k.new.numbers w.in-numbers.long;
      xs-after = back b 512 s.args.xs.now (in-xs (goal.at.returns s).Start) k.new.xs w.in-xs.long;
      ys-after = back b 512 s.args.ys.now (in_ys (goal.at.returns s).Start) k.new.ys w.in_ys.long;
      blocks-after = back a 256 s.args.blocks.now (in_blocks (goal.at.returns s).Start) k.new.blocks w.in_blocks.long;
    }
