use Prim.Native.Nat.{◌+◌, ◌*◌, ◌≤◌}
use mathlib.Core.Path.{refl}
use native.Mathlib.Omega.{arith}
use lib.ListN.{length}
use Rattle.resolver.specs.State.{lent_state}
use Rattle.pages.proofs.LentPages.{lent-long, back}
use Rattle.pages.proofs.placing.put_set.Goals.{Start as At-start}
use Rattle.pages.proofs.placing.put_set.Goals as goal

-- `pages::placing::put_set` meets its contract: five parts come back in their places. Assumes nothing.
module _ (s : At-start) where
  in-starts : s.args.i * 256 + 256 ≤ length s.args.starts.now
  in-starts = omega (arith, s.requires.fact_1.of-starts, s.requires.fact_2)

  in-numbers : s.args.i * 256 + 256 ≤ length s.args.numbers.now
  in-numbers = omega (arith, s.requires.fact_1.of-numbers, s.requires.fact_2)

  in-xs : s.args.i * 512 + 512 ≤ length s.args.xs.now
  in-xs = omega (arith, s.requires.fact_1.of-xs, s.requires.fact_2)

  in_ys : s.args.i * 512 + 512 ≤ length s.args.ys.now
  in_ys = omega (arith, s.requires.fact_1.of-ys, s.requires.fact_2)

  in_blocks : s.args.i * 256 + 256 ≤ length s.args.blocks.now
  in_blocks = omega (arith, s.requires.fact_1.of_blocks, s.requires.fact_2)

pub install-requires : goal.install-requires
install-requires c =
    let s = c in
    let a = s.args.i * 256 in
    let b = s.args.i * 512 in record {
      made = (c.fresh.ensures _ _ _ _ _ (record {
        of-starts = lent-long a 256 s.args.starts.now (in-starts (goal.at.install-requires s).Start);
        of-numbers = lent-long a 256 s.args.numbers.now (in-numbers (goal.at.install-requires s).Start);
        of-xs = lent-long b 512 s.args.xs.now (in-xs (goal.at.install-requires s).Start);
        of-ys = lent-long b 512 s.args.ys.now (in_ys (goal.at.install-requires s).Start);
        of_blocks = lent-long a 256 s.args.blocks.now (in_blocks (goal.at.install-requires s).Start);
      })).made;
      made_set = s.requires.fact_3;
    }

pub returns : goal.returns
returns c =
    let s = c in
    let k = c.install in
    let w = k.ensures.made.whole in
    let a = s.args.i * 256 in
    let b = s.args.i * 512 in
    record {
      before = _;
      own = lent_state k.result k.new.starts k.new.numbers k.new.xs k.new.ys k.new.blocks;
      installs = k.ensures;
      is = refl;
      starts-after = back a 256 s.args.starts.now (in-starts (goal.at.returns s).Start) k.new.starts w.in-starts.long;
      numbers_after = back a 256 s.args.numbers.now (in-numbers (goal.at.returns s).Start) k.new.numbers w.in-numbers.long;
      xs-after = back b 512 s.args.xs.now (in-xs (goal.at.returns s).Start) k.new.xs w.in-xs.long;
      ys-after = back b 512 s.args.ys.now (in_ys (goal.at.returns s).Start) k.new.ys w.in_ys.long;
      blocks-after = back a 256 s.args.blocks.now (in_blocks (goal.at.returns s).Start) k.new.blocks w.in_blocks.long;
    }
