-- `lent_changes::fresh` meets its contract: no set stands, and no entry of any list counts. Assumes nothing.
use mathlib.Core.Path.{refl}
use native.Mathlib.Omega.{arith}
use Rattle.lent_changes.proofs.fresh.Goals as goal

pub returns : goal.returns
returns c starts numbers xs ys blocks l = record {
  empty = refl;
  made = record {
    whole = record {
      in-starts = record { long = l.of-starts; few = omega arith };
      in-numbers = record { long = l.of-numbers; few = omega arith };
      in-xs = record { long = l.of-xs; few = omega arith };
      in_ys = record { long = l.of-ys; few = omega arith };
      in_blocks = record { long = l.of_blocks; few = omega arith };
    };
    sound = tt;
  };
}
