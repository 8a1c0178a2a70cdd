-- `explicit::parsing::copy_clips` meets its contract: the first i indices are written. Assumes nothing.
use Rattle.std.proofs.Common.{◌≡◌, map, take}
use Rattle.gf.specs.Doubles.{truncated}
use Rattle.explicit.proofs.parsing.copy_clips.Given as goal

abbrev pub invariant-loop-i : goal.invariant-loop-i
invariant-loop-i l = take l.i l.to ≡ map truncated (take l.i l.numbers)
