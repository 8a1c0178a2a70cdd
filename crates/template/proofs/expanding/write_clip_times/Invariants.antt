-- `template::expanding::write_clip_times` meets its contract: the first i entries are written. Assumes nothing.
use Rattle.std.proofs.Common.{◌≡◌, take}
use Rattle.template.specs.Expanding.{times_of_clips}
use Rattle.template.proofs.expanding.write_clip_times.Given as goal

abbrev pub invariant-loop-i : goal.invariant-loop-i
invariant-loop-i l = take l.i l.to ≡ times_of_clips (take l.i l.ts)
