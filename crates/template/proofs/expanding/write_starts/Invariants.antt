-- `template::expanding::write_starts` meets its contract: the first i entries are written. Assumes nothing.
use Rattle.std.proofs.Common.{◌≡◌, map, take}
use Rattle.definitions.specs.Template.{stage_time}
use Rattle.template.specs.Expanding.{offset_of}
use Rattle.template.proofs.expanding.write_starts.Given as goal

abbrev pub invariant-loop-i : goal.invariant-loop-i
invariant-loop-i l = take l.i l.to ≡ map (stage_time (offset_of l.times l.offset)) (take l.i l.ts)
