-- `names::put_bytes` meets its contract: copying what is left makes the whole. Assumes nothing.
use Rattle.std.proofs.Common.{◌≡◌, ◌+◌, drop}
use Rattle.names.specs.Put.{put}
use Rattle.names.proofs.put_bytes.Given as goal

abbrev pub invariant-loop-i : goal.invariant-loop-i
invariant-loop-i l = put l.out (l.at + l.i) (drop l.i l.bytes) ≡ put l.initial.out l.at l.bytes
