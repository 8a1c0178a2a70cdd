-- `cases::track_hash::walk` is safe and ends: each page leads to a higher key, so the keys that are left are fewer. Assumes nothing.
use Rattle.std.proofs.Common.{◌-◌}
use Rattle.gf.specs.Doubles as Key
use Rattle.track.specs.Fills.{CursorIs}
use Rattle.cases.proofs.track_hash.walk.Given as goal

abbrev pub invariant-loop-m : goal.invariant-loop-m
invariant-loop-m l =
    CursorIs l.starts l.clips l.xs l.ys l.blocks l.m l.times l.values l.marks l.ends Key.most l.at

abbrev pub decreases-loop-m : goal.decreases-loop-m
decreases-loop-m l = Key.most - l.at.key
