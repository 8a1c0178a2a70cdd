-- `sdf::scans::sound` meets its contract: the clips before an end are walked, and the ends from it on answer whether all close the list. Assumes nothing.
use Prim.Native.Nat.{◌≤◌}
use mathlib.Core.Path.{◌≡◌}
use lib.ListN.{length, drop}
use Rattle.definitions.specs.Samples.{closes, clip_begin}
use Rattle.sdf.proofs.Sound.{Walked}
use Rattle.sdf.proofs.scans.sound.Given as goal

abbrev pub invariant-loop-end : goal.invariant-loop-end
invariant-loop-end l =
    (l.between ≤ l.end-index)
    × (l.begin ≡ clip_begin l.ends l.end-index)
    × (closes 0 l.ends (length l.times) ≡ closes l.begin (drop l.end-index l.ends) (length l.times))
    × Walked l.times l.ends l.between l.begin l.end-index
