-- `run::inside::sample_in_run` meets its contract. Assumes nothing.
use mathlib.Core.Path.{sym, subst}
use mathlib.Core.Bool.{not}
use lib.Dec.{T}
use lib.Ieee.{Float, is_nan}
use Rattle.run.proofs.Runs.{span-number}
use Rattle.run.proofs.inside.sample_in_run.Goals as goal

pub key-key-requires : goal.key-key-requires
key-key-requires c =
    let a = c.args in
    subst (λ (x : Float). T (not (is_nan x))) (sym c.stage_time.ensures) (span-number a.cs.now c.requires.sound_segment_2 (a.s.a, a.s.b) c.requires.sound_segment_1 a.i c.requires.i_in_bounds_2).1
