-- `run::inside::next_in_run` meets its contract. Assumes nothing.
use native.Mathlib.Omega.{arith}
use Prim.Native.Nat.{suc, ◌-◌}
use mathlib.Core.Path.{◌≡◌}
use Rattle.definitions.specs.declared.Knot.{Knot}
use Rattle.laws.proofs.list.Tests.{holds}
use Rattle.run.proofs.Runs.{end-up, over-end, step-up, end-down, under-end, step_down, end-flat}
use Rattle.run.proofs.inside.next_in_run.Goals.{Start as At-start, else-n-cs-via-then-n-cs+else-cs-n, else-n-cs-via-else-n-cs, else-s-2-via-then-s-2+then-n-gt0+else-s-cs, else-s-2-via-then-s-2+else-n-gt0, else-s-2-via-else-s-2}
use Rattle.run.proofs.inside.next_in_run.Goals as goal

-- the segment
abbrev q : At-start → Knot × Knot
q a = (a.args.s.a, a.args.s.b)

pub returns-then-cs-n : goal.returns-then-cs-n
returns-then-cs-n c = λ k P.
    let a = c.args in
    step-up a.cs.now c.requires.sound_segment_2 (a.s.a, a.s.b) c.requires.sound_segment_1 a.n k a.hi P (holds _ c.if-s.true) c.if-n-cs.true (holds _ c.if-cs-n.true) c.sample_in_run.result c.sample_in_run.ensures

pub returns-else-n-cs : goal.returns-else-n-cs
returns-else-n-cs c = λ k P.
    let a = c.args in
    let u = holds _ c.if-s.true in
    elim c.else-n-cs.branch [
      | else-n-cs-via-then-n-cs+else-cs-n w ↦ over-end a.cs.now c.requires.sound_segment_2 (a.s.a, a.s.b) c.requires.sound_segment_1 a.n k a.hi P u w.if-n-cs.true w.if-cs-n.false
      | else-n-cs-via-else-n-cs w ↦ end-up a.cs.now c.requires.sound_segment_2 (a.s.a, a.s.b) c.requires.sound_segment_1 a.n k a.hi P u w.if-n-cs.false
    ]

pub returns-then-s-cs : goal.returns-then-s-cs
returns-then-s-cs c = λ k P.
    let a = c.args in
    let before : suc (a.n - 1) ≡ a.n = omega (arith, c.if-n-gt0.true) in
    step_down a.cs.now c.requires.sound_segment_2 (a.s.a, a.s.b) c.requires.sound_segment_1 a.n k a.hi P (holds _ c.if-s-2.true) (a.n - 1) before (holds _ c.if-s-cs.true) c.sample_in_run-then-s-cs.result c.sample_in_run-then-s-cs.ensures

pub returns-else-s-2 : goal.returns-else-s-2
returns-else-s-2 c = λ k P.
    let a = c.args in
    elim c.else-s-2.branch [
      | else-s-2-via-then-s-2+then-n-gt0+else-s-cs w ↦
          let before : suc (a.n - 1) ≡ a.n = omega (arith, w.if-n-gt0.true) in
          under-end a.cs.now c.requires.sound_segment_2 (a.s.a, a.s.b) c.requires.sound_segment_1 a.n k a.hi P (holds _ w.if-s-2.true) (a.n - 1) before w.if-s-cs.false
      | else-s-2-via-then-s-2+else-n-gt0 w ↦ end-down a.cs.now c.requires.sound_segment_2 (a.s.a, a.s.b) c.requires.sound_segment_1 a.n k a.hi P (holds _ w.if-s-2.true) (omega (arith, w.if-n-gt0.false))
      | else-s-2-via-else-s-2 w ↦ end-flat a.cs.now c.requires.sound_segment_2 (a.s.a, a.s.b) c.requires.sound_segment_1 a.n k a.hi P c.if-s.false w.if-s-2.false
    ]
