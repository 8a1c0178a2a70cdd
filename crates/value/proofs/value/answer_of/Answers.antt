-- `value::value::answer_of` meets its contract. Assumes nothing.
use mathlib.Core.Path.{◌∙◌, subst}
use Prim.Native.Nat.{◌+◌, ◌<◌}
use native.Mathlib.Omega.{arith}
use lib.ListN.{length}
use Rattle.definitions.specs.Samples.{clip_begin}
use Rattle.value.specs.Answers.{Answerable}
use Rattle.value.proofs.Answers.{says-sample, says-default, says-blocked, says-absent}
use Rattle.value.proofs.value.answer_of.Goals.{In-Sample}
use Rattle.value.proofs.value.answer_of.Goals as goal

-- a sample's place
inside : (k : In-Sample) → (k.in-Sample.clip < length k.args.ends.now) × (clip_begin k.args.ends.now k.in-Sample.clip + k.in-Sample.place < length k.args.values.now)
inside k = subst (Answerable (length k.args.values.now) k.args.ends.now) k.in-Sample.is k.requires.fact_1

pub clip_begin-begin-requires : goal.clip_begin-begin-requires
clip_begin-begin-requires c = (inside (goal.at.clip_begin-begin-requires c).In-Sample).0

pub clip_end-end-requires : goal.clip_end-end-requires
clip_end-end-requires c = (inside (goal.at.clip_end-end-requires c).In-Sample).0

pub answer-requires : goal.answer-requires
answer-requires c =
    let h = (inside (goal.at.answer-requires c).In-Sample).1 in
    record { value = omega (arith, c.clip_begin-begin.ensures); mark = omega (arith, c.clip_begin-begin.ensures, c.requires.fact_2) }

pub returns-in-Sample : goal.returns-in-Sample
returns-in-Sample c =
    let a = c.args in
    c.answer.ensures ∙ says-sample a.m a.values.now a.marks.now a.ends.now a.source c.in-Sample.clip c.in-Sample.place c.clip_begin-begin.result c.in-Sample.is c.clip_begin-begin.ensures

pub returns-in-Default : goal.returns-in-Default
returns-in-Default c = says-default c.args.m c.args.values.now c.args.marks.now c.args.ends.now c.args.source c.in-Default.is

pub returns-in-Blocked : goal.returns-in-Blocked
returns-in-Blocked c = says-blocked c.args.m c.args.values.now c.args.marks.now c.args.ends.now c.args.source c.in-Blocked.is

pub returns-in-Absent : goal.returns-in-Absent
returns-in-Absent c = says-absent c.args.m c.args.values.now c.args.marks.now c.args.ends.now c.args.source c.in-Absent.is
