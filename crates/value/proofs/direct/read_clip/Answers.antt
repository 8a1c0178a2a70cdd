-- `value::direct::read_clip` meets its contract: the look goes over the clip's own part of the lists. Assumes nothing.
use mathlib.Core.Path.{sym, ap, ap₂, ◌∙◌}
use Prim.Native.Nat.{ℕ}
use Rattle.definitions.specs.Timing.{map_stage_to_clip}
use Rattle.laws.specs.cell.Lent.{knots_of}
use Rattle.sdf.specs.look.Reads.{held_reading}
use Rattle.sdf.proofs.look.ReadsLaws.{held_none}
use Rattle.value.proofs.direct.ReadsLaws.{part-looked}
use Rattle.value.proofs.direct.read_clip.Goals as goal

pub returns-then-begin-end : goal.returns-then-begin-end
returns-then-begin-end c =
    let k = c in
    let a = k.args in
    held_none a.times.now a.values.now a.marks.now _ _ _ (sym k.clip_begin-begin.ensures ∙ c.if-begin-end.true ∙ k.clip_end-end.ensures)

pub read-requires : goal.read-requires
read-requires c =
    let k = c in
    let s = k in
    let a = s.args in
    part-looked a.xs.now a.ys.now a.times.now a.values.now a.marks.now a.ends.now a.clip a.t s.requires.readable_1 s.requires.readable_2 s.requires.values_len_1 s.requires.values_len_2 _ _
    k.clip_begin-begin.ensures k.clip_end-end.ensures

pub returns : goal.returns
returns c =
    let k = c in
    let a = k.args in
    c.read.ensures
    ∙ ap (held_reading a.times.now a.values.now a.marks.now k.clip_begin-begin.result k.clip_end-end.result) c.map_time.ensures
    ∙ ap₂ (λ (b e : ℕ). held_reading a.times.now a.values.now a.marks.now b e (map_stage_to_clip (knots_of a.xs.now a.ys.now) a.t)) k.clip_begin-begin.ensures k.clip_end-end.ensures
