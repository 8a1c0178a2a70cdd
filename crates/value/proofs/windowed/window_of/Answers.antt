-- `value::windowed::window_of` meets its contract. Assumes nothing.
use mathlib.Core.Path.{refl, sym, ap₂, ◌∙◌}
use mathlib.Core.Bool.{not, ◌&&◌}
use Prim.Native.Nat.{ℕ}
use lib.Dec.{ltb, ltb→lt}
use lib.ListN.{get_or}
use lib.Ieee.{Float, nan, eq}
use Rattle.definitions.specs.Lists.{any}
use Rattle.laws.proofs.list.Tests.{holds, is_true, both_l, both_r}
use Rattle.window.proofs.Parts.{ready-clip}
use Rattle.value.proofs.WindowOf.{window-samples, window-gap}
use Rattle.value.proofs.windowed.window_of.Goals as goal

pub clip_begin-begin-requires : goal.clip_begin-begin-requires
clip_begin-begin-requires c = ready-clip c.requires.fact_1 c.args.p c.requires.fact_2

pub clip_end-end-requires : goal.clip_end-end-requires
clip_end-end-requires c = ready-clip c.requires.fact_1 c.args.p c.requires.fact_2

pub returns-then-has_samples : goal.returns-then-has_samples
returns-then-has_samples c =
    let a = c.args in
    let own = not (a.m.interpolate && any (λ (b : Float). eq b (get_or a.starts.now a.p nan)) a.blocks.now) in
    let u = holds (ltb c.clip_begin-begin.result c.clip_end-end.result && own) (sym c.has_samples.ensures ∙ c.if-has_samples.true) in
    window-samples c.requires.fact_1 a.p c.requires.fact_2 _ refl refl c.window_min-min.ensures c.window_max-max.ensures c.clip_begin-begin.ensures c.clip_end-end.ensures
    (ltb→lt c.clip_begin-begin.result c.clip_end-end.result (both_l (ltb c.clip_begin-begin.result c.clip_end-end.result) own u)) (is_true own (both_r (ltb c.clip_begin-begin.result c.clip_end-end.result) own u))

pub returns : goal.returns
returns c =
    let a = c.args in
    let own = not (a.m.interpolate && any (λ (b : Float). eq b (get_or a.starts.now a.p nan)) a.blocks.now) in
    window-gap c.requires.fact_1 a.p c.requires.fact_2 _ refl refl c.window_min-min.ensures c.window_max-max.ensures c.clip_begin-begin.ensures refl c.interpolate_missing_value-gap.ensures
    (ap₂ (λ (x y : ℕ). ltb x y && own) (sym c.clip_begin-begin.ensures) (sym c.clip_end-end.ensures) ∙ sym c.has_samples.ensures ∙ c.if-has_samples.false)
