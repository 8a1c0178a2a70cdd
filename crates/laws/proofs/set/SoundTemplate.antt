-- A template acceptance gives a sound set. Its times fit their format, being results of operations. Assumes nothing.
use mathlib.Core.Path.{◌≡◌, refl, ap, subst}
use Prim.Native.Nat.{ℕ, suc, ◌+◌, ◌≤◌, ◌<◌}
use native.Mathlib.Omega.{arith}
use mathlib.Core.Bool.{false, ◌||◌}
use mathlib.Core.List.{List, [], ◌∷◌}
use mathlib.Core.Option.{Option, none, some}
use lib.Dec.{ltb, lit<}
use lib.ListN.{length, length-append}
use lib.Ieee.{Float, binary64}
use lib.Ieee.Fits.{add-fits, sub-fits, div-fits}
use borrow.Author.Tests.{ltb-false}
use Rattle.definitions.specs.declared.Knot.{Knot}
use Rattle.definitions.specs.declared.TemplateTimes.{TemplateTimes}
use Rattle.gf.specs.Doubles.{◌⊕◌, ◌⊗◌, 10000·0, abs, total_key}
use Rattle.definitions.specs.declared.Start.{Start}
use Rattle.definitions.specs.ClipSet.{max_clips, max_blocks, max_template, active_times, knot_times, sort_knots, any_unstorable, nan_default, beyond_limits, equal_starts, equal_knots, bad_default_mark}
use Rattle.definitions.specs.Template.{TemplateFields, active_offset, promoted, stage_time, activations, diagonal, clip_knots, with_bounds, template_set, template1, times_unstorable, template2, template7, template6, template8, template_number}
use Rattle.laws.proofs.list.Tests.{or-false, passed}
use Rattle.laws.specs.list.Every.{Every}
use Rattle.laws.proofs.list.Every.{every_map, every_append, every-to-map}
use Rattle.laws.specs.list.Places.{Fits}
use Rattle.laws.proofs.list.Sorting.{every-sort}
use Rattle.laws.specs.set.Stored.{Stored}
use Rattle.laws.specs.set.Sound.{Sound, knot_values}
use Rattle.laws.proofs.set.Sound.{sorted-times, sorted-active, sorted-knots, length-active, length-knots, strict-starts, InLimits, in-limits, sound-default}

-- what Rattle gives of f64 parameters
pub record TemplateFits (f : TemplateFields) : Type 0 where
  pub blocks : Every Fits f.blocks
  pub value : Fits f.default.value

-- the tests that failed
pub record TemplatePasses (f : TemplateFields) : Type 0 where
  pub not1 : template1 f ≡ false
  pub not2 : template2 f ≡ false
  pub not7 : template7 f ≡ false
  pub not6 : template6 f ≡ false
  pub not8 : template8 f ≡ false
  pub inside : beyond_limits (template_set f) ≡ false
  pub not4 : equal_starts (template_set f) ≡ false
  pub not5 : equal_knots (template_set f) ≡ false
  pub not9 : bad_default_mark f.default ≡ false

pub template-passes : (f : TemplateFields) → template_number f ≡ 0 → TemplatePasses f
unfolding template_number
template-passes f e =
    let p1 = passed 1 (template1 f) _ (lit< tt) e in
    let p2 = passed 2 (template2 f) _ (lit< tt) p1.1 in
    let p7 = passed 7 (template7 f) _ (lit< tt) p2.1 in
    let p6 = passed 6 (template6 f) _ (lit< tt) p7.1 in
    let p8 = passed 8 (template8 f) _ (lit< tt) p6.1 in
    let pl = passed 2 (beyond_limits (template_set f)) _ (lit< tt) p8.1 in
    let p4 = passed 4 (equal_starts (template_set f)) _ (lit< tt) pl.1 in
    let p5 = passed 5 (equal_knots (template_set f)) _ (lit< tt) p4.1 in
    let p9 = passed 9 (bad_default_mark f.default) _ (lit< tt) p5.1 in
    record { not1 = p1.0; not2 = p2.0; not7 = p7.0; not6 = p6.0; not8 = p8.0; inside = pl.0; not4 = p4.0; not5 = p5.0; not9 = p9.0 }

-- ---- what the tests say

few-blocks : (f : TemplateFields) → template1 f ≡ false → length f.blocks ≤ max_blocks
unfolding template1
few-blocks f e = ltb-false max_blocks (length f.blocks) (or-false (ltb max_template (length f.template)) (ltb max_blocks (length f.blocks)) e).1

number : (f : TemplateFields) → template2 f ≡ false → nan_default f.default ≡ false
unfolding template2
number f e =
    (or-false (times_unstorable f.times (active_offset f) || any_unstorable f.blocks) (nan_default f.default) e).1

pub few-clips : (f : TemplateFields) → template8 f ≡ false → length (promoted f.times) ≤ max_clips
unfolding template8
few-clips f e = ltb-false max_clips (length (promoted f.times)) e

-- ---- the lists before they are sorted

pub stage-fits : (o : Option Float) (t : Float) → Fits (stage_time o t)
stage-fits none t = div-fits binary64 t 10000·0
stage-fits (some offset) t = div-fits binary64 (t ⊕ offset ⊗ 10000·0) 10000·0

pub length-activations : (o : Option Float) (i : ℕ) (ts : List Float) → length (activations o i ts) ≡ length ts
unfolding activations
length-activations o i [] = refl
length-activations o i (t ∷ ts) = ap suc (length-activations o (suc i) ts)

activations-fit : (o : Option Float) (i : ℕ) (ts : List Float) → Every Fits (active_times (activations o i ts))
unfolding activations
activations-fit o i [] = tt
activations-fit o i (t ∷ ts) = (stage-fits o t, activations-fit o (suc i) ts)

activations-named : (n : ℕ) (o : Option Float) (i : ℕ) (ts : List Float) → i + length ts ≤ n → Every (λ (a : Start). a.clip < n) (activations o i ts)
unfolding activations
activations-named n o i [] h = tt
activations-named n o i (t ∷ ts) h = (omega arith, activations-named n o (suc i) ts (omega arith))

-- a knot on the diagonal
abbrev Diagonal : Knot → Type 0
Diagonal k = Fits k.x × (k.x ≡ k.y)

clip-knots : (ts : List Float) → Every Diagonal (clip_knots ts)
clip-knots [] = tt
clip-knots (t ∷ ts) = ((div-fits binary64 t 10000·0, refl), clip-knots ts)

bounded-knots : (x : TemplateTimes) (o : Option Float) (knots : List Knot) → Every Diagonal knots → Every Diagonal (with_bounds x o knots)
bounded-knots x none knots e = e
bounded-knots x (some offset) knots e =
    ((sub-fits binary64 x.start (abs offset), refl), every_append Diagonal knots (diagonal (x.end ⊕ abs offset) ∷ []) e ((add-fits binary64 x.end (abs offset), refl), tt))

length-bounded : (x : TemplateTimes) (o : Option Float) (knots : List Knot) → length (with_bounds x o knots) ≤ length knots + 2
length-bounded x none knots = omega arith
length-bounded x (some offset) knots = omega (arith, length-append knots (diagonal (x.end ⊕ abs offset) ∷ []))

length-clip-knots : (ts : List Float) → length (clip_knots ts) ≡ length ts
length-clip-knots [] = refl
length-clip-knots (t ∷ ts) = ap suc (length-clip-knots ts)

-- ---- the set

diagonal-fits : (knots : List Knot) → Every Diagonal knots → Every Fits (knot_times knots)
diagonal-fits knots e = every-to-map (λ (k : Knot). k.x) Fits knots (every_map Diagonal (λ (k : Knot). Fits k.x) (λ k h. h.0) knots e)

diagonal-ys : (knots : List Knot) → Every Diagonal knots → Every Stored (knot_times knots) → Every Stored (knot_values knots)
diagonal-ys [] e s = tt
diagonal-ys (k ∷ knots) e s = (subst Stored e.0.1 s.0, diagonal-ys knots e.1 s.1)

module _ (f : TemplateFields) (h : TemplateFits f) (p : TemplatePasses f) where
  ts : List Float
  ts = promoted f.times

  starts : List Start
  unfolding ts
  starts = activations (active_offset f) 0 ts

  knots : List Knot
  unfolding ts
  knots = with_bounds f.times (active_offset f) (clip_knots ts)

  on-diagonal : Every Diagonal (sort_knots knots)
  unfolding ts knots
  on-diagonal = every-sort (λ (k : Knot). total_key k.x) Diagonal knots (bounded-knots f.times (active_offset f) (clip_knots ts) (clip-knots ts))

  inside : InLimits (template_set f)
  unfolding template_set ts starts knots
  inside = in-limits (template_set f) (sorted-times Fits starts (activations-fit (active_offset f) 0 ts)) (diagonal-fits (sort_knots knots) on-diagonal) h.blocks p.inside

  pub passed-sound : Sound (template_set f)
  unfolding template_set ts starts knots
  passed-sound =
      let n = few-clips f p.not8 in
      record {
        few-clips = n;
        few-active = omega (arith, length-active starts, length-activations (active_offset f) 0 ts);
        few-knots = omega (arith, length-knots knots, length-bounded f.times (active_offset f) (clip_knots ts), length-clip-knots ts);
        few-blocks = few-blocks f p.not1;
        times = inside.times;
        strictly = strict-starts (template_set f) inside.times (sorted-active starts inside.times) p.not4;
        named = every-sort (λ (a : Start). total_key a.time) (λ (a : Start). a.clip < length ts) starts (activations-named (length ts) (active_offset f) 0 ts (omega arith));
        xs = inside.xs;
        ys = diagonal-ys (sort_knots knots) on-diagonal inside.xs;
        weakly = sorted-knots knots inside.xs;
        no-three = p.not5;
        blocks = inside.blocks;
        default = sound-default f.default p.not9 (number f p.not2) h.value;
      }

pub template-sound : (f : TemplateFields) → TemplateFits f → template_number f ≡ 0 → Sound (template_set f)
template-sound f h e = passed-sound f h (template-passes f e)
