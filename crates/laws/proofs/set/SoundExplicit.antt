-- An explicit acceptance gives a sound set. Assumes nothing.
use mathlib.Core.Path.{◌≡◌}
use Prim.Native.Nat.{ℕ, ◌≤◌, ◌<◌}
use native.Mathlib.Omega.{arith}
use mathlib.Core.Bool.{false, not, ◌&&◌}
use mathlib.Core.List.{List}
use lib.Dec.{T, ltb, eqb, lit<, eqb→eq, ltb→lt}
use lib.ListN.{length}
use lib.Ieee.{Float, le}
use lib.Ieee.Fits.{and_r}
use borrow.Author.Tests.{ltb-false}
use Rattle.definitions.specs.declared.Knot.{Knot}
use Rattle.definitions.specs.Lists.{zip_with}
use Rattle.gf.specs.Doubles.{total_key, 0·0, is_whole, truncated, is_clip_number}
use Rattle.definitions.specs.declared.Start.{Start}
use Rattle.definitions.specs.ClipSet.{max_clips, max_active, max_knots, max_blocks, active_times, knot_times, sort_active, sort_knots, any_unstorable, nan_default, equal_starts, equal_knots, bad_default_mark}
use Rattle.definitions.specs.Explicit.{ExplicitFields, activation, knot, explicit_set, explicit1, explicit2, explicit3, explicit_number}
use Rattle.laws.proofs.list.Tests.{or-false, not-false, passed}
use Rattle.laws.specs.list.Every.{Every}
use Rattle.laws.proofs.list.Every.{every_map, any-not-every, every-to-map, length-zip, every-zip-left, every-zip-right}
use Rattle.laws.specs.list.Places.{Fits}
use Rattle.laws.proofs.list.Sorting.{every-sort}
use Rattle.laws.specs.set.Stored.{Stored}
use Rattle.laws.proofs.set.Stored.{all-stored}
use Rattle.laws.specs.set.Sound.{Sound, knot_values}
use Rattle.laws.proofs.set.Sound.{sorted-times, sorted-active, sorted-xs, sorted-knots, sorted-ys, length-active, length-knots, strict-starts, sound-default}

-- what Rattle gives of f64 parameters
pub record ExplicitFits (f : ExplicitFields) : Type 0 where
  pub start_times : Every Fits f.start_times
  pub knot_x : Every Fits f.knot_x
  pub knot_y : Every Fits f.knot_y
  pub blocks : Every Fits f.blocks
  pub value : Fits f.default.value

-- the tests that failed
pub record ExplicitPasses (f : ExplicitFields) : Type 0 where
  pub not1 : explicit1 f ≡ false
  pub not2 : explicit2 f ≡ false
  pub not3 : explicit3 f ≡ false
  pub not4 : equal_starts (explicit_set f) ≡ false
  pub not5 : equal_knots (explicit_set f) ≡ false
  pub not9 : bad_default_mark f.default ≡ false

pub explicit-passes : (f : ExplicitFields) → explicit_number f ≡ 0 → ExplicitPasses f
unfolding explicit_number
explicit-passes f e =
    let p1 = passed 1 (explicit1 f) _ (lit< tt) e in
    let p2 = passed 2 (explicit2 f) _ (lit< tt) p1.1 in
    let p3 = passed 3 (explicit3 f) _ (lit< tt) p2.1 in
    let p4 = passed 4 (equal_starts (explicit_set f)) _ (lit< tt) p3.1 in
    let p5 = passed 5 (equal_knots (explicit_set f)) _ (lit< tt) p4.1 in
    let p9 = passed 9 (bad_default_mark f.default) _ (lit< tt) p5.1 in
    record { not1 = p1.0; not2 = p2.0; not3 = p3.0; not4 = p4.0; not5 = p5.0; not9 = p9.0 }

-- ---- what the tests say

pub record ExplicitLimits (f : ExplicitFields) : Type 0 where
  pub clips : f.clips ≤ max_clips
  pub starts : length f.start_times ≤ max_active
  pub knots : length f.knot_x ≤ max_knots
  pub blocks : length f.blocks ≤ max_blocks
  pub starts-paired : length f.start_times ≡ length f.start_clips
  pub knots-paired : length f.knot_x ≡ length f.knot_y

pub explicit-limits : (f : ExplicitFields) → explicit1 f ≡ false → ExplicitLimits f
unfolding explicit1
explicit-limits f e =
    let h = or-false _ (not (eqb (length f.knot_x) (length f.knot_y))) e in
    let g = or-false _ (not (eqb (length f.start_times) (length f.start_clips))) h.0 in
    let b = or-false _ (ltb max_blocks (length f.blocks)) g.0 in
    let y = or-false _ (ltb max_knots (length f.knot_y)) b.0 in
    let x = or-false _ (ltb max_knots (length f.knot_x)) y.0 in
    let c = or-false _ (ltb max_active (length f.start_clips)) x.0 in
    let t = or-false (ltb max_clips f.clips) (ltb max_active (length f.start_times)) c.0 in
    record {
      clips = ltb-false max_clips f.clips t.0;
      starts = ltb-false max_active (length f.start_times) t.1;
      knots = ltb-false max_knots (length f.knot_x) x.1;
      blocks = ltb-false max_blocks (length f.blocks) b.1;
      starts-paired = eqb→eq (length f.start_times) (length f.start_clips) (not-false (eqb (length f.start_times) (length f.start_clips)) g.1);
      knots-paired = eqb→eq (length f.knot_x) (length f.knot_y) (not-false (eqb (length f.knot_x) (length f.knot_y)) h.1);
    }

pub record ExplicitStored (f : ExplicitFields) : Type 0 where
  pub start_times : Every Stored f.start_times
  pub knot_x : Every Stored f.knot_x
  pub knot_y : Every Stored f.knot_y
  pub blocks : Every Stored f.blocks
  pub number : nan_default f.default ≡ false

pub explicit-stored : (f : ExplicitFields) → ExplicitFits f → explicit2 f ≡ false → ExplicitStored f
unfolding explicit2
explicit-stored f h e =
    let d = or-false _ (nan_default f.default) e in
    let b = or-false _ (any_unstorable f.blocks) d.0 in
    let y = or-false _ (any_unstorable f.knot_y) b.0 in
    let x = or-false (any_unstorable f.start_times) (any_unstorable f.knot_x) y.0 in
    record {
      start_times = all-stored f.start_times h.start_times x.0;
      knot_x = all-stored f.knot_x h.knot_x x.1;
      knot_y = all-stored f.knot_y h.knot_y y.1;
      blocks = all-stored f.blocks h.blocks b.1;
      number = d.1;
    }

clip-number : (clips : ℕ) (c : Float) → T (is_clip_number clips c) → truncated c < clips
unfolding is_clip_number
clip-number clips c h = ltb→lt (truncated c) clips (and_r (is_whole c && le 0·0 c) (ltb (truncated c) clips) h)

pub explicit-named : (f : ExplicitFields) → explicit3 f ≡ false → Every (λ (c : Float). truncated c < f.clips) f.start_clips
unfolding explicit3
explicit-named f e =
    every_map (λ (c : Float). T (is_clip_number f.clips c)) (λ (c : Float). truncated c < f.clips) (clip-number f.clips) f.start_clips
    (any-not-every (is_clip_number f.clips) f.start_clips e)

-- ---- the set

abbrev starts : ExplicitFields → List Start
starts f = zip_with activation f.start_times f.start_clips

abbrev knots : ExplicitFields → List Knot
knots f = zip_with knot f.knot_x f.knot_y

module _ (f : ExplicitFields) (h : ExplicitFits f) (p : ExplicitPasses f) where
  limits : ExplicitLimits f
  limits = explicit-limits f p.not1

  stored : ExplicitStored f
  stored = explicit-stored f h p.not2

  times : Every Stored (active_times (starts f))
  times = every-to-map (λ (a : Start). a.time) Stored (starts f) (every-zip-left activation Stored (λ (a : Start). Stored a.time) (λ t c s. s) f.start_times f.start_clips stored.start_times)

  xs : Every Stored (knot_times (knots f))
  xs = every-to-map (λ (k : Knot). k.x) Stored (knots f) (every-zip-left knot Stored (λ (k : Knot). Stored k.x) (λ x y s. s) f.knot_x f.knot_y stored.knot_x)

  ys : Every Stored (knot_values (knots f))
  ys = every-to-map (λ (k : Knot). k.y) Stored (knots f) (every-zip-right knot Stored (λ (k : Knot). Stored k.y) (λ x y s. s) f.knot_x f.knot_y stored.knot_y)

  named : Every (λ (a : Start). a.clip < f.clips) (starts f)
  named = every-zip-right activation (λ (c : Float). truncated c < f.clips) (λ (a : Start). a.clip < f.clips) (λ t c l. l) f.start_times f.start_clips (explicit-named f p.not3)

  stored-times : Every Stored (active_times (sort_active (starts f)))
  stored-times = sorted-times Stored (starts f) times

  stored-xs : Every Stored (knot_times (sort_knots (knots f)))
  stored-xs = sorted-xs Stored (knots f) xs

  pub passed-sound : Sound (explicit_set f)
  unfolding explicit_set
  passed-sound = record {
    few-clips = limits.clips;
    few-active = omega (arith, length-active (starts f), length-zip activation f.start_times f.start_clips, limits.starts);
    few-knots = omega (arith, length-knots (knots f), length-zip knot f.knot_x f.knot_y, limits.knots);
    few-blocks = limits.blocks;
    times = stored-times;
    strictly = strict-starts (explicit_set f) stored-times (sorted-active (starts f) stored-times) p.not4;
    named = every-sort (λ (a : Start). total_key a.time) (λ (a : Start). a.clip < f.clips) (starts f) named;
    xs = stored-xs;
    ys = sorted-ys Stored (knots f) ys;
    weakly = sorted-knots (knots f) stored-xs;
    no-three = p.not5;
    blocks = stored.blocks;
    default = sound-default f.default p.not9 stored.number h.value;
  }

pub explicit-sound : (f : ExplicitFields) → ExplicitFits f → explicit_number f ≡ 0 → Sound (explicit_set f)
explicit-sound f h e = passed-sound f h (explicit-passes f e)
