-- The times t of a template's clips, written one by one up to the 257th. Assumes nothing.
use Prim.Native.Nat.{ℕ, suc, ◌+◌, ◌-◌, ◌≤◌, ◌<◌}
use mathlib.Core.Path.{◌≡◌, refl, sym, ap, ap₂, ◌∙◌}
use mathlib.Core.Bool.{true, false}
use mathlib.Core.List.{List, [], ◌∷◌, ◌++◌, append-nil, append_assoc}
use native.Mathlib.Numerals.{add-one}
use native.Mathlib.Omega.{arith}
use lib.ListN.{length, take, set, length-set, length-append}
use lib.Seq.{take-suc-set, length-take-le}
use lib.Ieee.{Float, le}
use Rattle.gf.specs.Doubles.{◌⊕◌, ◌⊗◌, 0·5, 10000·0}
use Rattle.definitions.specs.declared.TemplateTimes.{TemplateTimes}
use Rattle.definitions.specs.ClipSet.{max_clips}
use Rattle.definitions.specs.Template.{repeated, promoted}
use Rattle.std.specs.Prelude.{Ok, Err}
use Rattle.definitions.specs.declared.refusal.Refusal.TheVariants.{TooManyClips}
use Rattle.template.specs.Expanding.{Promotes}

module _ (t s b : Float) where
  one_more : (n : ℕ) → le t b ≡ true → repeated (suc n) t s b ≡ t ∷ repeated n (t ⊕ s) s b
  unfolding repeated
  one_more n e = rw e

  no_more : (n : ℕ) → le t b ≡ false → repeated (suc n) t s b ≡ []
  unfolding repeated
  no_more n e = rw e

single : (t s b : Float) → le t b ≡ true → repeated 1 t s b ≡ t ∷ []
unfolding repeated
single t s b e = rw e

-- what the loop keeps: the first i are written, and the rest begins with t
pub record Promoting (t₀ s b : Float) (items : List Float) (t : Float) (i : ℕ) : Type 0 where
  pub within : i ≤ max_clips
  pub long : length items ≡ max_clips
  pub whole : repeated 257 t₀ s b ≡ take i items ++ repeated (257 - i) t s b

module _ (t₀ s b : Float) where
  pub promote-start : (items : List Float) → length items ≡ max_clips → Promoting t₀ s b items t₀ 0
  promote-start items e = record { within = omega arith; long = e; whole = refl }

  module _ (items : List Float) (t : Float) (i : ℕ) (p : Promoting t₀ s b items t i) where
    front : length (take i items) ≡ i
    front = length-take-le i items (omega (arith, p.long, p.within))

    left : 257 - i ≡ suc (256 - i)
    left = omega (arith, p.within)

    pub promote-next : i < max_clips → le t b ≡ true → Promoting t₀ s b (set items i t) (t ⊕ s) (i + 1)
    promote-next h e = record {
      within = omega arith;
      long = length-set items i t ∙ p.long;
      whole =
          p.whole ∙ ap (λ (n : ℕ). take i items ++ repeated n t s b) left ∙ ap (λ (l : List Float). take i items ++ l) (one_more t s b (256 - i) e)
          ∙ sym (append_assoc (take i items) (t ∷ []) (repeated (256 - i) (t ⊕ s) s b))
          ∙ ap₂ (λ (l : List Float) (n : ℕ). l ++ repeated n (t ⊕ s) s b) (sym written) rest;
    }
      where
        written : take (i + 1) (set items i t) ≡ take i items ++ (t ∷ [])
        written = rw add-one (take-suc-set items i t (omega (arith, p.long)))

        rest : 256 - i ≡ 257 - (i + 1)
        rest = omega arith

    pub promote-ends : le t b ≡ false → take i items ≡ repeated 257 t₀ s b
    promote-ends e =
        sym (p.whole ∙ ap (λ (n : ℕ). take i items ++ repeated n t s b) left ∙ ap (λ (l : List Float). take i items ++ l) (no_more t s b (256 - i) e) ∙ append-nil (take i items))

    pub promote-length : le t b ≡ false → i ≡ length (repeated 257 t₀ s b)
    promote-length e = sym front ∙ ap length (promote-ends e)

    -- a 257th
    pub promote-more : i ≡ max_clips → le t b ≡ true → 257 ≡ length (repeated 257 t₀ s b)
    promote-more n e =
        let m : 257 - i ≡ 1 = omega arith in
        let one : length (repeated (257 - i) t s b) ≡ 1 = ap (λ (n : ℕ). length (repeated n t s b)) m ∙ ap length (single t s b e) in
        sym (ap length p.whole ∙ length-append (take i items) (repeated (257 - i) t s b) ∙ omega (arith, front, one))

-- ---- the same of the template's numbers

abbrev all : TemplateTimes → List Float
all x = repeated 257 (x.start ⊗ 10000·0) (x.stride ⊗ 10000·0) (x.end ⊗ 10000·0 ⊕ 0·5)

pub promotes : (x : TemplateTimes) (items : List Float) (n : ℕ) → length items ≡ max_clips → n ≤ max_clips → n ≡ length (all x) → take n items ≡ all x → Promotes x (Ok (record { items = items; count = n }))
unfolding promoted
promotes x items n e f c l = record { long = e; few = f; count = c; list = l }

pub promotes-none : (x : TemplateTimes) → 257 ≡ length (all x) → Promotes x (Err TooManyClips)
unfolding promoted
promotes-none x c = (omega (arith, c), refl)
