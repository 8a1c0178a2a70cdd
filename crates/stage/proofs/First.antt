-- The first of the times above t, by its number and by `total_cmp`: they differ where it is zero, which is written -0.0 if that is among the times.
-- Assumes nothing.
use Rattle.std.specs.Prelude.{Option, None, Some}
use mathlib.Core.Path.{◌≡◌, refl, sym, ap, ◌∙◌, subst}
use mathlib.Core.Logic.{◌⊎◌, inl, inr}
use mathlib.Core.Bool.{Bool, true, false, not, cond}
use mathlib.Core.List.{List}
use Prim.Native.Nat.{◌≤◌, ◌<◌}
use native.Mathlib.Omega.{arith}
use native.Mathlib.Decide.{dec_le}
use lib.Dec.{T}
use lib.Ieee.{Float, binary64, is_nan, eq, lt, le}
use Rattle.gf.specs.Doubles.{key, 0·0, total_key}
use Rattle.gf.proofs.KeyLaws.{is_zero, eq→le, same-or-zeros, key-inj, key→lt, lt→key, key→eq, eq→key, le→key, le-no-nan, lt→le, finite-no-nan}
use Rattle.definitions.specs.Doubles.{FiniteDouble}
use Rattle.laws.specs.list.Every.{Every}
use Rattle.laws.proofs.set.Stored.{total→key}
use Rattle.laws.proofs.list.Every.{any-with, every_map, every-zip}
use Rattle.laws.specs.list.Places.{Fits}
use Rattle.laws.specs.cell.Neighbours.{IsUpper}
use Rattle.window.specs.Bounds.{In}
use Rattle.window.proofs.BoundsLaws.{in-every, every_in}
use Rattle.stage.proofs.Ordered.{NextIs}
use Rattle.stage.specs.MinusZero.{minus_zero}
use Rattle.stage.proofs.MinusZero.{minus-finite, zero-finite, minus-total, zero-total, zero-or-minus}
use Rattle.stage.specs.First.{zero_of, with_zero}

-- the first of the times above t by its number, or none is above it
abbrev pub FirstIs : List Float → Float → Option Float → Type 0
FirstIs l t (Some h) = In h l × T (lt t h) × Every (λ (x : Float). T (lt t x) → key h ≤ key x) l
FirstIs l t None = Every (λ (x : Float). T (lt t x) → ⊥) l

-- ---- some of the times stand for all

-- one of the times of g is above t, and not behind x
abbrev pub Before : List Float → Float → Float → Type 0
Before g t x = (y : Float) × In y g × T (lt t y) × (key y ≤ key x)

module _ (t : Float) (g l : List Float) (among : Every (λ (x : Float). In x l) g) (rest : Every (λ (x : Float). T (lt t x) → Before g t x) l) where
  pub first-of-all : (b : Option Float) → FirstIs g t b → FirstIs l t b
  first-of-all None n =
      every_map (λ (x : Float). T (lt t x) → Before g t x) (λ (x : Float). T (lt t x) → ⊥) (λ x r u. let y = r u in in-every (λ (z : Float). T (lt t z) → ⊥) y.0 g n y.1 y.2) l rest
  first-of-all (Some h) n = (
    in-every (λ (x : Float). In x l) h g among n.0,
    n.1,
    every_map (λ (x : Float). T (lt t x) → Before g t x) (λ (x : Float). T (lt t x) → key h ≤ key x)
        (λ x r u. let y = r u in omega (arith, y.3, in-every (λ (z : Float). T (lt t z) → key h ≤ key z) y.0 g n.2 y.1 y.2)) l rest,
  )

-- ---- finite doubles by their numbers

module _ (x y : Float) (f : FiniteDouble x) (g : FiniteDouble y) where
  same_key : T (eq x y) → key x ≡ key y
  same_key h = eq→key x y f.fitting g.fitting (finite-no-nan x f.finitely) (finite-no-nan y g.finitely) h

  one_number : key x ≡ key y → (x ≡ y) ⊎ (T (is_zero x) × T (is_zero y))
  one_number h = key-inj x y f.fitting g.fitting (finite-no-nan x f.finitely) (finite-no-nan y g.finitely) h

  -- where the order of `total_cmp` is not that of the numbers, they are one number
  behind-or-same : key x ≤ key y → (total_key x ≤ total_key y) ⊎ ((total_key y < total_key x) × (key x ≡ key y))
  behind-or-same k = elim (dec_le (total_key x) (total_key y)) [
    | yes r ↦ inl r
    | no r ↦ let j = total→key y x g.fitting f.fitting (omega arith) in inr (omega arith, omega arith)
  ]

-- the number zero
zeros : (x : Float) → FiniteDouble x → key x ≡ key 0·0 → (x ≡ 0·0) ⊎ (x ≡ minus_zero)
zeros x f k = elim (one_number x 0·0 f zero-finite k) [ inl e ↦ inl e | inr z ↦ zero-or-minus x f.fitting z.0 ]

one-zero : key minus_zero ≡ key 0·0
unfolding eq
one-zero = same_key minus_zero 0·0 minus-finite zero-finite tt

-- ---- what is written

-- the cases of the program
module _ (z : Float) (b : Option Float) (h : Float) (e : b ≡ Some h) where
  pub zero-taken : eq h 0·0 ≡ true → Some z ≡ with_zero z b
  zero-taken q = rw (e, q)

  pub other-kept : eq h 0·0 ≡ false → Some h ≡ with_zero z b
  other-kept q = rw (e, q)

module _ (t : Float) (ft : Fits t) (l : List Float) (F : Every FiniteDouble l) where
  above : (x : Float) → FiniteDouble x → T (lt t x) → key t < key x
  above x f u = lt→key t x ft f.fitting (le-no-nan t x (lt→le t x u)).0 (finite-no-nan x f.finitely) u

  -- the least above t is equal to the first of the times
  pub upper_first : (h : Float) → IsUpper l t h → (x : Float) × T (eq x h) × FirstIs l t (Some x)
  upper_first h U =
      let n = le-no-nan t h (lt→le t h U.above) in
      let w = any-with (λ (x : Float). eq x h) (λ (x : Float). FiniteDouble x × In x l) l U.listed (every-zip FiniteDouble (λ (x : Float). In x l) (λ (x : Float). FiniteDouble x × In x l) (λ x f i. (f, i)) l F (every_in l)) in
      let f = w.2.0 in
      let m = finite-no-nan w.0 f.finitely in
      let e = eq→key w.0 h f.fitting U.fits m n.1 w.1 in
      let a = lt→key t h ft U.fits n.0 n.1 U.above in (
        w.0,
        w.1,
        (
          w.2.1,
          key→lt t w.0 ft f.fitting n.0 m (omega arith),
          every-zip FiniteDouble (λ (x : Float). T (lt t x) → T (le h x)) (λ (x : Float). T (lt t x) → key w.0 ≤ key x)
              (λ x g q u. let v = le-no-nan h x (q u) in let k = le→key h x U.fits g.fitting v.0 v.1 (q u) in omega arith) l F U.first,
        ),
      )

  -- the first by `total_cmp`, if `minus` says whether -0.0 is among the times
  module _ (minus : Bool) (listed : T minus → In minus_zero l) (found : Every (λ (x : Float). x ≡ minus_zero → T minus) l) (x : Float) (n : FirstIs l t (Some x)) where
    fx : FiniteDouble x
    fx = in-every FiniteDouble x l F n.0

    -- not zero
    apart : (key x ≡ key 0·0 → ⊥) → NextIs l t (Some x)
    apart o = (
      n.0,
      n.1,
      every-zip FiniteDouble (λ (y : Float). T (lt t y) → key x ≤ key y) (λ (y : Float). T (lt t y) → total_key x ≤ total_key y)
          (λ y g q u. elim (behind-or-same x y fx g (q u)) [
            | inl r ↦ r
            | inr r ↦ elim (one_number x y fx g r.1) [
              | inl e ↦ let k = ap total_key e in absurd (omega (arith, r.0))
              | inr z ↦ absurd (o (elim (zero-or-minus x fx.fitting z.0) [ inl e ↦ ap key e | inr e ↦ ap key e ∙ one-zero ]))
            ]
          ]) l F n.2,
    )

    -- zero
    module _ (k : key x ≡ key 0·0) where
      module _ (z : Float) (fz : FiniteDouble z) (kz : key z ≡ key 0·0) (inside : In z l) (least : (y : Float) → In y l → (y ≡ 0·0) ⊎ (y ≡ minus_zero) → total_key z ≤ total_key y) where
        settled : NextIs l t (Some z)
        settled =
            let a = above x fx n.1 in (
              inside,
              key→lt t z ft fz.fitting (le-no-nan t x (lt→le t x n.1)).0 (finite-no-nan z fz.finitely) (omega arith),
              every-zip (λ (y : Float). FiniteDouble y × In y l) (λ (y : Float). T (lt t y) → key x ≤ key y) (λ (y : Float). T (lt t y) → total_key z ≤ total_key y)
                  (λ y g q u. let c = q u in elim (behind-or-same z y fz g.0 (omega arith)) [
                    | inl r ↦ r
                    | inr r ↦ least y g.1 (zeros y g.0 (sym r.1 ∙ kz))
                  ]) l (every-zip FiniteDouble (λ (y : Float). In y l) (λ (y : Float). FiniteDouble y × In y l) (λ y f i. (f, i)) l F (every_in l)) n.2,
            )

      zero-next : (b : Bool) → minus ≡ b → NextIs l t (Some (zero_of b))
      zero-next true e = settled minus_zero minus-finite one-zero (listed (subst T (sym e) tt)) (λ y i z. elim z [
        | inl q ↦ let r = ap total_key q in omega (arith, minus-total, zero-total)
        | inr q ↦ let r = ap total_key q in omega arith
      ])
      zero-next false e = settled 0·0 zero-finite refl here (λ y i z. elim z [
        | inl q ↦ let r = ap total_key q in omega arith
        | inr q ↦ absurd (never y i q)
      ])
        where
          never : (y : Float) → In y l → y ≡ minus_zero → ⊥
          never y i q = subst T e (in-every (λ (v : Float). v ≡ minus_zero → T minus) y l found i q)

          here : In 0·0 l
          here = elim (zeros x fx k) [ inl q ↦ subst (λ (v : Float). In v l) q n.0 | inr q ↦ absurd (never x n.0 q) ]

    pub first_next : (h : Float) → Fits h → T (eq x h) → NextIs l t (with_zero (zero_of minus) (Some h))
    first_next h fh e = go (eq h 0·0) refl
      where
        nx : T (not (is_nan x))
        nx = finite-no-nan x fx.finitely

        nh : T (not (is_nan h))
        nh = (le-no-nan x h (eq→le x h e)).1

        kh : key x ≡ key h
        kh = eq→key x h fx.fitting fh nx nh e

        go : (b : Bool) → eq h 0·0 ≡ b → NextIs l t (cond b (Some (zero_of minus)) (Some h))
        go true q = zero-next (kh ∙ eq→key h 0·0 fh zero-finite.fitting nh (finite-no-nan 0·0 tt) (subst T (sym q) tt)) minus refl
        go false q = subst (λ (v : Float). NextIs l t (Some v)) same (apart other)
          where
            other : key x ≡ key 0·0 → ⊥
            other k = subst T q (key→eq h 0·0 fh zero-finite.fitting nh (finite-no-nan 0·0 tt) (sym kh ∙ k))

            same : x ≡ h
            same = elim (same-or-zeros binary64 x h fx.fitting fh e) [
              | inl r ↦ r
              | inr z ↦ absurd (other (elim (zero-or-minus x fx.fitting z.0) [ inl r ↦ ap key r | inr r ↦ ap key r ∙ one-zero ]))
            ]
