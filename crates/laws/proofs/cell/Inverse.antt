-- The inverse time of a sample in a segment: it is finite, at or above the segment's lower x, and it keeps or turns the samples' order as the segment
-- rises or falls. So in one segment the samples whose inverse time is above t are those from one place on, or up to one. Assumes nothing.
use mathlib.Core.Path.{◌≡◌, refl, sym, ap, ap₂, ◌∙◌, subst}
use mathlib.Core.Logic.{inl, inr}
use mathlib.Core.Bool.{Bool, true, false, not, ◌&&◌}
use Prim.Native.Nat.{ℕ, zero, suc, ◌+◌, ◌*◌, ◌≤◌}
use native.Mathlib.Nat.{mul-pos, mul_comm, add_comm, le_of_eq}
use lib.Dec.{T}
use lib.Ieee.{Float, nan, inf, fin, binary64, up, down, round, add, sub, mul, div, neg, unlike, fits, le, lt}
use lib.Ieee.Fits.{sub-fits}
use lib.Ieee.Scale.{finite}
use lib.Ieee.Positive.{den, den_pos, positive, positive-finite, above, above_of_le}
use Rattle.gf.proofs.Fraction.{over, under, Rounds, Part, rounds-mono, round-neg, neg-finite, neg-le}
use Rattle.gf.proofs.KeyLaws.{between, le_trans}
use Rattle.gf.proofs.Ops.{nought, sub-over, sub-under, sub-rounds, sub-mono, add-mono-right, mul_mono, div_mono}
use Rattle.gf.proofs.Exactly.{one, nought-fits, sub-nonneg, sub-nonpos, sub-positive, div-nonneg, div-le-one, mul-nonneg, mul-le-self, add-ge-self, within-finite, within_more, add-within, sub_within}
use Rattle.gf.specs.Doubles.{within, power}
use Rattle.definitions.specs.declared.Knot.{Knot}
use Rattle.definitions.specs.Value.{spans, inverse}
use Rattle.laws.proofs.list.Tests.{both_l, both_r, or_split}
use Rattle.laws.specs.list.Places.{Fits}
use Rattle.laws.specs.cell.Knots.{SoundKnot}

-- ---- signs

unlike-swap : (s t : Bool) → unlike s t ≡ unlike t s
unlike-swap true true = refl
unlike-swap true false = refl
unlike-swap false true = refl
unlike-swap false false = refl

unlike-not : (s t : Bool) → unlike (not s) (not t) ≡ unlike s t
unlike-not true true = refl
unlike-not true false = refl
unlike-not false true = refl
unlike-not false false = refl

mul-swap : (x y : Float) → T (finite x) → T (finite y) → mul binary64 x y ≡ mul binary64 y x
unfolding mul
mul-swap nan y p q = absurd p
mul-swap (inf s) y p q = absurd p
mul-swap (fin s m e) nan p q = absurd q
mul-swap (fin s m e) (inf t) p q = absurd q
mul-swap (fin s m e) (fin t n d) p q =
    ap₂ (λ (a : ℕ) (c : ℕ). round binary64 (unlike s t) a c) (mul_comm (m * up e) (n * up d)) (mul_comm (down e) (down d))
    ∙ ap (λ (b : Bool). round binary64 b (n * up d * (m * up e)) (down d * down e)) (unlike-swap s t)

-- both signs turned, the quotient is the same
div-neg : (x y : Float) → div binary64 (neg x) (neg y) ≡ div binary64 x y
unfolding div neg
div-neg nan y = refl
div-neg (inf s) nan = refl
div-neg (inf s) (inf t) = refl
div-neg (inf s) (fin t n d) = ap inf (unlike-not s t)
div-neg (fin s m e) nan = refl
div-neg (fin s m e) (inf t) = rw (unlike-not s t)
div-neg (fin s m e) (fin t n d) = rw (unlike-not s t)

neg-neg : (x : Float) → neg (neg x) ≡ x
unfolding neg
neg-neg nan = refl
neg-neg (inf true) = refl
neg-neg (inf false) = refl
neg-neg (fin true m e) = refl
neg-neg (fin false m e) = refl

neg-fits : (x : Float) → Fits x → Fits (neg x)
unfolding neg fits
neg-fits nan h = h
neg-fits (inf s) h = h
neg-fits (fin s zero e) h = h
neg-fits (fin s (suc m) e) h = h

rounds-neg : (z : Float) (P N c : ℕ) → Rounds binary64 z P N c → Rounds binary64 (neg z) N P c
rounds-neg z P N c r = turn r.sign r.mag r.is r.part
  where
    turn : (s : Bool) (a : ℕ) → z ≡ round binary64 s a c → Part s a P N → Rounds binary64 (neg z) N P c
    turn false a e p = record { sign = true; mag = a; is = ap neg e ∙ sym (round-neg binary64 a c); part = p }
    turn true a e p = record { sign = false; mag = a; is = ap neg (e ∙ round-neg binary64 a c) ∙ neg-neg (round binary64 false a c); part = p }

finite-above : (z : Float) → T (finite z) → T (above z) → T (positive z)
finite-above nan p h = absurd p
finite-above (inf s) p h = absurd p
finite-above (fin true m e) p h = h
finite-above (fin false m e) p h = h

zero-below : T (le nought (neg nought))
unfolding le neg
zero-below = tt

-- what is at most zero, turned
turned_up : (z : Float) → Fits z → T (le z nought) → T (le nought (neg z))
turned_up z f h = le_trans nought (neg nought) (neg z) (nought-fits binary64) (neg-fits nought (nought-fits binary64)) (neg-fits z f) zero-below (neg-le z nought h)

-- the difference of a greater number from a smaller, turned, is above zero
difference-turned : (x y : Float) → Fits x → Fits y → T (finite x) → T (finite y) → T (lt x y) → T (finite (sub binary64 x y)) → T (finite (sub binary64 y x)) → T (positive (neg (sub binary64 x y)))
difference-turned x y fx fy p q h g k =
    finite-above (neg (sub binary64 x y)) (neg-finite (sub binary64 x y) g)
    (above_of_le (sub binary64 y x) (neg (sub binary64 x y)) (sub-positive binary64 x y fx fy p q h k)
    (rounds-mono binary64 (sub binary64 y x) (neg (sub binary64 x y)) (sub-over y x) (sub-under y x) (den y * den x) (sub-under x y) (sub-over x y) (den x * den y)
    (mul-pos (den_pos y) (den_pos x)) (mul-pos (den_pos x) (den_pos y)) (sub-rounds binary64 y x q p) (rounds-neg (sub binary64 x y) (sub-over x y) (sub-under x y) (den x * den y) (sub-rounds binary64 x y p q))
    (same (over x * den y) (under x * den y) (over y * den x) (under y * den x) (den x) (den y))))
  where
    same : (a b c d e f : ℕ) → (c + b) * (e * f) + (a + d) * (f * e) ≤ (b + c) * (f * e) + (d + a) * (e * f)
    same a b c d e f = rw (mul_comm f e, add_comm c b, add_comm a d) (le_of_eq refl)

-- ---- a share of a segment's width

pub record Share (q : Float) : Type 0 where
  pub fin : T (finite q)
  pub low : T (le nought q)
  pub high : T (le q one)

power-fits : (s : Bool) → T (fits binary64 (power s 41)) × T (fits binary64 (power s 42))
unfolding fits
power-fits s = (tt, tt)

module _ (a b : Knot) (A : SoundKnot a) (B : SoundKnot b) (wide : T (le a.x b.x)) where
  abbrev width : Float
  width = sub binary64 b.x a.x

  ax-fin : T (finite a.x)
  ax-fin = within-finite 40 a.x A.bx

  bx-fin : T (finite b.x)
  bx-fin = within-finite 40 b.x B.bx

  ay-fin : T (finite a.y)
  ay-fin = within-finite 40 a.y A.by

  by-fin : T (finite b.y)
  by-fin = within-finite 40 b.y B.by

  width-within : T (within 41 width)
  width-within = sub_within binary64 40 (λ s. (power-fits s).0) b.x a.x B.bx A.bx

  width-fin : T (finite width)
  width-fin = within-finite 41 width width-within

  width-up : T (le nought width)
  width-up = sub-nonneg binary64 a.x b.x ax-fin bx-fin wide

  part-swap : (q : Float) → Share q → mul binary64 q width ≡ mul binary64 width q
  part-swap q s = mul-swap q width s.fin width-fin

  part_low : (q : Float) → Share q → T (le nought (mul binary64 q width))
  part_low q s = rw (part-swap q s) (mul-nonneg binary64 width q (sub-fits binary64 b.x a.x) width-fin s.fin s.low width-up)

  part-high : (q : Float) → Share q → T (le (mul binary64 q width) width)
  part-high q s = rw (part-swap q s) (mul-le-self binary64 width q (sub-fits binary64 b.x a.x) width-fin s.fin s.low s.high width-up)

  part-fin : (q : Float) → Share q → T (finite (mul binary64 q width))
  part-fin q s = between nought (mul binary64 q width) width tt width-fin (part_low q s) (part-high q s)

  abbrev shifted : Float → Float
  shifted q = add binary64 a.x (mul binary64 q width)

  shifted-low : (q : Float) → Share q → T (le a.x (shifted q))
  shifted-low q s = add-ge-self binary64 a.x (mul binary64 q width) A.fx ax-fin (part-fin q s) (part_low q s)

  shifted-fin : (q : Float) → Share q → T (finite (shifted q))
  shifted-fin q s =
      between a.x (shifted q) (add binary64 a.x width) ax-fin
      (within-finite 42 (add binary64 a.x width) (add-within binary64 41 (λ r. (power-fits r).1) a.x width (within_more binary64 40 (λ r. (power-fits r).0) a.x A.fx A.bx) width-within))
      (shifted-low q s) (add-mono-right binary64 (mul binary64 q width) width a.x (part-fin q s) width-fin (part-high q s) ax-fin)

  shifted-mono : (q r : Float) → Share q → Share r → T (le q r) → T (le (shifted q) (shifted r))
  shifted-mono q r s t h =
      add-mono-right binary64 (mul binary64 q width) (mul binary64 r width) a.x (part-fin q s) (part-fin r t) (mul_mono binary64 q r width s.fin t.fin h width-fin width-up) ax-fin

  -- the quotient of a clip time c
  abbrev share : Float → Float
  share c = div binary64 (sub binary64 c a.y) (sub binary64 b.y a.y)

  rise-fin : T (finite (sub binary64 b.y a.y))
  rise-fin = within-finite 41 (sub binary64 b.y a.y) (sub_within binary64 40 (λ s. (power-fits s).0) b.y a.y B.by A.by)

  fall-fin : T (finite (sub binary64 a.y b.y))
  fall-fin = within-finite 41 (sub binary64 a.y b.y) (sub_within binary64 40 (λ s. (power-fits s).0) a.y b.y A.by B.by)

  share-of : (n d : Float) → T (finite n) → T (positive d) → T (le nought n) → T (le n d) → Share (div binary64 n d)
  share-of n d p q l h =
      let lo = div-nonneg binary64 n d p q l in
      let hi = div-le-one binary64 n d p q (positive-finite d q) h in
      record { fin = between nought (div binary64 n d) one tt tt lo hi; low = lo; high = hi }

  -- ---- a segment that rises

  module _ (up : T (lt a.y b.y)) where
    rise-pos : T (positive (sub binary64 b.y a.y))
    rise-pos = sub-positive binary64 a.y b.y A.fy B.fy ay-fin by-fin up rise-fin

    module _ (c : Float) (lo : T (le a.y c)) (hi : T (le c b.y)) where
      c-fin : T (finite c)
      c-fin = between a.y c b.y ay-fin by-fin lo hi

      step-low : T (le nought (sub binary64 c a.y))
      step-low = sub-nonneg binary64 a.y c ay-fin c-fin lo

      step-high : T (le (sub binary64 c a.y) (sub binary64 b.y a.y))
      step-high = sub-mono binary64 c b.y a.y c-fin by-fin hi ay-fin

      step-fin : T (finite (sub binary64 c a.y))
      step-fin = between nought (sub binary64 c a.y) (sub binary64 b.y a.y) tt rise-fin step-low step-high

      share_up : Share (share c)
      share_up = share-of (sub binary64 c a.y) (sub binary64 b.y a.y) step-fin rise-pos step-low step-high

      pub inverse-fin-up : T (finite (inverse a b c)) × T (le a.x (inverse a b c))
      inverse-fin-up = (shifted-fin (share c) share_up, shifted-low (share c) share_up)

    -- a later sample has a later inverse time, or the same
    pub inverse-up : (c d : Float) → T (le a.y c) → T (le c b.y) → T (le a.y d) → T (le d b.y) → T (le c d) → T (le (inverse a b c) (inverse a b d))
    inverse-up c d p q r s h =
        shifted-mono (share c) (share d) (share_up c p q) (share_up d r s)
        (div_mono binary64 (sub binary64 c a.y) (sub binary64 d a.y) (sub binary64 b.y a.y) (step-fin c p q) (step-fin d r s) (sub-mono binary64 c d a.y (c-fin c p q) (c-fin d r s) h ay-fin) rise-pos)

  -- ---- a segment that falls

  module _ (dn : T (lt b.y a.y)) where
    abbrev fall : Float
    fall = neg (sub binary64 b.y a.y)

    fall-pos : T (positive fall)
    fall-pos = difference-turned b.y a.y B.fy A.fy by-fin ay-fin dn rise-fin fall-fin

    module _ (c : Float) (lo : T (le b.y c)) (hi : T (le c a.y)) where
      c-fin-down : T (finite c)
      c-fin-down = between b.y c a.y by-fin ay-fin lo hi

      abbrev drop : Float
      drop = neg (sub binary64 c a.y)

      below : T (le (sub binary64 c a.y) nought)
      below = sub-nonpos binary64 a.y c ay-fin c-fin-down hi

      from : T (le (sub binary64 b.y a.y) (sub binary64 c a.y))
      from = sub-mono binary64 b.y c a.y by-fin c-fin-down lo ay-fin

      drop-fin : T (finite drop)
      drop-fin = neg-finite (sub binary64 c a.y) (between (sub binary64 b.y a.y) (sub binary64 c a.y) nought rise-fin tt from below)

      share-down : Share (share c)
      share-down =
          subst Share (div-neg (sub binary64 c a.y) (sub binary64 b.y a.y))
          (share-of drop fall drop-fin fall-pos (turned_up (sub binary64 c a.y) (sub-fits binary64 c a.y) below) (neg-le (sub binary64 b.y a.y) (sub binary64 c a.y) from))

      pub inverse-fin-down : T (finite (inverse a b c)) × T (le a.x (inverse a b c))
      inverse-fin-down = (shifted-fin (share c) share-down, shifted-low (share c) share-down)

    -- a later sample has an earlier inverse time, or the same
    pub inverse-down : (c d : Float) → T (le b.y c) → T (le c a.y) → T (le b.y d) → T (le d a.y) → T (le c d) → T (le (inverse a b d) (inverse a b c))
    inverse-down c d p q r s h =
        shifted-mono (share d) (share c) (share-down d r s) (share-down c p q)
        (rw (sym (div-neg (sub binary64 d a.y) (sub binary64 b.y a.y)), sym (div-neg (sub binary64 c a.y) (sub binary64 b.y a.y)))
        (div_mono binary64 (drop d r s) (drop c p q) fall (drop-fin d r s) (drop-fin c p q) (neg-le (sub binary64 c a.y) (sub binary64 d a.y) (sub-mono binary64 c d a.y (c-fin-down c p q) (c-fin-down d r s) h ay-fin)) fall-pos))

-- ---- a segment that spans the sample, whichever way it goes

pub inverse-spanned : (a b : Knot) → SoundKnot a → SoundKnot b → T (le a.x b.x) → (c : Float) → T (spans a.y b.y c) → T (finite (inverse a b c)) × T (le a.x (inverse a b c))
inverse-spanned a b A B wide c h = elim (or_split (up && from && to) (down && under && over) h) [
  | inl u ↦ inverse-fin-up a b A B wide (both_l up from (both_l (up && from) to u)) c (both_r up from (both_l (up && from) to u)) (both_r (up && from) to u)
  | inr u ↦ inverse-fin-down a b A B wide (both_l down under (both_l (down && under) over u)) c (both_r down under (both_l (down && under) over u)) (both_r (down && under) over u)
]
  where
    up : Bool
    up = lt a.y b.y

    from : Bool
    from = le a.y c

    to : Bool
    to = le c b.y

    down : Bool
    down = lt b.y a.y

    under : Bool
    under = le b.y c

    over : Bool
    over = le c a.y
