-- Linear interpolation in a segment, each operation rounded: it keeps or turns the order as the segment rises or falls, and starts at the first value. Assumes nothing.
use Rattle.std.proofs.Common.{◌≡◌, Bool, T, refl}
use lib.Ieee.{Float, binary64, add, sub, mul, fits, lt, le, eq}
use lib.Ieee.Fits.{add-fits, sub-fits}
use lib.Ieee.Scale.{finite}
use lib.Ieee.Positive.{positive}
use Rattle.gf.proofs.KeyLaws.{finite-no-nan, lt→le, le_refl, le-both, between}
use Rattle.gf.proofs.Ops.{nought, add-mono-right, sub-mono, mul-mono-right, mul-anti-right, div_mono}
use Rattle.gf.proofs.Exactly.{one, sub-nonneg, sub-nonpos, sub-positive, div-nonneg, div-nonpos, div-le-one, mul-nonneg, mul-nonpos, mul-le-self, mul-ge-self, mul-zero-le, mul-zero-ge, add-ge-self, add-le-self, within-finite, sub_within}
use Rattle.gf.specs.Doubles.{within, power, share, lerp}

pub lerp-fits : (x0 x1 y0 y1 t : Float) → T (fits binary64 (lerp x0 x1 y0 y1 t))
unfolding lerp
lerp-fits x0 x1 y0 y1 t = add-fits binary64 y0 (mul binary64 (sub binary64 y1 y0) (share x0 x1 t))

-- the numbers are doubles: what a program knows of each `f64` that it holds
pub record Doubles (x0 x1 y0 y1 : Float) : Type 0 where
  pub fx0 : T (fits binary64 x0)
  pub fx1 : T (fits binary64 x1)
  pub fy0 : T (fits binary64 y0)
  pub fy1 : T (fits binary64 y1)

-- a segment: its ends are of size 2 ^ 40 at most, and x0 is below x1
pub record Segment (x0 x1 y0 y1 : Float) : Type 0 where
  pub bx0 : T (within 40 x0)
  pub bx1 : T (within 40 x1)
  pub by0 : T (within 40 y0)
  pub by1 : T (within 40 y1)
  pub wide : T (lt x0 x1)

-- a double from x0 to x1
pub record Inside (x0 x1 t : Float) : Type 0 where
  pub ft : T (fits binary64 t)
  pub from : T (le x0 t)
  pub upto : T (le t x1)

power-fits : (s : Bool) → T (fits binary64 (power s 41)) × T (fits binary64 (power s 42))
unfolding fits
power-fits s = (tt, tt)

-- what a segment's operations have in common
module _ (x0 x1 y0 y1 : Float) (D : Doubles x0 x1 y0 y1) (S : Segment x0 x1 y0 y1) where
  x0-fin : T (finite x0)
  x0-fin = within-finite 40 x0 S.bx0

  x1-fin : T (finite x1)
  x1-fin = within-finite 40 x1 S.bx1

  y0-fin : T (finite y0)
  y0-fin = within-finite 40 y0 S.by0

  y1-fin : T (finite y1)
  y1-fin = within-finite 40 y1 S.by1

  dx-fin : T (finite (sub binary64 x1 x0))
  dx-fin = within-finite 41 (sub binary64 x1 x0) (sub_within binary64 40 (λ s. (power-fits s).0) x1 x0 S.bx1 S.bx0)

  dx-pos : T (positive (sub binary64 x1 x0))
  dx-pos = sub-positive binary64 x0 x1 D.fx0 D.fx1 x0-fin x1-fin S.wide dx-fin

  dy-within : T (within 41 (sub binary64 y1 y0))
  dy-within = sub_within binary64 40 (λ s. (power-fits s).0) y1 y0 S.by1 S.by0

  dy-fin : T (finite (sub binary64 y1 y0))
  dy-fin = within-finite 41 (sub binary64 y1 y0) dy-within

  inside-fin : (t : Float) → Inside x0 x1 t → T (finite t)
  inside-fin t I = between x0 t x1 x0-fin x1-fin I.from I.upto

  step-nonneg : (t : Float) → Inside x0 x1 t → T (le nought (sub binary64 t x0))
  step-nonneg t I = sub-nonneg binary64 x0 t x0-fin (inside-fin t I) I.from

  step-le : (t : Float) → Inside x0 x1 t → T (le (sub binary64 t x0) (sub binary64 x1 x0))
  step-le t I = sub-mono binary64 t x1 x0 (inside-fin t I) x1-fin I.upto x0-fin

  step-fin : (t : Float) → Inside x0 x1 t → T (finite (sub binary64 t x0))
  step-fin t I = between nought (sub binary64 t x0) (sub binary64 x1 x0) tt dx-fin (step-nonneg t I) (step-le t I)

  pub share-nonneg : (t : Float) → Inside x0 x1 t → T (le nought (share x0 x1 t))
  unfolding share
  share-nonneg t I = div-nonneg binary64 (sub binary64 t x0) (sub binary64 x1 x0) (step-fin t I) dx-pos (step-nonneg t I)

  pub share-le-one : (t : Float) → Inside x0 x1 t → T (le (share x0 x1 t) one)
  unfolding share
  share-le-one t I = div-le-one binary64 (sub binary64 t x0) (sub binary64 x1 x0) (step-fin t I) dx-pos dx-fin (step-le t I)

  pub share-fin : (t : Float) → Inside x0 x1 t → T (finite (share x0 x1 t))
  share-fin t I = between nought (share x0 x1 t) one tt tt (share-nonneg t I) (share-le-one t I)

  pub share-mono : (t u : Float) → Inside x0 x1 t → Inside x0 x1 u → T (le t u) → T (le (share x0 x1 t) (share x0 x1 u))
  unfolding share
  share-mono t u I J h =
      div_mono binary64 (sub binary64 t x0) (sub binary64 u x0) (sub binary64 x1 x0) (step-fin t I) (step-fin u J)
      (sub-mono binary64 t u x0 (inside-fin t I) (inside-fin u J) h x0-fin) dx-pos

  -- what is added to y0
  abbrev rise : Float → Float
  rise t = mul binary64 (sub binary64 y1 y0) (share x0 x1 t)

  lerp-is : (t : Float) → lerp x0 x1 y0 y1 t ≡ add binary64 y0 (rise t)
  unfolding lerp
  lerp-is t = refl

  -- ---- at x0 nothing is added

  pub start : Inside x0 x1 x0
  start = record { ft = D.fx0; from = le_refl x0 D.fx0 (finite-no-nan x0 x0-fin); upto = lt→le x0 x1 S.wide }

  zero-share : T (le (share x0 x1 x0) nought)
  unfolding share
  zero-share = div-nonpos binary64 (sub binary64 x0 x0) (sub binary64 x1 x0) (step-fin x0 start) dx-pos (sub-nonpos binary64 x0 x0 x0-fin x0-fin start.from)

  pub lerp-start : T (eq (lerp x0 x1 y0 y1 x0) y0)
  lerp-start =
      let lo = mul-zero-ge binary64 (sub binary64 y1 y0) (share x0 x1 x0) dy-fin (share-fin x0 start) (share-nonneg x0 start) zero-share in
      let hi = mul-zero-le binary64 (sub binary64 y1 y0) (share x0 x1 x0) dy-fin (share-fin x0 start) (share-nonneg x0 start) zero-share in
      let fine = between nought (rise x0) nought tt tt lo hi in
      rw (lerp-is x0)
      (le-both (add binary64 y0 (rise x0)) y0 (add-fits binary64 y0 (rise x0)) D.fy0
      (add-le-self binary64 y0 (rise x0) D.fy0 y0-fin fine hi)
      (add-ge-self binary64 y0 (rise x0) D.fy0 y0-fin fine lo))

  -- ---- a segment that rises

  module _ (up : T (le y0 y1)) where
    dy-up : T (le nought (sub binary64 y1 y0))
    dy-up = sub-nonneg binary64 y0 y1 y0-fin y1-fin up

    rise-up : (t : Float) → Inside x0 x1 t → T (le nought (rise t))
    rise-up t I = mul-nonneg binary64 (sub binary64 y1 y0) (share x0 x1 t) (sub-fits binary64 y1 y0) dy-fin (share-fin t I) (share-nonneg t I) dy-up

    rise-le : (t : Float) → Inside x0 x1 t → T (le (rise t) (sub binary64 y1 y0))
    rise-le t I = mul-le-self binary64 (sub binary64 y1 y0) (share x0 x1 t) (sub-fits binary64 y1 y0) dy-fin (share-fin t I) (share-nonneg t I) (share-le-one t I) dy-up

    rise-fin : (t : Float) → Inside x0 x1 t → T (finite (rise t))
    rise-fin t I = between nought (rise t) (sub binary64 y1 y0) tt dy-fin (rise-up t I) (rise-le t I)

    pub lerp-mono : (t u : Float) → Inside x0 x1 t → Inside x0 x1 u → T (le t u) → T (le (lerp x0 x1 y0 y1 t) (lerp x0 x1 y0 y1 u))
    lerp-mono t u I J h =
        rw (lerp-is t, lerp-is u)
        (add-mono-right binary64 (rise t) (rise u) y0 (rise-fin t I) (rise-fin u J)
        (mul-mono-right binary64 (share x0 x1 t) (share x0 x1 u) (sub binary64 y1 y0) (share-fin t I) (share-fin u J) (share-mono t u I J h) dy-fin dy-up) y0-fin)

  -- ---- a segment that falls

  module _ (fall : T (le y1 y0)) where
    dy-down : T (le (sub binary64 y1 y0) nought)
    dy-down = sub-nonpos binary64 y0 y1 y0-fin y1-fin fall

    drop-down : (t : Float) → Inside x0 x1 t → T (le (rise t) nought)
    drop-down t I = mul-nonpos binary64 (sub binary64 y1 y0) (share x0 x1 t) (sub-fits binary64 y1 y0) dy-fin (share-fin t I) (share-nonneg t I) dy-down

    drop-ge : (t : Float) → Inside x0 x1 t → T (le (sub binary64 y1 y0) (rise t))
    drop-ge t I = mul-ge-self binary64 (sub binary64 y1 y0) (share x0 x1 t) (sub-fits binary64 y1 y0) dy-fin (share-fin t I) (share-nonneg t I) (share-le-one t I) dy-down

    drop-fin : (t : Float) → Inside x0 x1 t → T (finite (rise t))
    drop-fin t I = between (sub binary64 y1 y0) (rise t) nought dy-fin tt (drop-ge t I) (drop-down t I)

    pub lerp-anti : (t u : Float) → Inside x0 x1 t → Inside x0 x1 u → T (le t u) → T (le (lerp x0 x1 y0 y1 u) (lerp x0 x1 y0 y1 t))
    lerp-anti t u I J h =
        rw (lerp-is t, lerp-is u)
        (add-mono-right binary64 (rise u) (rise t) y0 (drop-fin u J) (drop-fin t I)
        (mul-anti-right binary64 (share x0 x1 t) (share x0 x1 u) (sub binary64 y1 y0) (share-fin t I) (share-fin u J) (share-mono t u I J h) dy-fin dy-down) y0-fin)
