-- How operations on finite values compare with zero, with one operand, or with a power of two: each is `rounds-mono` against a value that fits, which is its own rounding.
-- Assumes nothing.
use Rattle.std.proofs.Common.{◌≡◌, ℕ, suc, ◌+◌, ◌*◌, ◌^◌, ◌<◌, ◌≤◌, Bool, true, false, T, pos, sym, refl, ap, ◌∙◌, le_trans, le_of_eq, add-zero, mul-le-mul_right, zero-lt-suc, mul_assoc, suc-mul, mul_comm, add-mul, add_comm, lt_of_mul-lt-mul_right, mul-le-mul_left, mul-lt-mul_of_pos_right, mul-pos, one-mul, mul-zero, zero-add, zero-mul, mul-add, mul_right_comm, mul_left_comm, arith, lit<, pow_pos}
use native.Mathlib.Nat.{pow-succ'}
use lib.Ieee.{Float, nan, inf, fin, Format, binary32, binary64, prec, emax, low, down, round, add, sub, mul, div, fits, lt, le}
use lib.Ieee.Fits.{and_l, and_r, and_i}
use lib.Ieee.Exact.{round_exact}
use lib.Ieee.Scale.{finite}
use lib.Ieee.Positive.{num, den, den_pos, positive, positive_of_value, above, above_of_le}
use Rattle.gf.proofs.Fraction.{over, under, le→cross, lt→cross, Rounds, rounds-mono}
use Rattle.gf.proofs.Units.{unit, unit-exact, rounds-self}
use Rattle.gf.proofs.KeyLaws.{between}
use Rattle.gf.proofs.Ops.{nought, nonneg, nonpos, add-over, add-under, add_rounds, sub-over, sub-under, sub-rounds, mul-over, mul-under, mul-rounds, div-rounds, num_pos}
use Rattle.gf.specs.Doubles.{power, within}

ruleset ring = (add-mul, mul-add, mul_assoc, mul_comm, mul_left_comm)

-- ---- zero and one are values of each format

abbrev pub one : Float
one = fin false 1 (pos 0)

pub nought-fits : (f : Format) → T (fits f nought)
unfolding fits
nought-fits f = tt

pub one-fits : (f : Format) → T (fits f one)
unfolding fits
one-fits binary32 = tt
one-fits binary64 = tt

nought-rounds : (f : Format) → Rounds f nought 0 0 1
nought-rounds f = rounds-self f nought (nought-fits f) tt

one-rounds : (f : Format) → Rounds f one 1 0 1
one-rounds f = rounds-self f one (one-fits f) tt

-- ---- which side of zero a rounded fraction lies on

module _ (f : Format) (z : Float) (P N c : ℕ) (C : 0 < c) (r : Rounds f z P N c) where
  pub rounds-nonneg : N ≤ P → T (le nought z)
  rounds-nonneg h = rounds-mono f nought z 0 0 1 P N c (zero-lt-suc 0) C (nought-rounds f) r (omega arith)

  pub rounds-nonpos : P ≤ N → T (le z nought)
  rounds-nonpos h = rounds-mono f z nought P N c 0 0 1 C (zero-lt-suc 0) r (nought-rounds f) (omega arith)

  pub rounds-le-one : P ≤ N + c → T (le z one)
  rounds-le-one h = rounds-mono f z one P N c 1 0 1 C (zero-lt-suc 0) r (one-rounds f) (omega arith)

  -- against a value that fits
  pub rounds-le : (y : Float) → T (fits f y) → T (finite y) → P * den y + under y * c ≤ over y * c + N * den y → T (le z y)
  rounds-le y p q h = rounds-mono f z y P N c (over y) (under y) (den y) C (den_pos y) r (rounds-self f y p q) h

  pub rounds-ge : (y : Float) → T (fits f y) → T (finite y) → over y * c + N * den y ≤ P * den y + under y * c → T (le y z)
  rounds-ge y p q h = rounds-mono f y z (over y) (under y) (den y) P N c (den_pos y) C (rounds-self f y p q) r h

-- ---- differences

module _ (f : Format) (a b : Float) (p : T (finite a)) (q : T (finite b)) where
  pub sub-nonneg : T (le a b) → T (le nought (sub f b a))
  sub-nonneg h =
      let k = le→cross a b p q h in
      rounds-nonneg f (sub f b a) (sub-over b a) (sub-under b a) (den b * den a) (mul-pos (den_pos b) (den_pos a)) (sub-rounds f b a q p) (omega arith)

  pub sub-nonpos : T (le b a) → T (le (sub f b a) nought)
  sub-nonpos h =
      let k = le→cross b a q p h in
      rounds-nonpos f (sub f b a) (sub-over b a) (sub-under b a) (den b * den a) (mul-pos (den_pos b) (den_pos a)) (sub-rounds f b a q p) (omega arith)

-- ---- the difference of two different values that fit is not zero: it is one of the format's smallest values at least

-- the signed size in smallest values
abbrev up-unit : Format → Float → ℕ
up-unit f nan = 0
up-unit f (inf s) = 0
up-unit f (fin true m e) = 0
up-unit f (fin false m e) = unit f (fin false m e)

abbrev down-unit : Format → Float → ℕ
down-unit f nan = 0
down-unit f (inf s) = 0
down-unit f (fin true m e) = unit f (fin true m e)
down-unit f (fin false m e) = 0

over-exact : (f : Format) (x : Float) → T (fits f x) → over x * 2 ^ low f ≡ up-unit f x * den x
over-exact f nan p = zero-mul (2 ^ low f)
over-exact f (inf s) p = zero-mul (2 ^ low f)
over-exact f (fin true m e) p = zero-mul (2 ^ low f) ∙ sym (zero-mul (down e))
over-exact f (fin false m e) p = unit-exact f (fin false m e) p

under-exact : (f : Format) (x : Float) → T (fits f x) → under x * 2 ^ low f ≡ down-unit f x * den x
under-exact f nan p = zero-mul (2 ^ low f)
under-exact f (inf s) p = zero-mul (2 ^ low f)
under-exact f (fin true m e) p = unit-exact f (fin true m e) p
under-exact f (fin false m e) p = zero-mul (2 ^ low f) ∙ sym (zero-mul (down e))

-- a = (A - A') / x and b = (B - B') / y are whole numbers of 1 / l
whole-gap : (A A' x B B' y l a a' b b' : ℕ) → 0 < x * y → 0 < l → A * l ≡ a * x → A' * l ≡ a' * x → B * l ≡ b * y → B' * l ≡ b' * y
    → A * y + B' * x < B * x + A' * y → x * y + (A * y + B' * x) * l ≤ (B * x + A' * y) * l
whole-gap A A' x B B' y l a a' b b' D L e1 e2 e3 e4 h =
    let lo : (A * y + B' * x) * l ≡ (a + b') * (x * y) =
    add-mul (A * y) (B' * x) l ∙ ap (λ (z : ℕ). z + B' * x * l) (mul_right_comm A y l ∙ ap (λ (z : ℕ). z * y) e1) ∙ ap (λ (z : ℕ). a * x * y + z) (mul_right_comm B' x l ∙ ap (λ (z : ℕ). z * x) e4) ∙ simp ring in
    let hi : (B * x + A' * y) * l ≡ (b + a') * (x * y) =
    add-mul (B * x) (A' * y) l ∙ ap (λ (z : ℕ). z + A' * y * l) (mul_right_comm B x l ∙ ap (λ (z : ℕ). z * x) e3) ∙ ap (λ (z : ℕ). b * y * x + z) (mul_right_comm A' y l ∙ ap (λ (z : ℕ). z * y) e2) ∙ simp ring in
    let k : (a + b') * (x * y) < (b + a') * (x * y) = rw (lo, hi) at (mul-lt-mul_of_pos_right h L) in
    let g : suc (a + b') * (x * y) ≤ (b + a') * (x * y) = mul-le-mul_right (x * y) (lt_of_mul-lt-mul_right (x * y) k) in
    rw (lo, hi) (le_trans (le_of_eq (add_comm (x * y) ((a + b') * (x * y)) ∙ sym (suc-mul (a + b') (x * y)))) g)

tiny : Format → Float
tiny f = round f false 1 (2 ^ low f)

tiny-pos : (f : Format) → T (positive (tiny f))
unfolding tiny
tiny-pos f = positive_of_value (round f false 1 (2 ^ low f)) 1 (2 ^ low f) (round_exact f false 1 (2 ^ low f) 1 0 (pow_pos (low f)) (more f) (room f) refl) (zero-lt-suc 0)
  where
    more : (f : Format) → 1 < 2 ^ prec f
    more binary32 = lit< tt
    more binary64 = lit< tt

    room : (f : Format) → 1 * 2 ^ 0 < 2 ^ (low f + suc (emax f))
    room binary32 = lit< tt
    room binary64 = lit< tt

tiny-rounds : (f : Format) → Rounds f (tiny f) 1 0 (2 ^ low f)
unfolding tiny
tiny-rounds f = record { sign = false; mag = 1; is = refl; part = refl }

finite-above : (z : Float) → T (finite z) → T (above z) → T (positive z)
finite-above nan p h = absurd p
finite-above (inf s) p h = absurd p
finite-above (fin true m e) p h = h
finite-above (fin false m e) p h = h

-- D stands for the product of the denominators, P and N for the difference's fraction
enough : (D D' P P' N N' l : ℕ) → D ≡ D' → P ≡ P' → N ≡ N' → D' + N' * l ≤ P' * l → 1 * D + N * l ≤ P * l + 0 * D
enough D D' P P' N N' l d p n h = rw (d, p, n) (omega arith)

module _ (f : Format) (a b : Float) (fa : T (fits f a)) (fb : T (fits f b)) (p : T (finite a)) (q : T (finite b)) where
  pub sub-positive : T (lt a b) → T (finite (sub f b a)) → T (positive (sub f b a))
  sub-positive h fine =
      let D = mul-pos (den_pos b) (den_pos a) in
      let k = whole-gap (over a) (under a) (den a) (over b) (under b) (den b) (2 ^ low f) (up-unit f a) (down-unit f a) (up-unit f b) (down-unit f b)
      (mul-pos (den_pos a) (den_pos b)) (pow_pos (low f)) (over-exact f a fa) (under-exact f a fa) (over-exact f b fb) (under-exact f b fb) (lt→cross a b p q h) in
      finite-above (sub f b a) fine
      (above_of_le (tiny f) (sub f b a) (tiny-pos f)
      (rounds-mono f (tiny f) (sub f b a) 1 0 (2 ^ low f) (sub-over b a) (sub-under b a) (den b * den a) (pow_pos (low f)) D (tiny-rounds f) (sub-rounds f b a q p)
      (enough (den b * den a) (den a * den b) (sub-over b a) (over b * den a + under a * den b) (sub-under b a) (over a * den b + under b * den a) (2 ^ low f)
      (mul_comm (den b) (den a)) refl (add_comm (under b * den a) (over a * den b)) k)))

-- ---- quotients of 0 ≤ n ≤ d, d above zero

pos-over : (d : Float) → T (positive d) → (num d ≡ over d) × (under d ≡ 0)
pos-over nan p = absurd p
pos-over (inf s) p = absurd p
pos-over (fin true m e) p = absurd p
pos-over (fin false m e) p = (refl, refl)

module _ (f : Format) (n d : Float) (p : T (finite n)) (q : T (positive d)) where
  c_pos : 0 < num d * den n
  c_pos = mul-pos (num_pos d q) (den_pos n)

  pub div-nonneg : T (le nought n) → T (le nought (div f n d))
  div-nonneg h = rounds-nonneg f (div f n d) (over n * den d) (under n * den d) (num d * den n) c_pos (div-rounds f n d p q) (rw (nonneg n p h) (omega arith))

  pub div-nonpos : T (le n nought) → T (le (div f n d) nought)
  div-nonpos h = rounds-nonpos f (div f n d) (over n * den d) (under n * den d) (num d * den n) c_pos (div-rounds f n d p q) (rw (nonpos n p h) (omega arith))

  pub div-le-one : T (finite d) → T (le n d) → T (le (div f n d) one)
  div-le-one r h =
      let k = le→cross n d p r h in
      let o = pos-over d q in
      rounds-le-one f (div f n d) (over n * den d) (under n * den d) (num d * den n) c_pos (div-rounds f n d p q) (rw o.0 (omega arith))

-- ---- products with a factor q in [0, 1]

le-one : (q : Float) → T (finite q) → T (le q one) → over q ≤ den q + under q
le-one q p h = let k = le→cross q one p tt h in omega arith

module _ (f : Format) (v q : Float) (fv : T (fits f v)) (a : T (finite v)) (b : T (finite q)) (lo : T (le nought q)) where
  d-pos : 0 < den v * den q
  d-pos = mul-pos (den_pos v) (den_pos q)

  r : Rounds f (mul f v q) (mul-over v q) (mul-under v q) (den v * den q)
  r = mul-rounds f v q a b

  pub mul-nonneg : T (le nought v) → T (le nought (mul f v q))
  mul-nonneg h = rounds-nonneg f (mul f v q) (mul-over v q) (mul-under v q) (den v * den q) d-pos r (rw (nonneg v a h, nonneg q b lo) (omega arith))

  pub mul-nonpos : T (le v nought) → T (le (mul f v q) nought)
  mul-nonpos h = rounds-nonpos f (mul f v q) (mul-over v q) (mul-under v q) (den v * den q) d-pos r (rw (nonpos v a h, nonneg q b lo) (omega arith))

  -- w q ≤ w for a size w, all over den v * den q
  shrink : (w : ℕ) → T (le q one) → w * over q * den v ≤ w * (den v * den q)
  shrink w hi =
      let k : over q ≤ den q = omega (arith, nonneg q b lo, le-one q b hi) in
      le_trans (le_of_eq (mul_assoc w (over q) (den v))) (mul-le-mul_left w (le_trans (le_of_eq (mul_comm (over q) (den v))) (mul-le-mul_left (den v) k)))

  pub mul-le-self : T (le q one) → T (le nought v) → T (le (mul f v q) v)
  mul-le-self hi h =
      let k = shrink (over v) hi in
      rounds-le f (mul f v q) (mul-over v q) (mul-under v q) (den v * den q) d-pos r v fv a
      (rw (nonneg v a h, nonneg q b lo) (simp (mul-zero, zero-mul, add-zero) k))

  pub mul-ge-self : T (le q one) → T (le v nought) → T (le v (mul f v q))
  mul-ge-self hi h =
      let k = shrink (under v) hi in
      rounds-ge f (mul f v q) (mul-over v q) (mul-under v q) (den v * den q) d-pos r v fv a
      (rw (nonpos v a h, nonneg q b lo) (simp (mul-zero, zero-mul, add-zero, zero-add) k))

-- a factor that is zero
module _ (f : Format) (v q : Float) (a : T (finite v)) (b : T (finite q)) (lo : T (le nought q)) (hi : T (le q nought)) where
  pub mul-zero-le : T (le (mul f v q) nought)
  mul-zero-le =
      rounds-nonpos f (mul f v q) (mul-over v q) (mul-under v q) (den v * den q) (mul-pos (den_pos v) (den_pos q)) (mul-rounds f v q a b) (rw (nonneg q b lo, nonpos q b hi) (omega arith))

  pub mul-zero-ge : T (le nought (mul f v q))
  mul-zero-ge =
      rounds-nonneg f (mul f v q) (mul-over v q) (mul-under v q) (den v * den q) (mul-pos (den_pos v) (den_pos q)) (mul-rounds f v q a b) (rw (nonneg q b lo, nonpos q b hi) (omega arith))

-- ---- sums with a p on one side of zero

module _ (f : Format) (y p : Float) (fy : T (fits f y)) (a : T (finite y)) (b : T (finite p)) where
  pub add-ge-self : T (le nought p) → T (le y (add f y p))
  add-ge-self h =
      rounds-ge f (add f y p) (add-over y p) (add-under y p) (den y * den p) (mul-pos (den_pos y) (den_pos p)) (add_rounds f y p a b) y fy a
      (rw (nonneg p b h) (simp (add-mul, mul_assoc, mul_comm, mul_left_comm) (omega arith)))

  pub add-le-self : T (le p nought) → T (le (add f y p) y)
  add-le-self h =
      rounds-le f (add f y p) (add-over y p) (add-under y p) (den y * den p) (mul-pos (den_pos y) (den_pos p)) (add_rounds f y p a b) y fy a
      (rw (nonpos p b h) (simp (add-mul, mul_assoc, mul_comm, mul_left_comm) (omega arith)))

-- ---- values of size 2 ^ k at most

pub within-lo : (k : ℕ) (x : Float) → T (within k x) → T (le (power true k) x)
unfolding within
within-lo k x h = and_l (le (power true k) x) (le x (power false k)) h

pub within-hi : (k : ℕ) (x : Float) → T (within k x) → T (le x (power false k))
unfolding within
within-hi k x h = and_r (le (power true k) x) (le x (power false k)) h

pub to-within : (k : ℕ) (x : Float) → T (le (power true k) x) → T (le x (power false k)) → T (within k x)
unfolding within
to-within k x h g = and_i (le (power true k) x) (le x (power false k)) h g

pub within-finite : (k : ℕ) (x : Float) → T (within k x) → T (finite x)
within-finite k x h = between (power true k) x (power false k) tt tt (within-lo k x h) (within-hi k x h)

-- the fraction of such a value
upper : (k : ℕ) (x : Float) → T (within k x) → over x ≤ 2 ^ k * den x + under x
upper k x h = let c = le→cross x (power false k) (within-finite k x h) tt (within-hi k x h) in omega (arith, one-mul (2 ^ k), mul_comm (den x) (2 ^ k))

lower : (k : ℕ) (x : Float) → T (within k x) → under x ≤ 2 ^ k * den x + over x
lower k x h = let c = le→cross (power true k) x tt (within-finite k x h) (within-lo k x h) in omega (arith, one-mul (2 ^ k))

-- (X - X') / x + (Y - Y') / y ≤ 2 b, by X - X' ≤ b x and Y - Y' ≤ b y
two-bounds : (X X' x Y Y' y b : ℕ) → X ≤ b * x + X' → Y ≤ b * y + Y' → X * y + Y * x ≤ 2 * b * (x * y) + (X' * y + Y' * x)
two-bounds X X' x Y Y' y b h g =
    let p : X * y ≤ (b * x + X') * y = mul-le-mul_right y h in
    let q : Y * x ≤ (b * y + Y') * x = mul-le-mul_right x g in
    simp ring (omega (arith, simp ring at p, simp ring at q))

fit-up : (P N c b w : ℕ) → w ≡ 2 * b → P ≤ 2 * b * c + N → P * 1 + 0 * c ≤ 1 * w * c + N * 1
fit-up P N c b w e h = rw (one-mul w, e) (omega arith)

fit-down : (P N c b w : ℕ) → w ≡ 2 * b → N ≤ 2 * b * c + P → 0 * c + N * 1 ≤ P * 1 + 1 * w * c
fit-down P N c b w e h = rw (one-mul w, e) (omega arith)

module _ (f : Format) (k : ℕ) (F : (s : Bool) → T (fits f (power s (suc k)))) where
  rounds-within : (z : Float) (P N c : ℕ) → 0 < c → Rounds f z P N c → P ≤ 2 * 2 ^ k * c + N → N ≤ 2 * 2 ^ k * c + P → T (within (suc k) z)
  rounds-within z P N c C r h g =
      to-within (suc k) z
      (rounds-ge f z P N c C r (power true (suc k)) (F true) tt (fit-down P N c (2 ^ k) (2 ^ suc k) (pow-succ' 2 k) g))
      (rounds-le f z P N c C r (power false (suc k)) (F false) tt (fit-up P N c (2 ^ k) (2 ^ suc k) (pow-succ' 2 k) h))

  pub add-within : (x y : Float) → T (within k x) → T (within k y) → T (within (suc k) (add f x y))
  add-within x y h g =
      rounds-within (add f x y) (add-over x y) (add-under x y) (den x * den y) (mul-pos (den_pos x) (den_pos y)) (add_rounds f x y (within-finite k x h) (within-finite k y g))
      (two-bounds (over x) (under x) (den x) (over y) (under y) (den y) (2 ^ k) (upper k x h) (upper k y g))
      (two-bounds (under x) (over x) (den x) (under y) (over y) (den y) (2 ^ k) (lower k x h) (lower k y g))

  pub sub_within : (x y : Float) → T (within k x) → T (within k y) → T (within (suc k) (sub f x y))
  sub_within x y h g =
      rounds-within (sub f x y) (sub-over x y) (sub-under x y) (den x * den y) (mul-pos (den_pos x) (den_pos y)) (sub-rounds f x y (within-finite k x h) (within-finite k y g))
      (two-bounds (over x) (under x) (den x) (under y) (over y) (den y) (2 ^ k) (upper k x h) (lower k y g))
      (two-bounds (under x) (over x) (den x) (over y) (under y) (den y) (2 ^ k) (lower k x h) (upper k y g))

  -- a value that fits and is within 2 ^ k is within 2 ^ (k + 1)
  pub within_more : (x : Float) → T (fits f x) → T (within k x) → T (within (suc k) x)
  within_more x fx h =
      let u = upper k x h in
      let l = lower k x h in
      rounds-within x (over x) (under x) (den x) (den_pos x) (rounds-self f x fx (within-finite k x h)) (omega (arith, mul_assoc 2 (2 ^ k) (den x))) (omega (arith, mul_assoc 2 (2 ^ k) (den x)))
