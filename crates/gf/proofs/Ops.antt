-- Each operation on finite values is a rounded fraction (`add_rounds` to `div-rounds`), and so it keeps the order in one operand where the exact operation does.
-- Nothing is asked about overflow: a result may be an infinity. Assumes nothing.
use Rattle.std.proofs.Common.{◌≡◌, ℕ, ◌+◌, ◌-◌, ◌*◌, ◌<◌, ◌≤◌, Bool, true, false, cond, not, T, eqb, ltb, ℤ, pos, refl, ◌∙◌, subst, add-zero, lt_irrefl, mul-le-mul_right, mul_assoc, mul_comm, add-mul, mul-pos, zero-add, zero-mul, mul-add, mul_left_comm, arith, eqb→eq, ltb→lt, nltb→le}
use lib.Ieee.{Float, nan, inf, fin, Format, up, down, round, sum, add, sub, mul, div, neg, le}
use lib.Ieee.Fits.{up_pos}
use lib.Ieee.Scale.{finite}
use lib.Ieee.Positive.{num, den, den_pos, positive}
use Rattle.gf.proofs.Fraction.{over, under, Cross, le→cross, Rounds, rounds-mono}

ruleset ring = (add-mul, mul-add, mul_assoc, mul_comm, mul_left_comm)

-- ---- the sum

opposite : (f : Format) (a b c : ℕ) → Rounds f (sum f false a true b c) a b c
unfolding sum
opposite f a b c = go (ltb a b) (ltb→lt a b) (nltb→le a b)
  where
    go : (t : Bool) → (T t → a < b) → (T (not t) → b ≤ a) → Rounds f (cond t (round f true (b - a) c) (round f false (a - b) c)) a b c
    go true p q = let h = p tt in record { sign = true; mag = b - a; is = refl; part = omega arith }
    go false p q = let h = q tt in record { sign = false; mag = a - b; is = refl; part = omega arith }

opposite-neg : (f : Format) (a b c : ℕ) → Rounds f (sum f true a false b c) b a c
unfolding sum
opposite-neg f a b c = go (ltb a b) (ltb b a) (ltb→lt a b) (nltb→le a b) (nltb→le b a)
  where
    go : (t u : Bool) → (T t → a < b) → (T (not t) → b ≤ a) → (T (not u) → a ≤ b) → Rounds f (cond t (round f false (b - a) c) (round f u (a - b) c)) b a c
    go true u p q r = let h = p tt in record { sign = false; mag = b - a; is = refl; part = omega arith }
    go false true p q r = let h = q tt in record { sign = true; mag = a - b; is = refl; part = omega arith }
    go false false p q r = let h = q tt in let k = r tt in record { sign = false; mag = a - b; is = refl; part = omega arith }

alike : (f : Format) (s : Bool) (a b c : ℕ) → sum f s a s b c ≡ round f s (a + b) c
unfolding sum
alike f true a b c = refl
alike f false a b c = refl

add-fin : (f : Format) (s : Bool) (m : ℕ) (e : ℤ) (t : Bool) (n : ℕ) (d : ℤ) → add f (fin s m e) (fin t n d) ≡ sum f s (m * up e * down d) t (n * up d * down e) (down e * down d)
unfolding add
add-fin f s m e t n d = refl

-- the fraction of x + y
abbrev pub add-over : Float → Float → ℕ
add-over x y = over x * den y + over y * den x

abbrev pub add-under : Float → Float → ℕ
add-under x y = under x * den y + under y * den x

pub add_rounds : (f : Format) (x y : Float) → T (finite x) → T (finite y) → Rounds f (add f x y) (add-over x y) (add-under x y) (den x * den y)
add_rounds f nan y p q = absurd p
add_rounds f (inf s) y p q = absurd p
add_rounds f (fin s m e) nan p q = absurd q
add_rounds f (fin s m e) (inf t) p q = absurd q
add_rounds f (fin false m e) (fin false n d) p q =
    record { sign = false; mag = m * up e * down d + n * up d * down e; is = add-fin f false m e false n d ∙ alike f false (m * up e * down d) (n * up d * down e) (down e * down d); part = omega arith }
add_rounds f (fin true m e) (fin true n d) p q =
    record { sign = true; mag = m * up e * down d + n * up d * down e; is = add-fin f true m e true n d ∙ alike f true (m * up e * down d) (n * up d * down e) (down e * down d); part = omega arith }
add_rounds f (fin false m e) (fin true n d) p q =
    simp (add-fin, zero-mul, add-zero, zero-add) (opposite f (m * up e * down d) (n * up d * down e) (down e * down d))
add_rounds f (fin true m e) (fin false n d) p q =
    simp (add-fin, zero-mul, add-zero, zero-add) (opposite-neg f (m * up e * down d) (n * up d * down e) (down e * down d))

-- ---- the difference

abbrev pub sub-over : Float → Float → ℕ
sub-over x y = over x * den y + under y * den x

abbrev pub sub-under : Float → Float → ℕ
sub-under x y = under x * den y + over y * den x

sub_is : (f : Format) (x y : Float) → sub f x y ≡ add f x (neg y)
unfolding sub
sub_is f x y = refl

pub sub-rounds : (f : Format) (x y : Float) → T (finite x) → T (finite y) → Rounds f (sub f x y) (sub-over x y) (sub-under x y) (den x * den y)
unfolding neg
sub-rounds f x nan p q = absurd q
sub-rounds f x (inf t) p q = absurd q
sub-rounds f x (fin true n d) p q = rw (sub_is f x (fin true n d)) (add_rounds f x (fin false n d) p tt)
sub-rounds f x (fin false n d) p q = rw (sub_is f x (fin false n d)) (add_rounds f x (fin true n d) p tt)

-- ---- the product

abbrev pub mul-over : Float → Float → ℕ
mul-over x y = over x * over y + under x * under y

abbrev pub mul-under : Float → Float → ℕ
mul-under x y = over x * under y + under x * over y

pub mul-rounds : (f : Format) (x y : Float) → T (finite x) → T (finite y) → Rounds f (mul f x y) (mul-over x y) (mul-under x y) (den x * den y)
unfolding mul
mul-rounds f nan y p q = absurd p
mul-rounds f (inf s) y p q = absurd p
mul-rounds f (fin s m e) nan p q = absurd q
mul-rounds f (fin s m e) (inf t) p q = absurd q
mul-rounds f (fin false m e) (fin false n d) p q = record { sign = false; mag = m * up e * (n * up d); is = refl; part = omega arith }
mul-rounds f (fin false m e) (fin true n d) p q = record { sign = true; mag = m * up e * (n * up d); is = refl; part = omega arith }
mul-rounds f (fin true m e) (fin false n d) p q = record { sign = true; mag = m * up e * (n * up d); is = refl; part = omega arith }
mul-rounds f (fin true m e) (fin true n d) p q = record { sign = false; mag = m * up e * (n * up d); is = refl; part = omega arith }

-- ---- the quotient by a y above zero

not-zero : (n : ℕ) → T (ltb 0 n) → eqb n 0 ≡ false
not-zero n h = go (eqb n 0) (eqb→eq n 0)
  where
    go : (b : Bool) → (T b → n ≡ 0) → b ≡ false
    go true p = absurd (lt_irrefl 0 (subst (λ (x : ℕ). 0 < x) (p tt) (ltb→lt 0 n h)))
    go false p = refl

div-fin : (f : Format) (s : Bool) (m : ℕ) (e : ℤ) (n : ℕ) (d : ℤ) → T (ltb 0 n) → div f (fin s m e) (fin false n d) ≡ round f s (m * up e * down d) (n * up d * down e)
unfolding div
div-fin f true m e n d h = rw (not-zero n h)
div-fin f false m e n d h = rw (not-zero n h)

pub div-rounds : (f : Format) (x y : Float) → T (finite x) → T (positive y) → Rounds f (div f x y) (over x * den y) (under x * den y) (num y * den x)
div-rounds f nan y p q = absurd p
div-rounds f (inf s) y p q = absurd p
div-rounds f (fin s m e) nan p q = absurd q
div-rounds f (fin s m e) (inf t) p q = absurd q
div-rounds f (fin s m e) (fin true n d) p q = absurd q
div-rounds f (fin true m e) (fin false n d) p q = record { sign = true; mag = m * up e * down d; is = div-fin f true m e n d q; part = omega arith }
div-rounds f (fin false m e) (fin false n d) p q = record { sign = false; mag = m * up e * down d; is = div-fin f false m e n d q; part = omega arith }

pub num_pos : (x : Float) → T (positive x) → 0 < num x
num_pos nan p = absurd p
num_pos (inf s) p = absurd p
num_pos (fin true m e) p = absurd p
num_pos (fin false m e) p = mul-pos (ltb→lt 0 m p) (up_pos e)

-- ---- zero, and the side of it on which a value lies

abbrev pub nought : Float
nought = fin false 0 (pos 0)

pub nonneg : (c : Float) → T (finite c) → T (le nought c) → under c ≡ 0
nonneg nan p h = refl
nonneg (inf s) p h = refl
nonneg (fin true m e) p h = let k = le→cross nought (fin true m e) tt tt h in omega arith
nonneg (fin false m e) p h = refl

pub nonpos : (c : Float) → T (finite c) → T (le c nought) → over c ≡ 0
nonpos nan p h = refl
nonpos (inf s) p h = refl
nonpos (fin true m e) p h = refl
nonpos (fin false m e) p h = let k = le→cross (fin false m e) nought tt tt h in omega arith

-- ---- the order of the exact results: a, b, c are (A - A') / x, (B - B') / y, (C - C') / z, with a ≤ b

module _ (A A' x B B' y C C' z : ℕ) (h : A * y + B' * x ≤ B * x + A' * y) where
  add-order : (A * z + C * x) * (y * z) + (B' * z + C' * y) * (x * z) ≤ (B * z + C * y) * (x * z) + (A' * z + C' * x) * (y * z)
  add-order =
      let k : (A * y + B' * x) * (z * z) ≤ (B * x + A' * y) * (z * z) = mul-le-mul_right (z * z) h in
      simp ring (omega (arith, simp ring at k))

  -- C' = 0
  mul-order : (A * C + A' * 0) * (y * z) + (B * 0 + B' * C) * (x * z) ≤ (B * C + B' * 0) * (x * z) + (A * 0 + A' * C) * (y * z)
  mul-order =
      let k : (A * y + B' * x) * (C * z) ≤ (B * x + A' * y) * (C * z) = mul-le-mul_right (C * z) h in
      simp ring (omega (arith, simp ring at k))

  -- C above 0
  div_order : A * z * (C * y) + B' * z * (C * x) ≤ B * z * (C * x) + A' * z * (C * y)
  div_order =
      let k : (A * y + B' * x) * (C * z) ≤ (B * x + A' * y) * (C * z) = mul-le-mul_right (C * z) h in
      simp ring (omega (arith, simp ring at k))

  -- c + a ≤ c + b
  add-order-right : (C * x + A * z) * (z * y) + (C' * y + B' * z) * (z * x) ≤ (C * y + B * z) * (z * x) + (C' * x + A' * z) * (z * y)
  add-order-right =
      let k : (A * y + B' * x) * (z * z) ≤ (B * x + A' * y) * (z * z) = mul-le-mul_right (z * z) h in
      simp ring (omega (arith, simp ring at k))

  -- c * a ≤ c * b for C' = 0
  mul-order-right : (C * A + 0 * A') * (z * y) + (C * B' + 0 * B) * (z * x) ≤ (C * B + 0 * B') * (z * x) + (C * A' + 0 * A) * (z * y)
  mul-order-right =
      let k : (A * y + B' * x) * (C * z) ≤ (B * x + A' * y) * (C * z) = mul-le-mul_right (C * z) h in
      simp ring (omega (arith, simp ring at k))

  -- c * b ≤ c * a for C = 0
  mul-order-right-neg : (0 * B + C' * B') * (z * x) + (0 * A' + C' * A) * (z * y) ≤ (0 * A + C' * A') * (z * y) + (0 * B' + C' * B) * (z * x)
  mul-order-right-neg =
      let k : (A * y + B' * x) * (C' * z) ≤ (B * x + A' * y) * (C' * z) = mul-le-mul_right (C' * z) h in
      simp ring (omega (arith, simp ring at k))

-- ---- the laws: a ≤ b, and c is fixed

module _ (f : Format) (a b c : Float) (p : T (finite a)) (q : T (finite b)) (h : T (le a b)) where
  ab : 0 < den a * den c
  ab = mul-pos (den_pos a) (den_pos c)

  bc : 0 < den b * den c
  bc = mul-pos (den_pos b) (den_pos c)

  ca : 0 < den c * den a
  ca = mul-pos (den_pos c) (den_pos a)

  cb : 0 < den c * den b
  cb = mul-pos (den_pos c) (den_pos b)

  k : Cross a b
  k = le→cross a b p q h

  pub add-mono-right : T (finite c) → T (le (add f c a) (add f c b))
  add-mono-right r = rounds-mono f (add f c a) (add f c b) (add-over c a) (add-under c a) (den c * den a) (add-over c b) (add-under c b) (den c * den b) ca cb (add_rounds f c a r p) (add_rounds f c b r q)
      (add-order-right (over a) (under a) (den a) (over b) (under b) (den b) (over c) (under c) (den c) k)

  pub sub-mono : T (finite c) → T (le (sub f a c) (sub f b c))
  sub-mono r = rounds-mono f (sub f a c) (sub f b c) (sub-over a c) (sub-under a c) (den a * den c) (sub-over b c) (sub-under b c) (den b * den c) ab bc (sub-rounds f a c p r) (sub-rounds f b c q r)
      (add-order (over a) (under a) (den a) (over b) (under b) (den b) (under c) (over c) (den c) k)

  pub mul_mono : T (finite c) → T (le nought c) → T (le (mul f a c) (mul f b c))
  mul_mono r s = rounds-mono f (mul f a c) (mul f b c) (mul-over a c) (mul-under a c) (den a * den c) (mul-over b c) (mul-under b c) (den b * den c) ab bc (mul-rounds f a c p r) (mul-rounds f b c q r)
      (rw (nonneg c r s) (mul-order (over a) (under a) (den a) (over b) (under b) (den b) (over c) (under c) (den c) k))

  pub mul-mono-right : T (finite c) → T (le nought c) → T (le (mul f c a) (mul f c b))
  mul-mono-right r s = rounds-mono f (mul f c a) (mul f c b) (mul-over c a) (mul-under c a) (den c * den a) (mul-over c b) (mul-under c b) (den c * den b) ca cb (mul-rounds f c a r p) (mul-rounds f c b r q)
      (rw (nonneg c r s) (mul-order-right (over a) (under a) (den a) (over b) (under b) (den b) (over c) (under c) (den c) k))

  pub mul-anti-right : T (finite c) → T (le c nought) → T (le (mul f c b) (mul f c a))
  mul-anti-right r s = rounds-mono f (mul f c b) (mul f c a) (mul-over c b) (mul-under c b) (den c * den b) (mul-over c a) (mul-under c a) (den c * den a) cb ca (mul-rounds f c b r q) (mul-rounds f c a r p)
      (rw (nonpos c r s) (mul-order-right-neg (over a) (under a) (den a) (over b) (under b) (den b) (over c) (under c) (den c) k))

  pub div_mono : T (positive c) → T (le (div f a c) (div f b c))
  div_mono r = rounds-mono f (div f a c) (div f b c) (over a * den c) (under a * den c) (num c * den a) (over b * den c) (under b * den c) (num c * den b) (mul-pos (num_pos c r) (den_pos a)) (mul-pos (num_pos c r) (den_pos b))
      (div-rounds f a c p r) (div-rounds f b c q r)
      (div_order (over a) (under a) (den a) (over b) (under b) (den b) (num c) (under c) (den c) k)
