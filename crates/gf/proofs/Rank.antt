-- The bit pattern of a value without its sign, its `rank`, has the order of the sizes: of two finite values that fit, the larger in size has the larger rank, and an infinity has the largest.
-- Assumes nothing.
use Rattle.std.proofs.Common.{◌≡◌, ℕ, zero, suc, ◌+◌, ◌-◌, ◌*◌, ◌/◌, ◌%◌, ◌^◌, ◌<◌, ◌≤◌, Bool, true, false, cond, not, T, ltb, ℤ, pos, sym, refl, ap, ◌∙◌, subst, inl, inr, zero-le, le_trans, le_of_eq, lt_of_le_of_lt, le_of_lt, add_assoc, lt_irrefl, mul-le-mul_right, mod-eq_of_lt, zero-lt-suc, suc-mul, le_antisymm, eq-or-lt_of_le, mul-pos, le-div_iff_mul-le, zero-add, zero-mul, mul_right_comm, arith, nltb→le, pow_pos, pow-add}
use native.Mathlib.Nat.{zero-sub, zero-div, pow-succ'}
use lib.Arith.{lt_of_le-ne}
use lib.Pow.{shr_mono}
use lib.Ieee.{Float, nan, inf, fin, Format, prec, low, up, down, size, fits, is_nan, hid, ones, top, to_bits}
use lib.Ieee.Digits.{size-lt, size-le, size_reaches}
use lib.Ieee.Fits.{two, two-le_pos, down_pos, up_pos, kept-lt, inf-fits}
use lib.Ieee.Nearest.{div_mono}
use lib.Ieee.Positive.{num, den}
use lib.Ieee.Bits.{to_bits-lt, of_bits-to_bits, nan_bits_is, nan_bits_above}
use Rattle.gf.proofs.Units.{unit, same_bits}

-- ---- the pattern of a size of n smallest values grows with n

abbrev pub code : Format → ℕ → ℕ
code f n = (size n - prec f) * hid f + n / 2 ^ (size n - prec f)

size_mono : (a b : ℕ) → a ≤ b → size a ≤ size b
size_mono a b h = size-le a (size b) (lt_of_le_of_lt h (size-lt b))

fewer : (x y p : ℕ) → x ≤ y → x - p ≤ y - p
fewer x y p h = omega arith

in_use : (z p k : ℕ) → 0 < p → k < z - p → p - 1 + (z - p) < z
in_use z p k P h = omega arith

suc-pred : (p : ℕ) → 0 < p → suc (p - 1) ≡ p
suc-pred p h = omega arith

-- the leading digit is kept where digits are dropped
lead : (p n : ℕ) → 0 < p → (k : ℕ) → k < size n - p → 2 ^ (p - 1) ≤ n / 2 ^ (size n - p)
lead p n P k h =
    (le-div_iff_mul-le (pow_pos (size n - p))).1
    (le_trans (le_of_eq (sym (pow-add 2 (p - 1) (size n - p)))) (size_reaches n (p - 1 + (size n - p)) (in_use (size n) p k P h)))

twice : (p : ℕ) → 0 < p → 2 ^ p ≡ 2 * 2 ^ (p - 1)
twice p h = ap (λ (x : ℕ). 2 ^ x) (sym (suc-pred p h)) ∙ pow-succ' 2 (p - 1)

-- j * h and k * h stand as J and K, so that `omega` sees plain numbers
step : (J K h q r w : ℕ) → w ≡ 2 * h → J + h ≤ K → q < w → h ≤ r → J + q ≤ K + r
step J K h q r w e l a b = omega arith

beside : (K q r : ℕ) → q ≤ r → K + q ≤ K + r
beside K q r h = omega arith

pub code_mono : (f : Format) (a b : ℕ) → a ≤ b → code f a ≤ code f b
code_mono f a b h =
    let p = prec f in
    let P : 0 < p = two-le_pos p (two f) in
    let j = size a - p in
    let k = size b - p in
    elim (eq-or-lt_of_le (fewer (size a) (size b) p (size_mono a b h))) [
      | inl e ↦ subst (λ (x : ℕ). x * hid f + a / 2 ^ x ≤ code f b) (sym e) (beside (k * hid f) (a / 2 ^ k) (b / 2 ^ k) (shr_mono k h))
      | inr l ↦
          step (j * hid f) (k * hid f) (hid f) (a / 2 ^ j) (b / 2 ^ k) (2 ^ p) (twice p P)
          (le_trans (le_of_eq (sym (suc-mul j (hid f)))) (mul-le-mul_right (hid f) l))
          (kept-lt p a) (lead p b P j l)
    ]

-- ---- rank and sign

abbrev pub rank : Format → Float → ℕ
rank f nan = 0
rank f (inf s) = ones f * hid f
rank f (fin s m e) = code f (unit f (fin s m e))

abbrev pub sign : Float → Bool
sign nan = false
sign (inf s) = s
sign (fin s m e) = s

pub to_bits-rank : (f : Format) (x : Float) → T (not (is_nan x)) → to_bits f x ≡ cond (sign x) (top f) 0 + rank f x
unfolding to_bits is_nan
to_bits-rank f nan h = absurd h
to_bits-rank f (inf s) h = refl
to_bits-rank f (fin s m e) h =
    let u = unit f (fin s m e) in
    add_assoc (cond s (top f) 0) ((size u - prec f) * hid f) (u / 2 ^ (size u - prec f))

fin-no-nan : (s : Bool) (m : ℕ) (e : ℤ) → T (not (is_nan (fin s m e)))
unfolding is_nan
fin-no-nan s m e = tt

inf-no-nan : (s : Bool) → T (not (is_nan (inf s)))
unfolding is_nan
inf-no-nan s = tt

-- the sign does not turn on whether a value fits
pub any_sign : (f : Format) (s t : Bool) (m : ℕ) (e : ℤ) → T (fits f (fin s m e)) → T (fits f (fin t m e))
unfolding fits
any_sign f s t zero e h = h
any_sign f s t (suc m) e h = h

upper : (t r : ℕ) → t + r < 2 * t → r < t
upper t r h = omega arith

rank-lt-top : (f : Format) (s : Bool) (m : ℕ) (e : ℤ) → T (fits f (fin s m e)) → rank f (fin s m e) < top f
rank-lt-top f s m e h =
    upper (top f) (rank f (fin s m e))
    (subst (λ (x : ℕ). x < 2 * top f) (to_bits-rank f (fin true m e) (fin-no-nan true m e)) (to_bits-lt f (fin true m e) (any_sign f s true m e h)))

bits_of : (f : Format) (m : ℕ) (e : ℤ) → to_bits f (fin false m e) ≡ rank f (fin false m e)
bits_of f m e = to_bits-rank f (fin false m e) (fin-no-nan false m e) ∙ zero-add (rank f (fin false m e))

-- ---- a finite value ranks below the infinities

abbrev is_fin : Float → Bool
is_fin nan = false
is_fin (inf s) = false
is_fin (fin s m e) = true

ordinary : (f : Format) (m : ℕ) (e : ℤ) → T (fits f (fin false m e)) → T (not (ltb (ones f * hid f) (to_bits f (fin false m e) % top f)))
unfolding is_nan
ordinary f m e h =
    subst (λ (b : Bool). T (not b)) (sym (ap is_nan (of_bits-to_bits f (fin false m e) h)) ∙ sym (nan_bits_is f (to_bits f (fin false m e))) ∙ nan_bits_above f (to_bits f (fin false m e))) tt

pub rank-fin : (f : Format) (s : Bool) (m : ℕ) (e : ℤ) → T (fits f (fin s m e)) → rank f (fin s m e) < ones f * hid f
rank-fin f s m e h =
    let g = any_sign f s false m e h in
    let r = rank f (fin s m e) in
    let l : r ≤ ones f * hid f =
    subst (λ (x : ℕ). x ≤ ones f * hid f) (ap (λ (x : ℕ). x % top f) (bits_of f m e) ∙ mod-eq_of_lt (rank-lt-top f s m e h))
    (nltb→le (ones f * hid f) (to_bits f (fin false m e) % top f) (ordinary f m e g)) in
    lt_of_le-ne l (λ (w : r ≡ ones f * hid f).
    subst (λ (x : Float). T (is_fin x))
    (same_bits f (fin false m e) (inf false) g (inf-fits f false)
    (bits_of f m e ∙ w ∙ sym (to_bits-rank f (inf false) (inf-no-nan false) ∙ zero-add (ones f * hid f)))) tt)

-- ---- the order of ranks is that of sizes

module _ (f : Format) (s : Bool) (m : ℕ) (e : ℤ) (t : Bool) (n : ℕ) (d : ℤ) (p : T (fits f (fin s m e))) (q : T (fits f (fin t n d))) where
  pub size→rank : m * up e * down d ≤ n * up d * down e → rank f (fin s m e) ≤ rank f (fin t n d)
  size→rank h =
      code_mono f (unit f (fin s m e)) (unit f (fin t n d))
      (div_mono (m * up e * 2 ^ low f) (down e) (n * up d * 2 ^ low f) (down d) (down_pos e) (down_pos d)
      (le_trans (le_of_eq (mul_right_comm (m * up e) (2 ^ low f) (down d))) (le_trans (mul-le-mul_right (2 ^ low f) h) (le_of_eq (mul_right_comm (n * up d) (down e) (2 ^ low f))))))

  pub same_rank : rank f (fin s m e) ≡ rank f (fin t n d) → m * up e * down d ≡ n * up d * down e
  same_rank h =
      let w : fin false m e ≡ fin false n d = same_bits f (fin false m e) (fin false n d) (any_sign f s false m e p) (any_sign f t false n d q) (bits_of f m e ∙ h ∙ sym (bits_of f n d)) in
      ap (λ (x : Float). num x * down d) w ∙ ap (λ (x : Float). n * up d * den x) (sym w)

module _ (f : Format) (s : Bool) (m : ℕ) (e : ℤ) (t : Bool) (n : ℕ) (d : ℤ) (p : T (fits f (fin s m e))) (q : T (fits f (fin t n d))) where
  pub size→rank< : m * up e * down d < n * up d * down e → rank f (fin s m e) < rank f (fin t n d)
  size→rank< h =
      lt_of_le-ne (size→rank f s m e t n d p q (le_of_lt h))
      (λ (w : rank f (fin s m e) ≡ rank f (fin t n d)). lt_irrefl (n * up d * down e) (subst (λ (x : ℕ). x < n * up d * down e) (same_rank f s m e t n d p q w) h))

  pub size≡rank : m * up e * down d ≡ n * up d * down e → rank f (fin s m e) ≡ rank f (fin t n d)
  size≡rank h = le_antisymm (size→rank f s m e t n d p q (le_of_eq h)) (size→rank f t n d s m e q p (le_of_eq (sym h)))

-- ---- zeros have the rank 0, and nothing else has

size-zero : size 0 ≡ 0
unfolding size
size-zero = refl

code-zero : (f : Format) → code f 0 ≡ 0
code-zero f = ap (λ (x : ℕ). (x - prec f) * hid f + 0 / 2 ^ (x - prec f)) size-zero ∙ ap (λ (x : ℕ). x * hid f + 0 / 2 ^ x) (zero-sub (prec f)) ∙ ap (λ (x : ℕ). x + 0) (zero-mul (hid f))

pub rank-zero : (f : Format) (s : Bool) (m : ℕ) (e : ℤ) → m ≡ 0 → rank f (fin s m e) ≡ 0
rank-zero f s m e z =
    ap (code f) (ap (λ (x : ℕ). x * up e * 2 ^ low f / down e) z ∙ ap (λ (x : ℕ). x * 2 ^ low f / down e) (zero-mul (up e)) ∙ ap (λ (x : ℕ). x / down e) (zero-mul (2 ^ low f)) ∙ zero-div (down e)) ∙ code-zero f

nought-fits : (f : Format) → T (fits f (fin false 0 (pos 0)))
unfolding fits
nought-fits f = tt

pub rank-pos : (f : Format) (s : Bool) (m : ℕ) (e : ℤ) → T (fits f (fin s m e)) → 0 < m → 0 < rank f (fin s m e)
rank-pos f s m e h k =
    lt_of_le_of_lt zero-le
    (size→rank< f false 0 (pos 0) s m e (nought-fits f) h (subst (λ (x : ℕ). x < m * up e * 1) (sym (zero-mul (down e))) (mul-pos (mul-pos k (up_pos e)) (zero-lt-suc 0))))
