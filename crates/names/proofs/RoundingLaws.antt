-- Rounding a fraction whose lowest digits are kept apart: (high * c + low) / (unit * c) goes by high and unit alone, and `low` breaks what would be a tie.
-- Assumes nothing.
use Prim.Native.Nat.{ℕ, zero, suc, ◌+◌, ◌-◌, ◌*◌, ◌/◌, ◌%◌, ◌^◌, ◌≤◌, ◌<◌, compare, Ordering}
use mathlib.Core.Path.{◌≡◌, refl, sym, ap, ap₂, ◌∙◌}
use mathlib.Core.Bool.{true, false, true≢false, false≢true}
use native.Mathlib.Nat.{suc-mul, add-mul, add_assoc, mul_assoc, mul_right_comm, mul-le-mul, mul-le-mul_right, mod-lt, div-add-mod', div-eq_of_lt, mod-eq_of_lt, pow-le-pow_right, two-pow-succ}
use native.Mathlib.Numerals.{add-one}
use native.Mathlib.Omega.{arith}
use borrow.Author.Tests.{le-leb, lt-leb, eq-eqb, ne_eqb}
use lib.Dec.{is_le, compare_is_eq}
use lib.Arith.{digits_lt, digits_div, digits_mod}
use lib.Pow.{pow-add, pow_pos, pow_mono}
use lib.Ieee.{nearest}
use lib.Ieee.Nearest.{closest}

-- ---- what `compare` gives

is_lt : (a b : ℕ) → a < b → compare a b ≡ Ordering.lt
is_lt a b h = go (compare a b) (le-leb a b (omega arith)) (ne_eqb a b (λ e. omega arith))
  where
    go : (o : Ordering) → is_le o ≡ true → compare_is_eq o ≡ false → o ≡ Ordering.lt
    go Ordering.lt p q = refl
    go Ordering.eq p q = absurd (true≢false q)
    go Ordering.gt p q = absurd (false≢true p)

is_eq : (a b : ℕ) → a ≡ b → compare a b ≡ Ordering.eq
is_eq a b h = go (compare a b) (eq-eqb a b h)
  where
    go : (o : Ordering) → compare_is_eq o ≡ true → o ≡ Ordering.eq
    go Ordering.lt q = absurd (false≢true q)
    go Ordering.eq q = refl
    go Ordering.gt q = absurd (false≢true q)

is_gt : (a b : ℕ) → b < a → compare a b ≡ Ordering.gt
is_gt a b h = go (compare a b) (lt-leb a b h)
  where
    go : (o : Ordering) → is_le o ≡ false → o ≡ Ordering.gt
    go Ordering.lt p = absurd (true≢false p)
    go Ordering.eq p = absurd (true≢false p)
    go Ordering.gt p = refl

-- ---- the whole part and the rest

module _ (high low unit c : ℕ) (few : low < c) (U : 0 < unit) where
  rest_lt : high % unit * c + low < unit * c
  rest_lt = digits_lt (mod-lt high U) few

  parts : high * c + low ≡ high / unit * (unit * c) + (high % unit * c + low)
  parts =
      ap (λ (n : ℕ). n * c + low) (sym (div-add-mod' high unit))
      ∙ ap (λ (n : ℕ). n + low) (add-mul (high / unit * unit) (high % unit) c ∙ ap (λ (n : ℕ). n + high % unit * c) (mul_assoc (high / unit) unit c))
      ∙ add_assoc (high / unit * (unit * c)) (high % unit * c) low

  split-closest : closest (high * c + low) (unit * c) ≡ nearest (high / unit) (compare ((high % unit * c + low) * 2) (unit * c))
  split-closest =
      ap₂ (λ (q r : ℕ). nearest q (compare (r * 2) (unit * c)))
      (ap (λ (n : ℕ). n / (unit * c)) parts ∙ digits_div (high / unit) rest_lt)
      (ap (λ (n : ℕ). n % (unit * c)) parts ∙ digits_mod (high / unit) rest_lt)

  -- a law for each answer, by half the unit
  module _ (half : ℕ) (two : unit ≡ half * 2) where
    wide : unit * c ≡ half * c * 2
    wide = ap (λ (n : ℕ). n * c) two ∙ mul_right_comm half 2 c

    round-down : high % unit < half → high / unit ≡ closest (high * c + low) (unit * c)
    round-down h =
        let k : suc (high % unit) * c ≤ half * c = mul-le-mul_right c h in
        let e : suc (high % unit) * c ≡ high % unit * c + c = suc-mul (high % unit) c in
        sym (split-closest ∙ ap (nearest (high / unit)) (is_lt ((high % unit * c + low) * 2) (unit * c) (omega (arith, wide))))

    round_up : half < high % unit → high / unit + 1 ≡ closest (high * c + low) (unit * c)
    round_up h =
        let k : suc half * c ≤ high % unit * c = mul-le-mul_right c h in
        let e : suc half * c ≡ half * c + c = suc-mul half c in
        add-one (high / unit)
        ∙ sym (split-closest ∙ ap (nearest (high / unit)) (is_gt ((high % unit * c + low) * 2) (unit * c) (omega (arith, wide))))

    round-up-low : high % unit ≡ half → 0 < low → high / unit + 1 ≡ closest (high * c + low) (unit * c)
    round-up-low h l =
        let k : high % unit * c ≡ half * c = ap (λ (n : ℕ). n * c) h in
        add-one (high / unit)
        ∙ sym (split-closest ∙ ap (nearest (high / unit)) (is_gt ((high % unit * c + low) * 2) (unit * c) (omega (arith, wide))))

    round-even : high % unit ≡ half → low ≡ 0 → high / unit + high / unit % 2 ≡ closest (high * c + low) (unit * c)
    round-even h l =
        let k : high % unit * c ≡ half * c = ap (λ (n : ℕ). n * c) h in
        sym (split-closest ∙ ap (nearest (high / unit)) (is_eq ((high % unit * c + low) * 2) (unit * c) (omega (arith, wide))))

    -- far below the unit
    round-none : high < half → 0 ≡ closest (high * c + low) (unit * c)
    round-none h =
        let below : high < unit = omega arith in
        sym (div-eq_of_lt below) ∙ round-down (omega (arith, mod-eq_of_lt below))

-- ---- the same where the unit is a power of two, a law for each answer of the code

halved : (k n : ℕ) → 1 ≤ k → n ≡ 2 ^ k → n ≡ n / 2 * 2
halved zero n h e = absurd (omega arith)
halved (suc k) n h e = omega (arith, two-pow-succ k)

module _ (high low shift : ℕ) (few : low < 2048) (one : 1 ≤ shift) where
  abbrev Rounded : ℕ → Type 0
  Rounded n = n ≡ closest (high * 2048 + low) (2 ^ shift * 2048)

  -- from a shift of 64 on
  pub none : 63 < shift → high < 2 ^ 63 → Rounded 0
  none far small =
      let unit = 2 ^ shift in
      let two = halved shift unit one refl in
      let long : 2 ^ 64 ≤ unit = pow_mono far in
      round-none high low unit 2048 few (pow_pos shift) (unit / 2) two (omega arith)

  module _ (unit : ℕ) (is : unit ≡ 2 ^ shift) where
    pub unit-pos : 0 < unit
    unit-pos = rw is (pow_pos shift)

    two : unit ≡ unit / 2 * 2
    two = halved shift unit one is

    at-power : {n : ℕ} → n ≡ closest (high * 2048 + low) (unit * 2048) → Rounded n
    at-power e = e ∙ ap (λ (u : ℕ). closest (high * 2048 + low) (u * 2048)) is

    pub up : unit / 2 < high % unit → Rounded (high / unit + 1)
    up h = at-power (round_up high low unit 2048 few unit-pos (unit / 2) two h)

    module _ (tie : high % unit ≡ unit / 2) where
      pub up-by-low : 0 < low → Rounded (high / unit + 1)
      up-by-low h = at-power (round-up-low high low unit 2048 few unit-pos (unit / 2) two tie h)

      pub even : low ≡ 0 → Rounded (high / unit + high / unit % 2)
      even h = at-power (round-even high low unit 2048 few unit-pos (unit / 2) two tie h)

-- ---- 10 ^ k digits more: the product, with its 11 lowest bits apart

pub ten-le : (k : ℕ) → k ≤ 6 → 10 ^ k ≤ 1000000
ten-le k h = pow-le-pow_right (omega arith) h

module _ (digits ten : ℕ) (few : digits < 2 ^ 53) (small : ten ≤ 1000000) where
  pub low-lt : digits % 2048 * ten ≤ 2047 * 1000000
  low-lt =
      let h : digits % 2048 ≤ 2047 = omega arith in
      mul-le-mul h small

  pub high_lt : digits / 2048 * ten ≤ 4398046511103 * 1000000
  high_lt =
      let h : digits / 2048 ≤ 4398046511103 = omega arith in
      mul-le-mul h small

  pub product : (digits / 2048 * ten + digits % 2048 * ten / 2048) * 2048 + digits % 2048 * ten % 2048 ≡ digits * ten
  product =
      let low = digits % 2048 * ten in
      add-mul-lines (digits / 2048 * ten) (low / 2048) (low % 2048)
      ∙ ap (λ (n : ℕ). digits / 2048 * ten * 2048 + n) (div-add-mod' low 2048)
      ∙ ap (λ (n : ℕ). n + low) (mul_right_comm (digits / 2048) ten 2048)
      ∙ sym (add-mul (digits / 2048 * 2048) (digits % 2048) ten)
      ∙ ap (λ (n : ℕ). n * ten) (div-add-mod' digits 2048)
    where
      add-mul-lines : (a b c : ℕ) → (a + b) * 2048 + c ≡ a * 2048 + (b * 2048 + c)
      add-mul-lines a b c = omega arith

pub shift-parts : (shift : ℕ) → 12 ≤ shift → 2 ^ (shift - 11) * 2048 ≡ 2 ^ shift
shift-parts shift h = sym (pow-add 2 (shift - 11) 11) ∙ ap (λ (n : ℕ). 2 ^ n) (omega arith)
