-- docs/VALUE-CLIPS.md, "Doubles": "The total order is one of bit patterns, NaNs included", and the key, a number that is in this order. A pattern is a number
-- below 2^64: sign and payload of a NaN are in it, and cannot be had from a double.
-- Assumes nothing.
use Rattle.std.specs.Prelude.{◌≡◌, ℕ, ◌+◌, ◌-◌, ◌/◌, ◌%◌, ◌<◌, Bool, cond, ◌&&◌, ◌||◌, ◌==◌, nat_lt}
use Rattle.std.specs.declared.cmp.Ordering.{Ordering}
use Rattle.std.specs.declared.cmp.Ordering.TheVariants.{Less, Equal, Greater}

-- ---- the fields of a pattern

-- 1 if it is set
abbrev pub sign_of : ℕ → ℕ
sign_of b = b / 0x8000_0000_0000_0000

abbrev pub exponent_of : ℕ → ℕ
exponent_of b = b % 0x8000_0000_0000_0000 / 0x10_0000_0000_0000

-- of a NaN, the payload
abbrev pub fraction_of : ℕ → ℕ
fraction_of b = b % 0x10_0000_0000_0000

-- ---- the total order

-- Whichever the signs are, "the smaller exponent comes first, and of equal exponents the smaller fraction". An infinity has the greatest exponent and the
-- fraction 0, a NaN the same exponent and another fraction, so it is above the infinity.
unfoldable pub smaller : ℕ → ℕ → Bool
smaller a b = nat_lt (exponent_of a) (exponent_of b) || (exponent_of a == exponent_of b && nat_lt (fraction_of a) (fraction_of b))

-- "A set sign comes before a clear one", so that -0.0 is before 0.0; "among set signs it is the other way round". From the first to the last: the NaNs with a
-- set sign, the larger payload first, -∞, the negative numbers, -0.0, 0.0, the positive numbers, ∞, the NaNs with a clear sign, the smaller payload first.
unfoldable pub before : ℕ → ℕ → Bool
before a b = nat_lt (sign_of b) (sign_of a) || (sign_of a == sign_of b && cond (sign_of a == 0) (smaller a b) (smaller b a))

-- one of two patterns is before the other, or they are the same
unfoldable pub order_of : ℕ → ℕ → Ordering
order_of a b = cond (before a b) Less (cond (before b a) Greater Equal)

-- ---- the key

-- "2^63 + bits if its sign is clear, and 2^64 − 1 − bits if it is set"
abbrev pub key_of : ℕ → ℕ
key_of b = cond (nat_lt b 0x8000_0000_0000_0000) (0x8000_0000_0000_0000 + b) (0xffff_ffff_ffff_ffff - b)

-- "The key of a is below the key of b exactly if the total order places a before b", for all 2^64
abbrev pub KeysInOrder : Type 0
KeysInOrder = (a b : ℕ) → a < 0x1_0000_0000_0000_0000 → b < 0x1_0000_0000_0000_0000 → nat_lt (key_of a) (key_of b) ≡ before a b

-- "equal keys are those of equal patterns"
abbrev pub KeysApart : Type 0
KeysApart = (a b : ℕ) → a < 0x1_0000_0000_0000_0000 → b < 0x1_0000_0000_0000_0000 → key_of a ≡ key_of b → a ≡ b

-- ---- what the code promises

-- `k` stands among the keys of all patterns as `bits` stands among the patterns
pub record PlacedBy (bits k : ℕ) : Type 0 where
  pub below : (b : ℕ) → b < 0x1_0000_0000_0000_0000 → nat_lt k (key_of b) ≡ before bits b
  pub above : (b : ℕ) → b < 0x1_0000_0000_0000_0000 → nat_lt (key_of b) k ≡ before b bits

-- two patterns compared; they are the same for no two that differ
pub record Compared (a b : ℕ) (r : Ordering) : Type 0 where
  pub is : r ≡ order_of a b
  pub same : r ≡ Equal → a ≡ b
