-- Figures of the total order and of the keys. `figures`, `numbers`: true ones; `wrong`: false ones, each found false; `zeros-apart`: a promise that no key of both zeros keeps.
-- Assumes nothing.
use Rattle.std.proofs.Common.{◌≡◌, ℕ, Bool, true, false, not, ◌&&◌, eqb, ltb, List, [], ◌∷◌, map, pos, refl, arith, lit<, Less, Equal, Greater}
use lib.Ieee.{fin, binary64, to_bits, lt, eq}
use Rattle.gf.specs.TotalOrder.{smaller, before, order_of, key_of, PlacedBy}

abbrev all_behind : (ℕ → ℕ → Bool) → ℕ → List ℕ → Bool
all_behind test a [] = true
all_behind test a (b ∷ l) = test a b && not (test b a) && all_behind test a l

-- each is before every later one, and no later one is before it
abbrev in_aRow : (ℕ → ℕ → Bool) → List ℕ → Bool
in_aRow test [] = true
in_aRow test (a ∷ l) = all_behind test a l && in_aRow test l

-- NaNs with a set sign, by falling payload; -∞, -1.0, -0.0; 0.0, the least number above it, 1.0, ∞; NaNs with a clear sign, by rising payload
patterns : List ℕ
patterns =
    0xffff_ffff_ffff_ffff
    ∷ 0xfff8_0000_0000_0001
    ∷ 0xfff8_0000_0000_0000
    ∷ 0xfff0_0000_0000_0001
    ∷ 0xfff0_0000_0000_0000
    ∷ 0xbff0_0000_0000_0000
    ∷ 0x8000_0000_0000_0000
    ∷ 0
    ∷ 1
    ∷ 0x3ff0_0000_0000_0000
    ∷ 0x7ff0_0000_0000_0000
    ∷ 0x7ff0_0000_0000_0001
    ∷ 0x7ff8_0000_0000_0000
    ∷ 0x7fff_ffff_ffff_ffff
    ∷ []

figures : (in_aRow before patterns ≡ true)
    × (in_aRow ltb (map key_of patterns) ≡ true)
    -- the first key, those of the two zeros, the last
    × (key_of 0xffff_ffff_ffff_ffff ≡ 0)
    × (key_of 0x8000_0000_0000_0000 ≡ 0x7fff_ffff_ffff_ffff)
    × (key_of 0 ≡ 0x8000_0000_0000_0000)
    × (key_of 0x7fff_ffff_ffff_ffff ≡ 0xffff_ffff_ffff_ffff)
    -- NaNs that differ in the last digit of the payload, with a set sign and with a clear one
    × (order_of 0xfff8_0000_0000_0001 0xfff8_0000_0000_0000 ≡ Less)
    × (order_of 0x7ff8_0000_0000_0001 0x7ff8_0000_0000_0000 ≡ Greater)
    × (order_of 0x7ff8_0000_0000_0001 0x7ff8_0000_0000_0001 ≡ Equal)
unfolding patterns smaller before order_of
figures = (refl, refl, refl, refl, refl, refl, refl, refl, refl)

-- the zeros are equal as numbers, and neither is a NaN
numbers : (lt (fin true 0 (pos 0)) (fin false 0 (pos 0)) ≡ false)
    × (eq (fin true 0 (pos 0)) (fin false 0 (pos 0)) ≡ true)
    × (before (to_bits binary64 (fin true 0 (pos 0))) (to_bits binary64 (fin false 0 (pos 0))) ≡ true)
unfolding lt eq to_bits before
numbers = (refl, refl, refl)

-- 0.0 before -0.0; -1.0 before -2.0, as their patterns are; a NaN with a set sign behind ∞; the zeros of one key
wrong : (before 0 0x8000_0000_0000_0000 ≡ false)
    × (before 0xbff0_0000_0000_0000 0xc000_0000_0000_0000 ≡ false)
    × (before 0x7ff0_0000_0000_0000 0xfff8_0000_0000_0000 ≡ false)
    × (eqb (key_of 0) (key_of 0x8000_0000_0000_0000) ≡ false)
unfolding smaller before
wrong = (refl, refl, refl, refl)

-- the key of 0.0 is not placed as -0.0 is
zeros-apart : PlacedBy 0x8000_0000_0000_0000 (key_of 0) → ⊥
unfolding before
zeros-apart p = let e : false ≡ true = p.below 0 (lit< tt) in let z : ◌≡◌ {A = ℕ} 0 1 = cc in omega arith
