-- Doubles that a set may hold, the two orders on them, and what the tests of a refusal say of a list of them. Assumes nothing.
use mathlib.Core.Path.{◌≡◌, refl, ap, subst}
use Prim.Native.Nat.{ℕ, zero, suc, ◌+◌, ◌-◌, ◌%◌, ◌≤◌, ◌<◌}
use native.Mathlib.Nat.{not-suc-le-zero, le_of_suc-le-suc}
use native.Mathlib.Omega.{arith}
use mathlib.Core.Bool.{Bool, true, false, not, ◌||◌, cond}
use mathlib.Core.List.{List, [], ◌∷◌}
use lib.Dec.{T, ltb}
use lib.ListN.{length, get_or}
use lib.Ieee.{Float, binary64, is_nan, to_bits, lt, le, eq}
use borrow.Author.Tests.{ltb-true, ltb-false}
use Rattle.gf.specs.Doubles.{key, storable, total_key}
use Rattle.gf.proofs.KeyLaws.{bits-lt, key→le, lt→le, finite-no-nan}
use Rattle.gf.proofs.Exactly.{within-finite}
use Rattle.definitions.specs.Lists.{pairs}
use Rattle.definitions.specs.Doubles.{FiniteDouble, ascending, two_equal}
use Rattle.definitions.specs.ClipSet.{any_unstorable}
use Rattle.laws.specs.list.Every.{Every, Chain}
use Rattle.laws.proofs.list.Every.{every_map, every-both, any-every, any-not-every, all-every, chain-map, chain-both, pairs-chain}
use Rattle.laws.specs.list.Places.{Fits, Le, Ascending}
use Rattle.laws.specs.set.Stored.{Stored, Lt}

pub stored-finite : (x : Float) → Stored x → FiniteDouble x
stored-finite x s = record { fitting = s.fitting; finitely = within-finite 40 x s.inside }

pub stored-number : (x : Float) → Stored x → T (not (is_nan x))
stored-number x s = finite-no-nan x (within-finite 40 x s.inside)

pub all-stored : (xs : List Float) → Every Fits xs → any_unstorable xs ≡ false → Every Stored xs
all-stored xs f e =
    every_map (λ (x : Float). Fits x × T (storable x)) Stored (λ x h. record { fitting = h.0; inside = h.1 }) xs
    (every-both Fits (λ (x : Float). T (storable x)) xs f (any-not-every storable xs e))

-- what a search over stored times asks
pub stored-ascending : (xs : List Float) → Every Stored xs → Chain Le xs → Ascending xs
stored-ascending xs s c = record { numbers = every_map Stored FiniteDouble stored-finite xs s; order = c }

pub strict-weak : (xs : List Float) → Every Stored xs → Chain Lt xs → Chain Le xs
strict-weak xs s c = chain-map Stored Lt Le (λ x y p q h. lt→le x y h) xs s c

-- ---- the order of `total_cmp` is finer than the numeric one

total-key : (a b : ℕ) → a < 0x1_0000_0000_0000_0000 → b < 0x1_0000_0000_0000_0000 → (p q : Bool) → ltb a 0x8000_0000_0000_0000 ≡ p → ltb b 0x8000_0000_0000_0000 ≡ q
    → cond p (0x8000_0000_0000_0000 + a) (0xffff_ffff_ffff_ffff - a) ≤ cond q (0x8000_0000_0000_0000 + b) (0xffff_ffff_ffff_ffff - b)
    → cond p (0x8000_0000_0000_0000 + a) (0x8000_0000_0000_0000 - a % 0x8000_0000_0000_0000) ≤ cond q (0x8000_0000_0000_0000 + b) (0x8000_0000_0000_0000 - b % 0x8000_0000_0000_0000)
total-key a b la lb true true p q h = h
total-key a b la lb true false p q h = let i = ltb-true a 0x8000_0000_0000_0000 p in let j = ltb-false b 0x8000_0000_0000_0000 q in omega arith
total-key a b la lb false true p q h = let i = ltb-false a 0x8000_0000_0000_0000 p in let j = ltb-true b 0x8000_0000_0000_0000 q in omega arith
total-key a b la lb false false p q h = let i = ltb-false a 0x8000_0000_0000_0000 p in let j = ltb-false b 0x8000_0000_0000_0000 q in omega arith

pub total→key : (x y : Float) → Fits x → Fits y → total_key x ≤ total_key y → key x ≤ key y
unfolding total_key key
total→key x y p q h = total-key (to_bits binary64 x) (to_bits binary64 y) (bits-lt x p) (bits-lt y q) (ltb (to_bits binary64 x) 0x8000_0000_0000_0000) (ltb (to_bits binary64 y) 0x8000_0000_0000_0000) refl refl h

pub total→le : (x y : Float) → Stored x → Stored y → total_key x ≤ total_key y → Le x y
total→le x y p q h = key→le x y p.fitting q.fitting (stored-number x p) (stored-number y q) (total→key x y p.fitting q.fitting h)

-- ---- neighbours

le-lt : (x y : Float) → Le x y → eq x y ≡ false → Lt x y
unfolding le
le-lt x y h e = go (lt x y) (eq x y) h e
  where
    go : (a b : Bool) → T (a || b) → b ≡ false → T a
    go true b h e = tt
    go false b h e = subst T e h

-- no two equal neighbours: weakly ascending is strictly
pub apart-strict : (xs : List Float) → Every Stored xs → Chain Le xs → two_equal xs ≡ false → Chain Lt xs
apart-strict xs s c e =
    chain-map Stored (λ (a b : Float). Le a b × (eq a b ≡ false)) Lt (λ x y p q h. le-lt x y h.0 h.1) xs s
    (chain-both Le (λ (a b : Float). eq a b ≡ false) xs c
    (pairs-chain (λ (p : Float × Float). eq p.0 p.1 ≡ false) xs (any-every (λ (p : Float × Float). eq p.0 p.1) (pairs xs) e)))

pub ascending-strict : (xs : List Float) → T (ascending xs) → Chain Lt xs
ascending-strict xs h = pairs-chain (λ (p : Float × Float). T (lt p.0 p.1)) xs (all-every (λ (p : Float × Float). lt p.0 p.1) (pairs xs) h)

-- the pairs of neighbours by their places
module _ {A : Type 0} where
  pub length_pairs : (x : A) (xs : List A) → length (pairs (x ∷ xs)) ≡ length xs
  length_pairs x [] = refl
  length_pairs x (y ∷ ys) = ap suc (length_pairs y ys)

  pub pairs-at : (xs : List A) (i : ℕ) (d : A) → suc i < length xs → get_or (pairs xs) i (d, d) ≡ (get_or xs i d, get_or xs (suc i) d)
  pairs-at [] i d h = absurd (not-suc-le-zero h)
  pairs-at (x ∷ []) i d h = absurd (not-suc-le-zero (le_of_suc-le-suc h))
  pairs-at (x ∷ y ∷ ys) zero d h = refl
  pairs-at (x ∷ y ∷ ys) (suc i) d h = pairs-at (y ∷ ys) i d (le_of_suc-le-suc h)
