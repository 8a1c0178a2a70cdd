-- Laws that every way to a set cites, in this crate and in those that accept one. Assumes nothing.
use Prim.Native.Nat.{ℕ, zero, suc, ◌≤◌, ◌<◌}
use mathlib.Core.Path.{◌≡◌, refl, sym}
use mathlib.Core.Bool.{Bool, true, false, not, true≢false}
use mathlib.Core.List.{List, [], ◌∷◌, map}
use native.Mathlib.Omega.{arith}
use lib.Dec.{T}
use lib.ListN.{length, get_or, take}
use lib.Seq.{length-take-le}
use lib.Ieee.{Float, nan}
use Rattle.gf.specs.Doubles.{storable}
use Rattle.definitions.specs.Lists.{◌if◌else◌}
use Rattle.definitions.specs.ClipSet.{any_unstorable}
use Rattle.laws.proofs.list.Tests.{is_true}
use Rattle.laws.specs.list.Every.{Every}
use Rattle.laws.specs.list.Places.{Fits}

-- ---- tests and their answers

pub untrue : (r b : Bool) → r ≡ b → not r ≡ true → b ≡ false
untrue true b e n = absurd (true≢false (sym n))
untrue false b e n = sym e

pub holding : (r b : Bool) → r ≡ b → not r ≡ false → b ≡ true
holding true b e n = sym e
holding false b e n = absurd (true≢false n)

-- a chain of tests that gives a number gives it whatever stands at its end
pub same_number : (n : ℕ) (a : Bool) (x y : ℕ) → ((n if a else x) ≡ 0 → ⊥) → ((x ≡ 0 → ⊥) → x ≡ y) → (n if a else x) ≡ (n if a else y)
same_number n true x y h f = refl
same_number n false x y h f = f h

-- ---- lists

pub mapped_at : {A B : Type 0} (g : A → B) (l : List A) (i : ℕ) (a : A) (b : B) → i < length l → g (get_or l i a) ≡ get_or (map g l) i b
mapped_at g [] i a b h = absurd (omega arith)
mapped_at g (x ∷ l) zero a b h = refl
mapped_at g (x ∷ l) (suc i) a b h = mapped_at g l i a b (omega arith)

-- the front of an array, lent
pub lent : {A : Type 0} (most n : ℕ) (l : List A) → length l ≡ most → n ≤ most → length (take n l) ≡ n
lent most n l e h = length-take-le n l (omega arith)

-- what owning a list of doubles tells: the format holds each
pub all_fit : (xs : List Float) → ((i : ℕ) → Fits (get_or xs i nan)) → Every Fits xs
all_fit [] f = tt
all_fit (x ∷ xs) f = (f 0, all_fit xs (λ i. f (suc i)))

pub every-storable : (xs : List Float) → Every (λ (x : Float). T (storable x)) xs → any_unstorable xs ≡ false
every-storable [] e = refl
every-storable (x ∷ xs) e = rw (is_true (storable x) e.0) (every-storable xs e.1)
