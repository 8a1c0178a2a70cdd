-- Decimal digits: how many a number has, a tenth at a time, and writing them from the last one on. Assumes nothing.
use Prim.Native.Nat.{ℕ, zero, suc, ◌+◌, ◌*◌, ◌/◌, ◌%◌, ◌^◌, ◌≤◌, ◌<◌}
use mathlib.Core.Path.{◌≡◌, refl, sym, ap, ◌∙◌}
use mathlib.Core.Bool.{Bool, true, false, not}
use mathlib.Core.Logic.{◌⊎◌, inl, inr}
use mathlib.Core.List.{List, [], ◌∷◌}
use native.Mathlib.Nat.{pow-suc, one-le-pow}
use native.Mathlib.Omega.{arith}
use borrow.Author.Tests.{lt-ltb, le-ltb}
use lib.Dec.{T, leb, leb→le, nleb→lt}
use lib.ListN.{length, set, length-append}
use Rattle.definitions.specs.Names.{digits, digit0, places_by, places}
use Rattle.names.specs.Put.{put}
use Rattle.names.proofs.PutLaws.{put-set, put-before}

-- ---- how many digits

tenfold : (n : ℕ) → (10 ≤ n) ⊎ (n < 10)
tenfold n = go (leb 10 n) (leb→le 10 n) (nleb→lt 10 n)
  where
    go : (b : Bool) → (T b → 10 ≤ n) → (T (not b) → n < 10) → (10 ≤ n) ⊎ (n < 10)
    go true p q = inl (p tt)
    go false p q = inr (q tt)

places-small : (fuel n : ℕ) → n < 10 → places_by fuel n ≡ 1
unfolding places_by
places-small zero n h = refl
places-small (suc fuel) n h = rw (lt-ltb n 10 h)

places-big : (fuel n : ℕ) → 10 ≤ n → places_by (suc fuel) n ≡ suc (places_by fuel (n / 10))
unfolding places_by
places-big fuel n h = rw (le-ltb n 10 h)

-- more fuel than n changes nothing
places-fuel : (f g n : ℕ) → n ≤ f → n ≤ g → places_by f n ≡ places_by g n
places-fuel zero g n h k = places-small zero n (omega arith) ∙ sym (places-small g n (omega arith))
places-fuel (suc f) zero n h k = places-small (suc f) n (omega arith) ∙ sym (places-small zero n (omega arith))
places-fuel (suc f) (suc g) n h k = go (tenfold n) (places-fuel f g (n / 10) (omega arith) (omega arith))
  where
    go : (10 ≤ n) ⊎ (n < 10) → places_by f (n / 10) ≡ places_by g (n / 10) → places_by (suc f) n ≡ places_by (suc g) n
    go (inl b) e = places-big f n b ∙ ap suc e ∙ sym (places-big g n b)
    go (inr s) e = places-small (suc f) n s ∙ sym (places-small (suc g) n s)

pub places-one : (n : ℕ) → n < 10 → places n ≡ 1
unfolding places
places-one n h = places-small n n h

pub places-more : (n : ℕ) → 10 ≤ n → places n ≡ suc (places (n / 10))
unfolding places
places-more zero h = absurd (omega arith)
places-more (suc m) h = places-big m (suc m) h ∙ ap suc (places-fuel m (suc m / 10) (suc m / 10) (omega arith) (omega arith))

pub places-le : (k n : ℕ) → n < 10 ^ suc k → places n ≤ suc k
places-le zero n h = omega (arith, places-one n (omega arith))
places-le (suc k) n h = go (tenfold n) (places-le k (n / 10) (omega (arith, pow-suc 10 (suc k))))
  where
    go : (10 ≤ n) ⊎ (n < 10) → places (n / 10) ≤ suc k → places n ≤ suc (suc k)
    go (inl b) e = omega (arith, places-more n b)
    go (inr s) e = omega (arith, places-one n s)

-- by the powers of ten about it
pub places-between : (k n : ℕ) → 10 ^ k ≤ n → n < 10 * 10 ^ k → places n ≡ k + 1
places-between zero n lo hi = places-one n (omega arith)
places-between (suc k) n lo hi =
    let p = pow-suc 10 k in
    places-more n (omega (arith, one-le-pow k 10 (omega arith))) ∙ ap suc (places-between k (n / 10) (omega arith) (omega arith)) ∙ omega arith

-- ---- the digits

pub length_digits : (w n : ℕ) → length (digits w n) ≡ w
unfolding digits
length_digits zero n = refl
length_digits (suc w) n = omega (arith, length-append (digits w (n / 10)) ((digit0 + n % 10) ∷ []), length_digits w (n / 10))

-- the last digit stored, the others are left to be written
pub put-digit : (out : List ℕ) (at w n : ℕ) → at + suc w ≤ length out → put (set out (at + w) (digit0 + n % 10)) at (digits w (n / 10)) ≡ put out at (digits (suc w) n)
unfolding digits
put-digit out at w n room =
    let rest = digits w (n / 10) in
    let d = digit0 + n % 10 in
    let e : at + w ≡ at + length rest = ap (λ (k : ℕ). at + k) (sym (length_digits w (n / 10))) in
    ap (λ (l : List ℕ). put l at rest) (put-set out (at + w) d (omega arith) ∙ ap (λ (k : ℕ). put out k (d ∷ [])) e)
    ∙ put-before out at rest (d ∷ []) (omega (arith, e))
