-- Digits read one after the other, of those that are left behind the first n. Assumes nothing.
use Rattle.std.proofs.Common.{◌≡◌, ℕ, zero, suc, ◌+◌, ◌-◌, ◌*◌, ◌<◌, ◌≤◌, Bool, true, false, cond, leb, List, [], ◌∷◌, length, get_or, take, drop, sym, refl, ap, ◌∙◌, add-one, arith, drop_of_length-le, drop-cons, le-leb}
use borrow.Author.Tests.{lt-leb}
use Rattle.std.specs.Prelude.{Option, Some, None}
use Rattle.cases.specs.declared.text.numbers.Read.{Read}
use Rattle.cases.specs.Numbers.{read_at, digit_of, decimals, hexes}

-- ---- one decimal digit more

module _ (bs : List ℕ) (v at n : ℕ) where
  abbrev digit : ℕ
  digit = digit_of (get_or bs n 0)

  abbrev next-decimal : Option (Read ℕ)
  next-decimal = decimals (v * 10 + digit) (suc (at + n)) (drop (suc n) bs)

  decimal-cases : n < length bs → decimals v (at + n) (drop n bs) ≡ cond (leb 10 digit) (Some (read_at v (at + n))) (cond (leb 18446744073709551616 (v * 10 + digit)) None next-decimal)
  unfolding decimals
  decimal-cases h = ap (decimals v (at + n)) (drop-cons bs n 0 h)

  pub decimal-stops : n < length bs → 10 ≤ digit → decimals v (at + n) (drop n bs) ≡ Some (read_at v (at + n))
  decimal-stops h k = decimal-cases h ∙ ap (λ (b : Bool). cond b (Some (read_at v (at + n))) (cond (leb 18446744073709551616 (v * 10 + digit)) None next-decimal)) (le-leb _ _ k)

  decimal-more : n < length bs → digit < 10 → decimals v (at + n) (drop n bs) ≡ cond (leb 18446744073709551616 (v * 10 + digit)) None next-decimal
  decimal-more h k = decimal-cases h ∙ ap (λ (b : Bool). cond b (Some (read_at v (at + n))) (cond (leb 18446744073709551616 (v * 10 + digit)) None next-decimal)) (lt-leb _ _ k)

  pub decimal-outgrows : n < length bs → digit < 10 → 18446744073709551616 ≤ v * 10 + digit → decimals v (at + n) (drop n bs) ≡ None
  decimal-outgrows h k g = decimal-more h k ∙ ap (λ (b : Bool). cond b None next-decimal) (le-leb _ _ g)

  pub decimal-goes : n < length bs → digit < 10 → v * 10 + digit < 18446744073709551616 → decimals v (at + n) (drop n bs) ≡ decimals (v * 10 + digit) (at + (n + 1)) (drop (n + 1) bs)
  decimal-goes h k g =
      let e : suc (at + n) ≡ at + (n + 1) = omega arith in
      decimal-more h k
      ∙ ap (λ (b : Bool). cond b None next-decimal) (lt-leb _ _ g)
      ∙ ap (λ (m : ℕ). decimals (v * 10 + digit) m (drop (suc n) bs)) e
      ∙ ap (λ (m : ℕ). decimals (v * 10 + digit) (at + (n + 1)) (drop m bs)) (sym (add-one n))

  pub decimal-ends : length bs ≤ n → decimals v (at + n) (drop n bs) ≡ Some (read_at v (at + n))
  unfolding decimals
  decimal-ends h = ap (decimals v (at + n)) (drop_of_length-le bs h)

pub ruleset decimals_on = (decimal-stops, decimal-outgrows, decimal-goes, decimal-ends)

-- ---- one hex digit more

module _ (bs : List ℕ) (v at n : ℕ) where
  abbrev hex : ℕ
  hex = digit_of (get_or bs n 0)

  abbrev left : ℕ
  left = length bs - (n + 1)

  abbrev next-hex : Option (Read ℕ)
  next-hex = hexes left (v * 16 + hex) (suc (at + n)) (drop (suc n) bs)

  hex-cases : n < length bs → hexes (length bs - n) v (at + n) (drop n bs) ≡ cond (leb 16 hex) None (cond (leb 18446744073709551616 (v * 16 + hex)) None next-hex)
  unfolding hexes
  hex-cases h =
      let e : length bs - n ≡ suc (length bs - (n + 1)) = omega arith in
      ap (λ (m : ℕ). hexes m v (at + n) (drop n bs)) e ∙ ap (hexes (suc (length bs - (n + 1))) v (at + n)) (drop-cons bs n 0 h)

  pub hex-stops : n < length bs → 16 ≤ hex → hexes (length bs - n) v (at + n) (drop n bs) ≡ None
  hex-stops h k = hex-cases h ∙ ap (λ (b : Bool). cond b None (cond (leb 18446744073709551616 (v * 16 + hex)) None next-hex)) (le-leb _ _ k)

  hex-more : n < length bs → hex < 16 → hexes (length bs - n) v (at + n) (drop n bs) ≡ cond (leb 18446744073709551616 (v * 16 + hex)) None next-hex
  hex-more h k = hex-cases h ∙ ap (λ (b : Bool). cond b None (cond (leb 18446744073709551616 (v * 16 + hex)) None next-hex)) (lt-leb _ _ k)

  pub hex-outgrows : n < length bs → hex < 16 → 18446744073709551616 ≤ v * 16 + hex → hexes (length bs - n) v (at + n) (drop n bs) ≡ None
  hex-outgrows h k g = hex-more h k ∙ ap (λ (b : Bool). cond b None next-hex) (le-leb _ _ g)

  pub hex-goes : n < length bs → hex < 16 → v * 16 + hex < 18446744073709551616 → hexes (length bs - n) v (at + n) (drop n bs) ≡ hexes (length bs - (n + 1)) (v * 16 + hex) (at + (n + 1)) (drop (n + 1) bs)
  hex-goes h k g =
      let e : suc (at + n) ≡ at + (n + 1) = omega arith in
      hex-more h k
      ∙ ap (λ (b : Bool). cond b None next-hex) (lt-leb _ _ g)
      ∙ ap (λ (m : ℕ). hexes left (v * 16 + hex) m (drop (suc n) bs)) e
      ∙ ap (λ (m : ℕ). hexes left (v * 16 + hex) (at + (n + 1)) (drop m bs)) (sym (add-one n))

  pub hex-ends : length bs ≤ n → hexes (length bs - n) v (at + n) (drop n bs) ≡ Some (read_at v (at + n))
  unfolding hexes
  hex-ends h = let none : length bs - n ≡ 0 = omega arith in ap (λ (m : ℕ). hexes m v (at + n) (drop n bs)) none

-- no other digits are looked at
pub hexes-take : (m v i : ℕ) (bs : List ℕ) → hexes m v i (take m bs) ≡ hexes m v i bs
unfolding hexes
hexes-take zero v i bs = refl
hexes-take (suc m) v i [] = refl
hexes-take (suc m) v i (b ∷ bs) =
    ap (λ (o : Option (Read ℕ)). cond (leb 16 (digit_of b)) None (cond (leb 18446744073709551616 (v * 16 + digit_of b)) None o)) (hexes-take m (v * 16 + digit_of b) (suc i) bs)

pub hex-short : (m v i : ℕ) (bs : List ℕ) → length bs < m → hexes m v i bs ≡ None
unfolding hexes
hex-short zero v i bs h = absurd (omega (arith, h))
hex-short (suc m) v i [] h = refl
hex-short (suc m) v i (b ∷ bs) h =
    go (leb 16 (digit_of b)) (leb 18446744073709551616 (v * 16 + digit_of b)) (hex-short m (v * 16 + digit_of b) (suc i) bs (omega (arith, h)))
  where
    go : (p q : Bool) → hexes m (v * 16 + digit_of b) (suc i) bs ≡ None → cond p None (cond q None (hexes m (v * 16 + digit_of b) (suc i) bs)) ≡ None
    go true q e = refl
    go false true e = refl
    go false false e = e

pub ruleset hexes_on = (hex-stops, hex-outgrows, hex-goes, hex-ends, hexes-take, hex-short)
