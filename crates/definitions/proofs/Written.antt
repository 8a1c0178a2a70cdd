-- Answers that are alike are written as one entry, and only these; an answer is alike to what is written for it. Assumes nothing.
use mathlib.Core.Path.{◌≡◌, refl, sym, ap, ap₂, ◌∙◌, subst}
use mathlib.Core.Logic.{⊎_elim}
use mathlib.Core.Bool.{Bool, true, false, not, ◌&&◌, ◌||◌, cond}
use Prim.Native.Nat.{ℕ}
use native.Mathlib.Nat.{zero-mul}
use lib.Dec.{T, eqb, eqb→eq}
use lib.Ieee.{Float, nan, inf, fin, binary64, up, down, fits, is_nan, neg, eq}
use Rattle.gf.specs.Doubles.{key, 0·0}
use Rattle.gf.proofs.KeyLaws.{key→eq, eq→key, eq_is, is_zero, same-or-zeros}
use Rattle.definitions.specs.ClipSet.{mark_value}
use Rattle.definitions.specs.declared.Answer.{Answer}
use Rattle.definitions.specs.declared.Answer.TheVariants.{Value, Blocked, Absent}
use Rattle.definitions.specs.Track.{mark_of, slot_of, Entry, entry_of, alike, zero_as_plus, written_entry}

-- the smallest example: -0.0 and 0.0 are alike, and both are written 0.0
zeros-alike : alike (entry_of (Value (neg 0·0))) (entry_of (Value 0·0)) ≡ true
unfolding alike entry_of neg eq
zeros-alike = refl

zeros-written : (written_entry (Value (neg 0·0)) ≡ entry_of (Value 0·0)) × (written_entry (Value 0·0) ≡ entry_of (Value 0·0))
unfolding written_entry entry_of neg eq
zeros-written = (refl, refl)

-- a number, or none: an answer that is a value is no NaN
abbrev pub Numeric : Answer → Type 0
Numeric (Value v) = T (fits binary64 v) × T (not (is_nan v))
Numeric Blocked = Unit {0}
Numeric Absent = Unit {0}

-- ---- zero as 0.0

abbrev Number : Float → Type 0
Number x = Numeric (Value x)

pub zero_number : Numeric (Value 0·0)
unfolding fits is_nan
zero_number = (tt, tt)

zero-equals : (x : Float) → T (is_zero x) → T (eq x 0·0)
unfolding eq
zero-equals nan z = absurd z
zero-equals (inf s) z = absurd z
zero-equals (fin s m e) z = subst (λ (k : ℕ). T (eq (fin s k e) 0·0)) (sym (eqb→eq m 0 z)) (go s)
  where
    go : (b : Bool) → T (eq (fin b 0 e) 0·0)
    go true = rw (zero-mul (up e), zero-mul (down e)) tt
    go false = rw (zero-mul (up e), zero-mul (down e)) tt

module _ (x : Float) (n : Number x) where
  equals_itself : T (eq x x)
  equals_itself = key→eq x x n.0 n.0 n.1 n.1 refl

  plus-number : Number (zero_as_plus x)
  plus-number = go (eq x 0·0)
    where
      go : (b : Bool) → Number (cond b 0·0 x)
      go true = zero_number
      go false = n

  plus-key : key (zero_as_plus x) ≡ key x
  plus-key = go (eq x 0·0) refl
    where
      go : (b : Bool) → eq x 0·0 ≡ b → key (cond b 0·0 x) ≡ key x
      go true e = sym (eq→key x 0·0 n.0 zero_number.0 n.1 zero_number.1 (subst T (sym e) tt))
      go false e = refl

module _ (x y : Float) (n : Number x) (m : Number y) where
  -- equal numbers are written as one
  plus_one : T (eq x y) → zero_as_plus x ≡ zero_as_plus y
  plus_one h = ⊎_elim (ap zero_as_plus) zeros (same-or-zeros binary64 x y n.0 m.0 h)
    where
      as-zero : (z : Float) → T (eq z 0·0) → zero_as_plus z ≡ 0·0
      as-zero z e = go (eq z 0·0) e
        where
          go : (b : Bool) → T b → cond b 0·0 z ≡ 0·0
          go true t = refl
          go false t = absurd t

      zeros : T (is_zero x) × T (is_zero y) → zero_as_plus x ≡ zero_as_plus y
      zeros (a, b) = as-zero x (zero-equals x a) ∙ sym (as-zero y (zero-equals y b))

  -- the test finds the same of numbers as they are written, of both or of the first
  both_equal : eq (zero_as_plus x) (zero_as_plus y) ≡ eq x y
  both_equal =
      let a = plus-number x n in
      let b = plus-number y m in
      eq_is (zero_as_plus x) (zero_as_plus y) a.0 b.0 a.1 b.1 ∙ ap₂ eqb (plus-key x n) (plus-key y m) ∙ sym (eq_is x y n.0 m.0 n.1 m.1)

  first-equal : eq (zero_as_plus x) y ≡ eq x y
  first-equal =
      let a = plus-number x n in
      eq_is (zero_as_plus x) y a.0 m.0 a.1 m.1 ∙ ap (λ (k : ℕ). eqb k (key y)) (plus-key x n) ∙ sym (eq_is x y n.0 m.0 n.1 m.1)

-- ---- answers

slot-number : (a : Answer) → Numeric a → Number (slot_of a)
slot-number (Value v) n = n
slot-number Blocked n = zero_number
slot-number Absent n = zero_number

pub alike_self : (a : Answer) → Numeric a → T (alike (entry_of a) (entry_of a))
unfolding alike entry_of
alike_self (Value v) n = equals_itself v n
alike_self Blocked n = tt
alike_self Absent n = tt

-- alike answers are written as one entry
pub alike-one : (a b : Answer) → Numeric a → Numeric b → T (alike (entry_of a) (entry_of b)) → written_entry a ≡ written_entry b
unfolding alike entry_of written_entry
alike-one (Value v) (Value w) n m h = ap (λ (x : Float). record { value = x; mark = 0 }) (plus_one v w n m h)
alike-one (Value v) Blocked n m h = absurd h
alike-one (Value v) Absent n m h = absurd h
alike-one Blocked (Value w) n m h = absurd h
alike-one Blocked Blocked n m h = refl
alike-one Blocked Absent n m h = absurd h
alike-one Absent (Value w) n m h = absurd h
alike-one Absent Blocked n m h = absurd h
alike-one Absent Absent n m h = refl

module _ (a b : Answer) (n : Numeric a) (m : Numeric b) where
  abbrev by-numbers : Bool → Bool
  by-numbers equal = eqb (mark_of a) (mark_of b) && (not (eqb (mark_of a) mark_value) || equal)

  -- likeness can be told by what is written for both, or for the first
  both-written : alike (written_entry a) (written_entry b) ≡ alike (entry_of a) (entry_of b)
  unfolding alike entry_of written_entry
  both-written = ap by-numbers (both_equal (slot_of a) (slot_of b) (slot-number a n) (slot-number b m))

  first-written : alike (written_entry a) (entry_of b) ≡ alike (entry_of a) (entry_of b)
  unfolding alike entry_of written_entry
  first-written = ap by-numbers (first-equal (slot_of a) (slot_of b) (slot-number a n) (slot-number b m))

-- an entry as written is alike to itself, and to its answer
module _ (a : Answer) (n : Numeric a) where
  pub written-self : T (alike (written_entry a) (written_entry a))
  written-self = subst T (sym (both-written a a n n)) (alike_self a n)

  pub written-alike : T (alike (written_entry a) (entry_of a))
  written-alike = subst T (sym (first-written a a n n)) (alike_self a n)

module _ (a b : Answer) (n : Numeric a) (m : Numeric b) where
  -- only alike answers are written as one entry
  pub one_alike : written_entry a ≡ written_entry b → T (alike (entry_of a) (entry_of b))
  one_alike e = subst T (both-written a b n m) (subst (λ (x : Entry). T (alike (written_entry a) x)) e (written-self a n))

  -- the same of entries as they are written, both or the first
  pub written_one : T (alike (written_entry a) (written_entry b)) → written_entry a ≡ written_entry b
  written_one h = alike-one a b n m (subst T (both-written a b n m) h)

  pub reading-one : T (alike (written_entry a) (entry_of b)) → written_entry a ≡ written_entry b
  reading-one h = alike-one a b n m (subst T (first-written a b n m) h)
