-- On doubles that are no NaN the total order of their patterns is the numeric one, with -0.0 before 0.0. Assumes nothing.
use Rattle.std.proofs.Common.{◌≡◌, ℕ, ◌+◌, ◌-◌, ◌<◌, ◌≤◌, Bool, true, false, cond, not, ◌&&◌, ◌||◌, T, eqb, ltb, ◌⊎◌, sym, refl, ap, ◌∙◌, inl, inr, eq-or-lt_of_le, arith, eqb→eq, ltb→lt, lt→ltb, le-ltb, lt-ltb}
use lib.Ieee.{Float, nan, inf, fin, binary64, to_bits, fits, is_nan}
use lib.Ieee.Fits.{and_l, and_r, and_i, eq→eqb}
use Rattle.gf.specs.TotalOrder.{key_of}
use Rattle.gf.specs.Doubles.{sign_bit, OrderOfNumbers}
use Rattle.gf.proofs.Rank.{rank, sign, to_bits-rank}
use Rattle.gf.proofs.SignCleared.{rank-small}
use Rattle.gf.proofs.KeyLaws.{spot, key-at, bits-lt, lt-is, eq_is, same_test, or_l, or_r, or_split}
use Rattle.gf.proofs.TotalOrderLaws.{in_order}

-- ---- a sign and a rank: the key of the total order, beside that of the neighbours

abbrev place : Bool → ℕ → ℕ
place true r = 0x7fff_ffff_ffff_ffff - r
place false r = 0x8000_0000_0000_0000 + r

abbrev near : Bool → ℕ → ℕ
near s r = spot 0x8000_0000_0000_0000 s r

key-place : (s : Bool) (r : ℕ) → r < 0x8000_0000_0000_0000 → key_of (cond s 0x8000_0000_0000_0000 0 + r) ≡ place s r
key-place true r h = rw (le-ltb (0x8000_0000_0000_0000 + r) 0x8000_0000_0000_0000 (omega arith)) (omega arith)
key-place false r h = rw (lt-ltb (0 + r) 0x8000_0000_0000_0000 (omega arith)) (omega arith)

-- ---- a number is below another, or it is equal and its sign alone is set

abbrev First : ℕ → ℕ → Bool → Bool → Type 0
First i j s t = (i < j) ⊎ ((i ≡ j) × (T s × T (not t)))

first→test : (i j : ℕ) (s t : Bool) → First i j s t → T (ltb i j || (eqb i j && s && not t))
first→test i j s t h = elim h [
  | inl l ↦ or_l (ltb i j) (eqb i j && s && not t) (lt→ltb i j l)
  | inr e ↦ or_r (ltb i j) (eqb i j && s && not t) (and_i (eqb i j && s) (not t) (and_i (eqb i j) s (eq→eqb e.0) e.1.0) e.1.1)
]

test→first : (i j : ℕ) (s t : Bool) → T (ltb i j || (eqb i j && s && not t)) → First i j s t
test→first i j s t h = elim (or_split (ltb i j) (eqb i j && s && not t) h) [
  | inl l ↦ inl (ltb→lt i j l)
  | inr e ↦
      let both = and_l (eqb i j && s) (not t) e in
      inr (eqb→eq i j (and_l (eqb i j) s both), (and_r (eqb i j) s both, and_r (eqb i j && s) (not t) e))
]

module _ (m n : ℕ) (h : m < 0x8000_0000_0000_0000) (g : n < 0x8000_0000_0000_0000) where
  place→first : (s t : Bool) → place s m < place t n → First (near s m) (near t n) s t
  place→first true true l = inl (omega arith)
  place→first true false l = elim (eq-or-lt_of_le (at_most m n)) [ inl e ↦ inr (e, (tt, tt)) | inr k ↦ inl k ]
    where
      at_most : (m n : ℕ) → near true m ≤ near false n
      at_most m n = omega arith
  place→first false true l = inl (omega arith)
  place→first false false l = inl (omega arith)

  first→place : (s t : Bool) → First (near s m) (near t n) s t → place s m < place t n
  first→place true true (inl l) = omega arith
  first→place true true (inr e) = absurd e.1.1
  first→place true false f = omega arith
  first→place false true (inl l) = omega arith
  first→place false true (inr e) = absurd e.1.0
  first→place false false (inl l) = omega arith
  first→place false false (inr e) = absurd e.1.0

  places : (s t : Bool) → ltb (place s m) (place t n) ≡ (ltb (near s m) (near t n) || (eqb (near s m) (near t n) && s && not t))
  places s t =
      same_test (ltb (place s m) (place t n)) (ltb (near s m) (near t n) || (eqb (near s m) (near t n) && s && not t))
      (λ l. first→test (near s m) (near t n) s t (place→first s t (ltb→lt (place s m) (place t n) l)))
      (λ l. lt→ltb (place s m) (place t n) (first→place s t (test→first (near s m) (near t n) s t l)))

-- ---- of two doubles

sign-bit : (x : Float) → sign_bit x ≡ sign x
unfolding sign_bit
sign-bit nan = refl
sign-bit (inf s) = refl
sign-bit (fin s m e) = refl

key-is : (x : Float) → T (fits binary64 x) → T (not (is_nan x)) → key_of (to_bits binary64 x) ≡ place (sign x) (rank binary64 x)
key-is x p u = ap key_of (to_bits-rank binary64 x u) ∙ key-place (sign x) (rank binary64 x) (rank-small x p)

pub numbers-in-order : OrderOfNumbers
numbers-in-order x y p q u v =
    sym (in_order (to_bits binary64 x) (to_bits binary64 y) (bits-lt x p) (bits-lt y q))
    ∙ rw (key-is x p u, key-is y q v, lt-is x y p q u v, eq_is x y p q u v, key-at x p u, key-at y q v, sign-bit x, sign-bit y)
    (places (rank binary64 x) (rank binary64 y) (rank-small x p) (rank-small y q) (sign x) (sign y))
