-- The total order of patterns is the order of their keys, and no two patterns have one key. Assumes nothing.
use Rattle.std.proofs.Common.{◌≡◌, ℕ, ◌+◌, ◌-◌, ◌*◌, ◌%◌, ◌<◌, ◌≤◌, true, false, ◌&&◌, ◌||◌, T, eqb, ltb, ◌⊎◌, sym, ◌∙◌, inl, inr, eq-zero-or-pos, arith, eqb→eq, ltb→lt, lt→ltb, le-ltb, lt-ltb, subst, Less, Equal, Greater}
use lib.Bits.{bit_and, and_mask}
use lib.Ieee.Fits.{and_l, and_r, and_i, eq→eqb}
use Rattle.gf.proofs.KeyLaws.{same_test, or_l, or_r, or_split, nat-three}
use Rattle.std.specs.Cmp.{nat_cmp_is}
use Rattle.std.specs.Ordering.{nat_cmp}
use Rattle.gf.specs.TotalOrder.{sign_of, exponent_of, fraction_of, smaller, before, order_of, key_of, KeysInOrder, KeysApart, PlacedBy, Compared}

-- ---- exponent and fraction together: the pattern without its sign

abbrev pub size_of : ℕ → ℕ
size_of b = b % 0x8000_0000_0000_0000

-- e, p and f, q for the exponents and fractions of x and y
module _ (e p f q x y : ℕ) (hx : x ≡ e * 0x10_0000_0000_0000 + p) (hy : y ≡ f * 0x10_0000_0000_0000 + q) (hp : p < 0x10_0000_0000_0000) (hq : q < 0x10_0000_0000_0000) where
  fields→lt : T (ltb e f || (eqb e f && ltb p q)) → x < y
  fields→lt h = elim (or_split (ltb e f) (eqb e f && ltb p q) h) [
    | inl l ↦ omega (arith, ltb→lt e f l)
    | inr k ↦ omega (arith, eqb→eq e f (and_l (eqb e f) (ltb p q) k), ltb→lt p q (and_r (eqb e f) (ltb p q) k))
  ]

  lt→fields : x < y → T (ltb e f || (eqb e f && ltb p q))
  lt→fields h = elim (nat-three e f) [
    | inl l ↦ or_l (ltb e f) (eqb e f && ltb p q) (lt→ltb e f l)
    | inr r ↦ elim r [
      | inl s ↦ or_r (ltb e f) (eqb e f && ltb p q) (and_i (eqb e f) (ltb p q) (eq→eqb s) (lt→ltb p q (omega arith)))
      | inr g ↦ absurd (too-high g)
    ]
  ]
    where
      too-high : f < e → ⊥
      too-high g = omega arith

  by-fields : (ltb e f || (eqb e f && ltb p q)) ≡ ltb x y
  by-fields = same_test (ltb e f || (eqb e f && ltb p q)) (ltb x y) (λ h. lt→ltb x y (fields→lt h)) (λ h. lt→fields (ltb→lt x y h))

smaller-is : (a b : ℕ) → smaller a b ≡ ltb (size_of a) (size_of b)
unfolding smaller
smaller-is a b = by-fields (exponent_of a) (fraction_of a) (exponent_of b) (fraction_of b) (size_of a) (size_of b) (omega arith) (omega arith) (omega arith) (omega arith)

-- ---- the key by the sign

module _ (b : ℕ) (h : b < 0x1_0000_0000_0000_0000) where
  pub sign-is : (sign_of b ≡ 0) ⊎ (sign_of b ≡ 1)
  sign-is = elim (eq-zero-or-pos (sign_of b)) [ inl z ↦ inl z | inr p ↦ inr (omega arith) ]

  pub key-clear : sign_of b ≡ 0 → key_of b ≡ 0x8000_0000_0000_0000 + size_of b
  key-clear z = rw (lt-ltb b 0x8000_0000_0000_0000 (omega arith)) (omega arith)

  pub key_set : sign_of b ≡ 1 → key_of b ≡ 0x7fff_ffff_ffff_ffff - size_of b
  key_set o = rw (le-ltb b 0x8000_0000_0000_0000 (omega arith)) (omega arith)

pub size_is : (b : ℕ) → bit_and b 0x7fff_ffff_ffff_ffff ≡ size_of b
size_is b = and_mask b 63

-- ---- the order of keys

same-order : (i j k l : ℕ) → (i < j → k < l) → (k < l → i < j) → ltb i j ≡ ltb k l
same-order i j k l f g = same_test (ltb i j) (ltb k l) (λ h. lt→ltb k l (f (ltb→lt i j h))) (λ h. lt→ltb i j (g (ltb→lt k l h)))

kept : (m n : ℕ) → ltb (0x8000_0000_0000_0000 + m) (0x8000_0000_0000_0000 + n) ≡ ltb m n
kept m n = same-order (0x8000_0000_0000_0000 + m) (0x8000_0000_0000_0000 + n) m n (λ h. omega arith) (λ h. omega arith)

turned : (m n : ℕ) → m < 0x8000_0000_0000_0000 → n < 0x8000_0000_0000_0000 → ltb (0x7fff_ffff_ffff_ffff - m) (0x7fff_ffff_ffff_ffff - n) ≡ ltb n m
turned m n h g = same-order (0x7fff_ffff_ffff_ffff - m) (0x7fff_ffff_ffff_ffff - n) n m (λ l. omega arith) (λ l. omega arith)

pub in_order : KeysInOrder
unfolding before
in_order a b p q = elim (sign-is a p) [
  | inl z ↦ elim (sign-is b q) [
    | inl w ↦ rw (z, w, key-clear a p z, key-clear b q w) (simp smaller-is (kept (size_of a) (size_of b)))
    | inr w ↦ rw (z, w, key-clear a p z, key_set b q w) (le-ltb (0x8000_0000_0000_0000 + size_of a) (0x7fff_ffff_ffff_ffff - size_of b) (omega arith))
  ]
  | inr z ↦ elim (sign-is b q) [
    | inl w ↦ rw (z, w, key_set a p z, key-clear b q w) (lt-ltb (0x7fff_ffff_ffff_ffff - size_of a) (0x8000_0000_0000_0000 + size_of b) (omega arith))
    | inr w ↦ rw (z, w, key_set a p z, key_set b q w) (simp smaller-is (turned (size_of a) (size_of b) (omega arith) (omega arith)))
  ]
]

pub apart : KeysApart
apart a b p q e = elim (sign-is a p) [
  | inl z ↦ elim (sign-is b q) [
    | inl w ↦ omega (arith, key-clear a p z, key-clear b q w)
    | inr w ↦ omega (arith, key-clear a p z, key_set b q w)
  ]
  | inr z ↦ elim (sign-is b q) [
    | inl w ↦ omega (arith, key_set a p z, key-clear b q w)
    | inr w ↦ omega (arith, key_set a p z, key_set b q w)
  ]
]

-- ---- what the code promises

pub placed : (b k : ℕ) → b < 0x1_0000_0000_0000_0000 → k ≡ key_of b → (k ≡ key_of b) × PlacedBy b k
placed b k h e = (e, record { below = λ a p. rw e (in_order b a h p); above = λ a p. rw e (in_order a b p h) })

module _ (a b : ℕ) (p : a < 0x1_0000_0000_0000_0000) (q : b < 0x1_0000_0000_0000_0000) where
  is-before : key_of a < key_of b → before a b ≡ true
  is-before l = sym (in_order a b p q) ∙ lt-ltb (key_of a) (key_of b) l

  not-before : key_of b ≤ key_of a → before a b ≡ false
  not-before l = sym (in_order a b p q) ∙ le-ltb (key_of a) (key_of b) l

module _ (a b : ℕ) (p : a < 0x1_0000_0000_0000_0000) (q : b < 0x1_0000_0000_0000_0000) where
  less : Less ≡ Equal → ⊥
  less e = cc

  greater : Greater ≡ Equal → ⊥
  greater e = cc

  pub compared : Compared a b (nat_cmp (key_of a) (key_of b))
  unfolding order_of
  compared = elim (nat-three (key_of a) (key_of b)) [
    | inl l ↦ subst (Compared a b) (nat_cmp_is (key_of a) (key_of b) Less l) (record { is = rw (is-before a b p q l); same = λ e. absurd (less e) })
    | inr r ↦ elim r [
      | inl s ↦
          subst (Compared a b) (nat_cmp_is (key_of a) (key_of b) Equal s)
          (record { is = rw (not-before a b p q (omega arith), not-before b a q p (omega arith)); same = λ e. apart a b p q s })
      | inr g ↦
          subst (Compared a b) (nat_cmp_is (key_of a) (key_of b) Greater g)
          (record { is = rw (not-before a b p q (omega arith), is-before b a q p g); same = λ e. absurd (greater e) })
    ]
  ]
