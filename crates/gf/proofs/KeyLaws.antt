-- The order key of a double: 2 ^ 63 with the pattern of the size added, or taken off where the sign is set, so that both zeros have the key 2 ^ 63.
-- The comparisons of doubles are the comparisons of their keys, and each key from `least` to `most` is one finite double's, or both zeros'. Assumes nothing.
use Rattle.std.proofs.Common.{◌≡◌, ℕ, suc, ◌+◌, ◌-◌, ◌*◌, ◌%◌, ◌<◌, ◌≤◌, Bool, true, false, cond, not, ◌&&◌, ◌||◌, T, eqb, ltb, leb, ◌⊎◌, ℤ, sym, refl, ap, ◌∙◌, subst, inl, inr, zero-le, lt_trans, le_of_eq, lt_of_le_of_lt, le_of_lt, lt_irrefl, mul_comm, eq-zero-or-pos, add_comm, le_antisymm, eq-or-lt_of_le, mul-pos, zero-add, mul-suc, arith, le→leb, eqb→eq, ltb→lt, lt→ltb, leb→le, nltb→le, pow_pos}
use native.Mathlib.Decide.{dec_le}
use lib.Arith.{lt→nleb, le→nltb}
use lib.Ieee.{Float, nan, inf, fin, Format, binary64, prec, up, down, fits, is_nan, hid, ones, top, to_bits, of_bits, nan_bits, lt, le, eq}
use lib.Ieee.Fits.{and_l, and_r, and_i, up_pos, down_pos, eq→eqb}
use lib.Ieee.Scale.{finite}
use lib.Ieee.Positive.{first_pos}
use lib.Ieee.Bits.{to_bits-lt, to_bits-of_bits, of_bits-fits, nan_bits_is, nan_bits_above, is_true, is_false}
use Rattle.gf.proofs.Units.{same_bits}
use Rattle.gf.proofs.Rank.{rank, sign, to_bits-rank, rank-fin, rank-zero, rank-pos, size→rank<, size≡rank}
use Rattle.gf.specs.Doubles.{key_bits, key, least, most, bits_key, of_key}

-- ---- a sign and a rank as one number, with t for zero

abbrev pub spot : ℕ → Bool → ℕ → ℕ
spot t true r = t - r
spot t false r = t + r

abbrev at : Format → Float → ℕ
at f x = spot (top f) (sign x) (rank f x)

inf-lt-top : (f : Format) → ones f * hid f < top f
inf-lt-top f =
    let a : hid f * suc (ones f) ≡ hid f * ones f + hid f = mul-suc (hid f) (ones f) in
    let b : hid f * ones f ≡ ones f * hid f = mul_comm (hid f) (ones f) in
    let c : 0 < hid f = pow_pos (prec f - 1) in
    go (hid f * suc (ones f)) (hid f * ones f) (ones f * hid f) (hid f) a b c
  where
    go : (p q r h : ℕ) → p ≡ q + h → q ≡ r → 0 < h → r < p
    go p q r h a b c = omega arith

-- the rank of a nonzero size
size-pos : (f : Format) (s : Bool) (m : ℕ) (e : ℤ) (d : ℤ) → T (fits f (fin s m e)) → 0 < m * up e * down d → 0 < rank f (fin s m e)
size-pos f s m e d h k = rank-pos f s m e h (first_pos m (up e) (first_pos (m * up e) (down d) k))

size-zero : (f : Format) (s : Bool) (m : ℕ) (e : ℤ) (d : ℤ) → m * up e * down d ≡ 0 → rank f (fin s m e) ≡ 0
size-zero f s m e d k = go (eq-zero-or-pos m)
  where
    go : (m ≡ 0) ⊎ (0 < m) → rank f (fin s m e) ≡ 0
    go (inl z) = rank-zero f s m e z
    go (inr p) = absurd (lt_irrefl 0 (subst (λ (x : ℕ). 0 < x) k (mul-pos (mul-pos p (up_pos e)) (down_pos d))))

either-pos : (a b : ℕ) → 0 < a + b → (0 < a) ⊎ (0 < b)
either-pos a b h = elim (eq-zero-or-pos a) [ inl z ↦ inr (omega arith) | inr p ↦ inl p ]

-- numbers alone: the spots of two signs and ranks below t
down-down : (t a b : ℕ) → b < a → a < t → t - a < t - b
down-down t a b h k = omega arith

down-up : (t a b : ℕ) → 0 < t → (0 < a) ⊎ (0 < b) → t - a < t + b
down-up t a b h k = elim k [ inl p ↦ omega arith | inr p ↦ omega arith ]

up_up : (t a b : ℕ) → a < b → t + a < t + b
up_up t a b h = omega arith

meet : (t a b : ℕ) → a ≡ 0 → b ≡ 0 → t + a ≡ t - b
meet t a b p q = omega arith

module _ (f : Format) where
  top_pos : 0 < top f
  top_pos = lt_of_le_of_lt zero-le (inf-lt-top f)

  inf-pos : 0 < ones f * hid f
  inf-pos = mul-pos (lt_of_le_of_lt zero-le (lt-self (2 * lib.Ieee.emax f))) (pow_pos (prec f - 1))
    where
      lt-self : (n : ℕ) → n < n + 1
      lt-self n = omega arith

  rank-top : (s : Bool) (m : ℕ) (e : ℤ) → T (fits f (fin s m e)) → rank f (fin s m e) < top f
  rank-top s m e h = lt_trans (rank-fin f s m e h) (inf-lt-top f)

  lt→at : (x y : Float) → T (fits f x) → T (fits f y) → T (lt x y) → at f x < at f y
  unfolding lt
  lt→at nan y p q h = absurd h
  lt→at (inf true) nan p q h = absurd h
  lt→at (inf true) (inf true) p q h = absurd h
  lt→at (inf true) (inf false) p q h = down-up (top f) (ones f * hid f) (ones f * hid f) top_pos (inl inf-pos)
  lt→at (inf true) (fin true n d) p q h = down-down (top f) (ones f * hid f) (rank f (fin true n d)) (rank-fin f true n d q) (inf-lt-top f)
  lt→at (inf true) (fin false n d) p q h = down-up (top f) (ones f * hid f) (rank f (fin false n d)) top_pos (inl inf-pos)
  lt→at (inf false) nan p q h = absurd h
  lt→at (inf false) (inf t) p q h = absurd h
  lt→at (inf false) (fin t n d) p q h = absurd h
  lt→at (fin s m e) nan p q h = absurd h
  lt→at (fin s m e) (inf true) p q h = absurd h
  lt→at (fin true m e) (inf false) p q h = down-up (top f) (rank f (fin true m e)) (ones f * hid f) top_pos (inr inf-pos)
  lt→at (fin false m e) (inf false) p q h = up_up (top f) (rank f (fin false m e)) (ones f * hid f) (rank-fin f false m e p)
  lt→at (fin false m e) (fin false n d) p q h =
      up_up (top f) (rank f (fin false m e)) (rank f (fin false n d)) (size→rank< f false m e false n d p q (ltb→lt (m * up e * down d) (n * up d * down e) h))
  lt→at (fin false m e) (fin true n d) p q h = absurd h
  lt→at (fin true m e) (fin false n d) p q h =
      down-up (top f) (rank f (fin true m e)) (rank f (fin false n d)) top_pos
      (elim (either-pos (m * up e * down d) (n * up d * down e) (ltb→lt 0 (m * up e * down d + n * up d * down e) h)) [
        | inl k ↦ inl (size-pos f true m e d p k)
        | inr k ↦ inr (size-pos f false n d e q k)
      ])
  lt→at (fin true m e) (fin true n d) p q h =
      down-down (top f) (rank f (fin true m e)) (rank f (fin true n d)) (size→rank< f true n d true m e q p (ltb→lt (n * up d * down e) (m * up e * down d) h)) (rank-top true m e p)

  eq→at : (x y : Float) → T (fits f x) → T (fits f y) → T (eq x y) → at f x ≡ at f y
  unfolding eq
  eq→at nan y p q h = absurd h
  eq→at (inf s) nan p q h = absurd h
  eq→at (inf true) (inf true) p q h = refl
  eq→at (inf true) (inf false) p q h = absurd h
  eq→at (inf false) (inf true) p q h = absurd h
  eq→at (inf false) (inf false) p q h = refl
  eq→at (inf s) (fin t n d) p q h = absurd h
  eq→at (fin s m e) nan p q h = absurd h
  eq→at (fin s m e) (inf t) p q h = absurd h
  eq→at (fin true m e) (fin true n d) p q h =
      ap (λ (r : ℕ). top f - r) (size≡rank f true m e true n d p q (eqb→eq (m * up e * down d) (n * up d * down e) (and_l (eqb (m * up e * down d) (n * up d * down e)) true h)))
  eq→at (fin false m e) (fin false n d) p q h =
      ap (λ (r : ℕ). top f + r) (size≡rank f false m e false n d p q (eqb→eq (m * up e * down d) (n * up d * down e) (and_l (eqb (m * up e * down d) (n * up d * down e)) true h)))
  eq→at (fin true m e) (fin false n d) p q h =
      let a = m * up e * down d in
      let b = n * up d * down e in
      let z : a ≡ 0 = eqb→eq a 0 (and_r (eqb a b) (eqb a 0) h) in
      let w : b ≡ 0 = sym (eqb→eq a b (and_l (eqb a b) (eqb a 0) h)) ∙ z in
      sym (meet (top f) (rank f (fin false n d)) (rank f (fin true m e)) (size-zero f false n d e w) (size-zero f true m e d z))
  eq→at (fin false m e) (fin true n d) p q h =
      let a = m * up e * down d in
      let b = n * up d * down e in
      let z : a ≡ 0 = eqb→eq a 0 (and_r (eqb a b) (eqb a 0) h) in
      let w : b ≡ 0 = sym (eqb→eq a b (and_l (eqb a b) (eqb a 0) h)) ∙ z in
      meet (top f) (rank f (fin false m e)) (rank f (fin true n d)) (size-zero f false m e d z) (size-zero f true n d e w)

-- ---- of two values that are no NaN, one is less or they are equal

pub nat-three : (a b : ℕ) → (a < b) ⊎ ((a ≡ b) ⊎ (b < a))
nat-three a b = elim (dec_le (suc a) b) [
  | yes l ↦ inl l
  | no n ↦ elim (dec_le (suc b) a) [ yes k ↦ inr (inr k) | no k ↦ inr (inl (omega arith)) ]
]

both_zero : (a b : ℕ) → a + b ≡ 0 → T (eqb a b && eqb a 0)
both_zero a b h =
    let p : a ≡ 0 = omega arith in
    let q : a ≡ b = omega arith in
    and_i (eqb a b) (eqb a 0) (eq→eqb q) (eq→eqb p)

three : (x y : Float) → T (not (is_nan x)) → T (not (is_nan y)) → T (lt x y) ⊎ (T (eq x y) ⊎ T (lt y x))
unfolding lt eq is_nan
three nan y p q = absurd p
three (inf s) nan p q = absurd q
three (inf true) (inf true) p q = inr (inl tt)
three (inf true) (inf false) p q = inl tt
three (inf false) (inf true) p q = inr (inr tt)
three (inf false) (inf false) p q = inr (inl tt)
three (inf true) (fin t n d) p q = inl tt
three (inf false) (fin t n d) p q = inr (inr tt)
three (fin s m e) nan p q = absurd q
three (fin s m e) (inf true) p q = inr (inr tt)
three (fin s m e) (inf false) p q = inl tt
three (fin false m e) (fin false n d) p q =
    let a = m * up e * down d in
    let b = n * up d * down e in
    elim (nat-three a b) [
      | inl l ↦ inl (lt→ltb a b l)
      | inr r ↦ elim r [ inl w ↦ inr (inl (and_i (eqb a b) true (eq→eqb w) tt)) | inr k ↦ inr (inr (lt→ltb b a k)) ]
    ]
three (fin true m e) (fin true n d) p q =
    let a = m * up e * down d in
    let b = n * up d * down e in
    elim (nat-three b a) [
      | inl l ↦ inl (lt→ltb b a l)
      | inr r ↦ elim r [ inl w ↦ inr (inl (and_i (eqb a b) true (eq→eqb (sym w)) tt)) | inr k ↦ inr (inr (lt→ltb a b k)) ]
    ]
three (fin true m e) (fin false n d) p q =
    let a = m * up e * down d in
    let b = n * up d * down e in
    elim (eq-zero-or-pos (a + b)) [ inl z ↦ inr (inl (both_zero a b z)) | inr k ↦ inl (lt→ltb 0 (a + b) k) ]
three (fin false m e) (fin true n d) p q =
    let a = m * up e * down d in
    let b = n * up d * down e in
    elim (eq-zero-or-pos (b + a)) [ inl z ↦ inr (inl (both_zero a b (add_comm a b ∙ z))) | inr k ↦ inr (inr (lt→ltb 0 (b + a) k)) ]

-- ---- keys

key-spot : (s : Bool) (r : ℕ) → r < 0x8000_0000_0000_0000 → key_bits (cond s 0x8000_0000_0000_0000 0 + r) ≡ spot 0x8000_0000_0000_0000 s r
key-spot true r h =
    rw (is_false (ltb (0x8000_0000_0000_0000 + r) 0x8000_0000_0000_0000) (lt→nleb (suc (0x8000_0000_0000_0000 + r)) 0x8000_0000_0000_0000 (omega arith))) (omega arith)
key-spot false r h =
    rw (zero-add r, is_true (ltb r 0x8000_0000_0000_0000) (lt→ltb r 0x8000_0000_0000_0000 h)) refl

-- ---- the comparisons are those of the keys

pub key-at : (x : Float) → T (fits binary64 x) → T (not (is_nan x)) → key x ≡ at binary64 x
unfolding key is_nan
key-at nan p q = absurd q
key-at (inf s) p q = ap key_bits (to_bits-rank binary64 (inf s) tt) ∙ key-spot s (ones binary64 * hid binary64) (inf-lt-top binary64)
key-at (fin s m e) p q = ap key_bits (to_bits-rank binary64 (fin s m e) tt) ∙ key-spot s (rank binary64 (fin s m e)) (rank-top binary64 s m e p)

pub same_test : (a b : Bool) → (T a → T b) → (T b → T a) → a ≡ b
same_test true true p q = refl
same_test true false p q = absurd (p tt)
same_test false true p q = absurd (q tt)
same_test false false p q = refl

pub or_l : (a b : Bool) → T a → T (a || b)
or_l true b t = tt
or_l false b t = absurd t

pub or_r : (a b : Bool) → T b → T (a || b)
or_r true b t = tt
or_r false b t = t

pub or_split : (a b : Bool) → T (a || b) → T a ⊎ T b
or_split true b t = inl tt
or_split false b t = inr t

lt-absurd : (a b : ℕ) → a < b → b < a → ⊥
lt-absurd a b h k = omega arith

lt-eq-absurd : (a b : ℕ) → a < b → b ≡ a → ⊥
lt-eq-absurd a b h k = omega arith

module _ (x y : Float) (p : T (fits binary64 x)) (q : T (fits binary64 y)) (u : T (not (is_nan x))) (v : T (not (is_nan y))) where
  pub lt→key : T (lt x y) → key x < key y
  lt→key h = rw (key-at x p u, key-at y q v) (lt→at binary64 x y p q h)

  pub eq→key : T (eq x y) → key x ≡ key y
  eq→key h = rw (key-at x p u, key-at y q v) (eq→at binary64 x y p q h)

  turned : T (lt y x) → key y < key x
  turned h = rw (key-at x p u, key-at y q v) (lt→at binary64 y x q p h)

  pub key→lt : key x < key y → T (lt x y)
  key→lt h = elim (three x y u v) [
    | inl a ↦ a
    | inr r ↦ elim r [ inl b ↦ absurd (lt-eq-absurd (key x) (key y) h (sym (eq→key b))) | inr c ↦ absurd (lt-absurd (key x) (key y) h (turned c)) ]
  ]

  pub key→eq : key x ≡ key y → T (eq x y)
  key→eq h = elim (three x y u v) [
    | inl a ↦ absurd (lt-eq-absurd (key x) (key y) (lt→key a) (sym h))
    | inr r ↦ elim r [ inl b ↦ b | inr c ↦ absurd (lt-eq-absurd (key y) (key x) (turned c) h) ]
  ]

  pub le→key : T (le x y) → key x ≤ key y
  unfolding le
  le→key h = elim (or_split (lt x y) (eq x y) h) [ inl a ↦ le_of_lt (lt→key a) | inr b ↦ le_of_eq (eq→key b) ]

  pub key→le : key x ≤ key y → T (le x y)
  unfolding le
  key→le h = elim (eq-or-lt_of_le h) [ inl e ↦ or_r (lt x y) (eq x y) (key→eq e) | inr l ↦ or_l (lt x y) (eq x y) (key→lt l) ]

  -- the same as equations of tests
  pub lt-is : lt x y ≡ ltb (key x) (key y)
  lt-is = same_test (lt x y) (ltb (key x) (key y)) (λ h. lt→ltb (key x) (key y) (lt→key h)) (λ h. key→lt (ltb→lt (key x) (key y) h))

  pub le_is : le x y ≡ leb (key x) (key y)
  le_is = same_test (le x y) (leb (key x) (key y)) (λ h. le→leb (key x) (key y) (le→key h)) (λ h. key→le (leb→le (key x) (key y) h))

  pub eq_is : eq x y ≡ eqb (key x) (key y)
  eq_is = same_test (eq x y) (eqb (key x) (key y)) (λ h. eq→eqb (eq→key h)) (λ h. key→eq (eqb→eq (key x) (key y) h))

-- ---- the keys of the finite doubles are those from `least` to `most`

pub finite-no-nan : (x : Float) → T (finite x) → T (not (is_nan x))
unfolding is_nan
finite-no-nan nan h = h
finite-no-nan (inf s) h = tt
finite-no-nan (fin s m e) h = tt

pub finite→key : (x : Float) → T (fits binary64 x) → T (finite x) → (least ≤ key x) × (key x ≤ most)
finite→key nan p h = absurd h
finite→key (inf s) p h = absurd h
finite→key (fin true m e) p h = let k = rank-fin binary64 true m e p in rw (key-at (fin true m e) p (finite-no-nan (fin true m e) tt)) (omega arith)
finite→key (fin false m e) p h = let k = rank-fin binary64 false m e p in rw (key-at (fin false m e) p (finite-no-nan (fin false m e) tt)) (omega arith)

key-inf : (s : Bool) → key (inf s) ≡ spot 0x8000_0000_0000_0000 s 0x7ff0_0000_0000_0000
unfolding key to_bits
key-inf true = refl
key-inf false = refl

too-low : least ≤ 0x8000_0000_0000_0000 - 0x7ff0_0000_0000_0000 → ⊥
too-low h = omega arith

too-high : 0x8000_0000_0000_0000 + 0x7ff0_0000_0000_0000 ≤ most → ⊥
too-high h = omega arith

pub key→finite : (x : Float) → T (not (is_nan x)) → least ≤ key x → key x ≤ most → T (finite x)
unfolding is_nan
key→finite nan q a b = absurd q
key→finite (inf true) q a b = absurd (too-low (subst (λ (k : ℕ). least ≤ k) (key-inf true) a))
key→finite (inf false) q a b = absurd (too-high (subst (λ (k : ℕ). k ≤ most) (key-inf false) b))
key→finite (fin s m e) q a b = tt

-- ---- the double of a key: of the two zeros it is +0.0

module _ (k : ℕ) (lo : least ≤ k) (hi : k ≤ most) where
  -- the pattern's sign and rank
  pub bits_key-is : (s : Bool) × (r : ℕ) × (bits_key k ≡ cond s 0x8000_0000_0000_0000 0 + r) × (r ≤ 0x7fef_ffff_ffff_ffff) × (spot 0x8000_0000_0000_0000 s r ≡ k)
  bits_key-is = go (ltb k 0x8000_0000_0000_0000) (ltb→lt k 0x8000_0000_0000_0000) (nltb→le k 0x8000_0000_0000_0000)
    where
      go : (b : Bool) → (T b → k < 0x8000_0000_0000_0000) → (T (not b) → 0x8000_0000_0000_0000 ≤ k)
          → (s : Bool) × (r : ℕ) × (cond b (0x1_0000_0000_0000_0000 - k) (k - 0x8000_0000_0000_0000) ≡ cond s 0x8000_0000_0000_0000 0 + r) × (r ≤ 0x7fef_ffff_ffff_ffff) × (spot 0x8000_0000_0000_0000 s r ≡ k)
      go true p q = let h = p tt in (true, 0x8000_0000_0000_0000 - k, omega arith, omega arith, omega arith)
      go false p q = let h = q tt in (false, k - 0x8000_0000_0000_0000, omega arith, omega arith, omega arith)

  pub bits-key-lt : bits_key k < 0x1_0000_0000_0000_0000
  bits-key-lt = rw bits_key-is.2 (go bits_key-is.0 bits_key-is.1 bits_key-is.3)
    where
      go : (s : Bool) (r : ℕ) → r ≤ 0x7fef_ffff_ffff_ffff → cond s 0x8000_0000_0000_0000 0 + r < 0x1_0000_0000_0000_0000
      go true r h = omega arith
      go false r h = omega arith

  pub bits-key-no-nan : T (not (nan_bits binary64 (bits_key k)))
  bits-key-no-nan = rw (nan_bits_above binary64 (bits_key k), bits_key-is.2) (lt→nleb (suc 0x7ff0_0000_0000_0000) ((cond bits_key-is.0 0x8000_0000_0000_0000 0 + bits_key-is.1) % 0x8000_0000_0000_0000) (go bits_key-is.0 bits_key-is.1 bits_key-is.3))
    where
      go : (s : Bool) (r : ℕ) → r ≤ 0x7fef_ffff_ffff_ffff → (cond s 0x8000_0000_0000_0000 0 + r) % 0x8000_0000_0000_0000 < suc 0x7ff0_0000_0000_0000
      go true r h = omega arith
      go false r h = omega arith

  pub of_key-no-nan : T (not (is_nan (of_key k)))
  unfolding of_key
  of_key-no-nan = subst (λ (b : Bool). T (not b)) (nan_bits_is binary64 (bits_key k)) bits-key-no-nan

  pub key-of_key : key (of_key k) ≡ k
  unfolding key of_key
  key-of_key =
      ap key_bits (to_bits-of_bits binary64 (bits_key k) bits-key-lt of_key-no-nan ∙ bits_key-is.2)
      ∙ key-spot bits_key-is.0 bits_key-is.1 (below_top bits_key-is.1 bits_key-is.3)
      ∙ bits_key-is.4
    where
      below_top : (r : ℕ) → r ≤ 0x7fef_ffff_ffff_ffff → r < 0x8000_0000_0000_0000
      below_top r h = omega arith

  pub of_key-finite : T (finite (of_key k))
  of_key-finite = key→finite (of_key k) of_key-no-nan (subst (λ (x : ℕ). least ≤ x) (sym key-of_key) lo) (subst (λ (x : ℕ). x ≤ most) (sym key-of_key) hi)

pub of_key-fits : (k : ℕ) → T (fits binary64 (of_key k))
unfolding of_key
of_key-fits k = of_bits-fits binary64 (bits_key k)

pub of_key-mono : (j k : ℕ) → least ≤ j → j ≤ k → k ≤ most → T (le (of_key j) (of_key k))
of_key-mono j k a b c =
    let d : j ≤ most = omega arith in
    let e : least ≤ k = omega arith in
    key→le (of_key j) (of_key k) (of_key-fits j) (of_key-fits k) (of_key-no-nan j a d) (of_key-no-nan k e c) (rw (key-of_key j a d, key-of_key k e c) b)

pub of_key-key : (x : Float) → T (fits binary64 x) → T (finite x) → T (eq (of_key (key x)) x)
of_key-key x p h =
    let r = finite→key x p h in
    key→eq (of_key (key x)) x (of_key-fits (key x)) p (of_key-no-nan (key x) r.0 r.1) (finite-no-nan x h) (key-of_key (key x) r.0 r.1)

-- ---- equal keys are of one double, or of both zeros

abbrev pub is_zero : Float → Bool
is_zero nan = false
is_zero (inf s) = false
is_zero (fin s m e) = eqb m 0

zero-size : (m : ℕ) (e d : ℤ) → m * up e * down d ≡ 0 → T (eqb m 0)
zero-size m e d h = go (eq-zero-or-pos m)
  where
    go : (m ≡ 0) ⊎ (0 < m) → T (eqb m 0)
    go (inl z) = eq→eqb z
    go (inr p) = absurd (lt_irrefl 0 (subst (λ (x : ℕ). 0 < x) h (mul-pos (mul-pos p (up_pos e)) (down_pos d))))

alike : (f : Format) (s : Bool) (m : ℕ) (e : ℤ) (n : ℕ) (d : ℤ) → T (fits f (fin s m e)) → T (fits f (fin s n d)) → m * up e * down d ≡ n * up d * down e → fin s m e ≡ fin s n d
alike f s m e n d p q h =
    same_bits f (fin s m e) (fin s n d) p q
    (to_bits-rank f (fin s m e) (finite-no-nan (fin s m e) tt) ∙ ap (λ (r : ℕ). cond s (top f) 0 + r) (size≡rank f s m e s n d p q h) ∙ sym (to_bits-rank f (fin s n d) (finite-no-nan (fin s n d) tt)))

pub same-or-zeros : (f : Format) (x y : Float) → T (fits f x) → T (fits f y) → T (eq x y) → (x ≡ y) ⊎ (T (is_zero x) × T (is_zero y))
unfolding eq
same-or-zeros f nan y p q h = absurd h
same-or-zeros f (inf s) nan p q h = absurd h
same-or-zeros f (inf true) (inf true) p q h = inl refl
same-or-zeros f (inf true) (inf false) p q h = absurd h
same-or-zeros f (inf false) (inf true) p q h = absurd h
same-or-zeros f (inf false) (inf false) p q h = inl refl
same-or-zeros f (inf s) (fin t n d) p q h = absurd h
same-or-zeros f (fin s m e) nan p q h = absurd h
same-or-zeros f (fin s m e) (inf t) p q h = absurd h
same-or-zeros f (fin true m e) (fin true n d) p q h = inl (alike f true m e n d p q (eqb→eq (m * up e * down d) (n * up d * down e) (and_l (eqb (m * up e * down d) (n * up d * down e)) true h)))
same-or-zeros f (fin false m e) (fin false n d) p q h = inl (alike f false m e n d p q (eqb→eq (m * up e * down d) (n * up d * down e) (and_l (eqb (m * up e * down d) (n * up d * down e)) true h)))
same-or-zeros f (fin true m e) (fin false n d) p q h =
    let a = m * up e * down d in
    let b = n * up d * down e in
    let z : a ≡ 0 = eqb→eq a 0 (and_r (eqb a b) (eqb a 0) h) in
    inr (zero-size m e d z, zero-size n d e (sym (eqb→eq a b (and_l (eqb a b) (eqb a 0) h)) ∙ z))
same-or-zeros f (fin false m e) (fin true n d) p q h =
    let a = m * up e * down d in
    let b = n * up d * down e in
    let z : a ≡ 0 = eqb→eq a 0 (and_r (eqb a b) (eqb a 0) h) in
    inr (zero-size m e d z, zero-size n d e (sym (eqb→eq a b (and_l (eqb a b) (eqb a 0) h)) ∙ z))

pub key-inj : (x y : Float) → T (fits binary64 x) → T (fits binary64 y) → T (not (is_nan x)) → T (not (is_nan y)) → key x ≡ key y → (x ≡ y) ⊎ (T (is_zero x) × T (is_zero y))
key-inj x y p q u v h = same-or-zeros binary64 x y p q (key→eq x y p q u v h)

-- ---- `le` as an order. It is false at a NaN, so a comparison that holds says that neither side is one.

pub le-no-nan : (x y : Float) → T (le x y) → T (not (is_nan x)) × T (not (is_nan y))
unfolding le is_nan
le-no-nan nan y h = absurd h
le-no-nan (inf s) nan h = absurd h
le-no-nan (inf s) (inf t) h = (tt, tt)
le-no-nan (inf s) (fin t n d) h = (tt, tt)
le-no-nan (fin s m e) nan h = absurd h
le-no-nan (fin s m e) (inf t) h = (tt, tt)
le-no-nan (fin s m e) (fin t n d) h = (tt, tt)

pub lt→le : (x y : Float) → T (lt x y) → T (le x y)
unfolding le
lt→le x y h = or_l (lt x y) (eq x y) h

pub eq→le : (x y : Float) → T (eq x y) → T (le x y)
unfolding le
eq→le x y h = or_r (lt x y) (eq x y) h

pub le_refl : (x : Float) → T (fits binary64 x) → T (not (is_nan x)) → T (le x x)
le_refl x p u = key→le x x p p u u (le_of_eq refl)

module _ (x y : Float) (p : T (fits binary64 x)) (q : T (fits binary64 y)) where
  pub le-both : T (le x y) → T (le y x) → T (eq x y)
  le-both h k =
      let u = le-no-nan x y h in
      key→eq x y p q u.0 u.1 (le_antisymm (le→key x y p q u.0 u.1 h) (le→key y x q p u.1 u.0 k))

  pub le-or-lt : T (not (is_nan x)) → T (not (is_nan y)) → T (le x y) ⊎ T (lt y x)
  le-or-lt u v = elim (dec_le (key x) (key y)) [ yes h ↦ inl (key→le x y p q u v h) | no h ↦ inr (key→lt y x q p v u (omega arith)) ]

  pub lt_not_le : T (lt x y) → T (le y x) → ⊥
  lt_not_le h k =
      let u = le-no-nan y x k in
      lt-absurd-le (key x) (key y) (lt→key x y p q u.1 u.0 h) (le→key y x q p u.0 u.1 k)
    where
      lt-absurd-le : (a b : ℕ) → a < b → b ≤ a → ⊥
      lt-absurd-le a b f g = omega arith

module _ (x y z : Float) (p : T (fits binary64 x)) (q : T (fits binary64 y)) (r : T (fits binary64 z)) where
  pub le_trans : T (le x y) → T (le y z) → T (le x z)
  le_trans h k =
      let u = le-no-nan x y h in
      let v = le-no-nan y z k in
      let a = le→key x y p q u.0 u.1 h in
      let b = le→key y z q r v.0 v.1 k in
      key→le x z p r u.0 v.1 (omega arith)

  pub lt-le-trans : T (lt x y) → T (le y z) → T (lt x z)
  lt-le-trans h k =
      let u = le-no-nan x y (lt→le x y h) in
      let v = le-no-nan y z k in
      let a = lt→key x y p q u.0 u.1 h in
      let b = le→key y z q r v.0 v.1 k in
      key→lt x z p r u.0 v.1 (omega arith)

  pub le_lt_trans : T (le x y) → T (lt y z) → T (lt x z)
  le_lt_trans h k =
      let u = le-no-nan x y h in
      let v = le-no-nan y z (lt→le y z k) in
      let a = le→key x y p q u.0 u.1 h in
      let b = lt→key y z q r v.0 v.1 k in
      key→lt x z p r u.0 v.1 (omega arith)

-- what lies between two finite values is finite
pub between : (lo z hi : Float) → T (finite lo) → T (finite hi) → T (le lo z) → T (le z hi) → T (finite z)
unfolding le
between lo nan hi a b h k = absurd k
between nan (inf s) hi a b h k = absurd a
between (inf t) (inf s) hi a b h k = absurd a
between (fin t n d) (inf true) hi a b h k = absurd h
between (fin t n d) (inf false) nan a b h k = absurd b
between (fin t n d) (inf false) (inf u) a b h k = absurd b
between (fin t n d) (inf false) (fin u m e) a b h k = absurd k
between lo (fin s m e) hi a b h k = tt

-- ---- what a program that reads or writes the pattern has to show

pub bits-lt : (x : Float) → T (fits binary64 x) → to_bits binary64 x < 0x1_0000_0000_0000_0000
bits-lt x p = to_bits-lt binary64 x p

below : (b h : ℕ) (x y : ℕ) → b < h → cond (ltb b h) x y ≡ x
below b h x y l = ap (λ (t : Bool). cond t x y) (is_true (ltb b h) (lt→ltb b h l))

not-below : (b h : ℕ) (x y : ℕ) → h ≤ b → cond (ltb b h) x y ≡ y
not-below b h x y l = ap (λ (t : Bool). cond t x y) (is_false (ltb b h) (le→nltb b h l))

pub key-clear : (x : Float) → to_bits binary64 x < 0x8000_0000_0000_0000 → 0x8000_0000_0000_0000 + to_bits binary64 x ≡ key x
unfolding key
key-clear x h = sym (below (to_bits binary64 x) 0x8000_0000_0000_0000 (0x8000_0000_0000_0000 + to_bits binary64 x) (0x8000_0000_0000_0000 - to_bits binary64 x % 0x8000_0000_0000_0000) h)

pub key_set : (x : Float) → T (fits binary64 x) → 0x8000_0000_0000_0000 ≤ to_bits binary64 x → 0x8000_0000_0000_0000 - (to_bits binary64 x - 0x8000_0000_0000_0000) ≡ key x
unfolding key
key_set x p h =
    rest (to_bits binary64 x) (to_bits-lt binary64 x p) h
    ∙ sym (not-below (to_bits binary64 x) 0x8000_0000_0000_0000 (0x8000_0000_0000_0000 + to_bits binary64 x) (0x8000_0000_0000_0000 - to_bits binary64 x % 0x8000_0000_0000_0000) h)
  where
    rest : (b : ℕ) → b < 0x1_0000_0000_0000_0000 → 0x8000_0000_0000_0000 ≤ b → 0x8000_0000_0000_0000 - (b - 0x8000_0000_0000_0000) ≡ 0x8000_0000_0000_0000 - b % 0x8000_0000_0000_0000
    rest b l g = omega arith

pub bits-key-below : (k : ℕ) → k < 0x8000_0000_0000_0000 → 0x8000_0000_0000_0000 + (0x8000_0000_0000_0000 - k) ≡ bits_key k
bits-key-below k h = rest k h ∙ sym (below k 0x8000_0000_0000_0000 (0x1_0000_0000_0000_0000 - k) (k - 0x8000_0000_0000_0000) h)
  where
    rest : (k : ℕ) → k < 0x8000_0000_0000_0000 → 0x8000_0000_0000_0000 + (0x8000_0000_0000_0000 - k) ≡ 0x1_0000_0000_0000_0000 - k
    rest k l = omega arith

pub bits-key-above : (k : ℕ) → 0x8000_0000_0000_0000 ≤ k → k - 0x8000_0000_0000_0000 ≡ bits_key k
bits-key-above k h = sym (not-below k 0x8000_0000_0000_0000 (0x1_0000_0000_0000_0000 - k) (k - 0x8000_0000_0000_0000) h)

pub of_key-is : (k : ℕ) → of_bits binary64 (bits_key k) ≡ of_key k
unfolding of_key
of_key-is k = refl
