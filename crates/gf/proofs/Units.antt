-- A value that a format holds is a whole number of the format's smallest values, `unit` of them in size.
-- `round-self`: rounding such a value's own fraction gives the value back. `rounds-self`: so each such value is a rounded fraction, and `rounds-mono` compares it with an operation's result.
-- Assumes nothing.
use Rattle.std.proofs.Common.{◌≡◌, ℕ, zero, suc, ◌+◌, ◌-◌, ◌*◌, ◌/◌, ◌%◌, ◌^◌, ◌<◌, ◌≤◌, Bool, true, false, cond, ◌&&◌, T, eqb, ltb, leb, ℤ, pos, negsuc, sym, ap, ◌∙◌, subst, le_trans, le_of_eq, lt_of_lt_of_le, le_of_suc-le-suc, lt_irrefl, mul-le-mul_right, mul_assoc, mul_comm, lt_of_mul-lt-mul_right, mul-lt-mul_of_pos_right, mul-pos, one-mul, lt_of_not-le, zero-mul, mul-one, mul_right_comm, mul-div_cancel, arith, eqb→eq, ltb→lt, leb→le, pow_pos, pow-add}
use lib.Pow.{pow-lt}
use lib.Ieee.{Float, nan, inf, fin, Format, prec, emax, low, up, down, size, round, fits, hid, top, to_bits, of_bits}
use lib.Ieee.Digits.{back}
use lib.Ieee.Fits.{and_l, and_r, up_pos, down_pos, round-fits}
use lib.Ieee.Exact.{HasValue, round_exact}
use lib.Ieee.Nearest.{div_same}
use lib.Ieee.Scale.{finite}
use lib.Ieee.Positive.{num, den}
use lib.Ieee.Bits.{of_bits-to_bits}
use Rattle.gf.proofs.Fraction.{over, under, Rounds}

-- ---- what `fits` says of a finite value, a zero included

pub record Holds (f : Format) (m : ℕ) (e : ℤ) : Type 0 where
  pub few : m < 2 ^ prec f
  pub fine : down e ≤ 2 ^ low f
  pub small : m * up e < 2 ^ suc (emax f) * down e

one_below : (a b : ℕ) → 0 < a → a * b ≡ 1 → b ≤ 1
one_below a b h e =
    let k : 1 * b ≤ a * b = mul-le-mul_right b h in
    omega (arith, one-mul b)

pub holds : (f : Format) (s : Bool) (m : ℕ) (e : ℤ) → T (fits f (fin s m e)) → Holds f m e
unfolding fits
holds f s zero e h = record {
  few = pow_pos (prec f);
  fine = le_trans (one_below (up e) (down e) (up_pos e) (eqb→eq (up e * down e) 1 h)) (pow_pos (low f));
  small = rw zero-mul (mul-pos (pow_pos (suc (emax f))) (down_pos e));
}
holds f s (suc m) e h =
    let A = eqb (suc m % 2) 1 in
    let B = ltb (suc m) (2 ^ prec f) in
    let C = leb (down e) (2 ^ low f) in
    let D = ltb (suc m * up e) (2 ^ suc (emax f) * down e) in
    record {
      few = ltb→lt (suc m) (2 ^ prec f) (and_r A B (and_l (A && B) C (and_l (A && B && C) D h)));
      fine = leb→le (down e) (2 ^ low f) (and_r (A && B) C (and_l (A && B && C) D h));
      small = ltb→lt (suc m * up e) (2 ^ suc (emax f) * down e) (and_r (A && B && C) D h);
    }

-- ---- 2 ^ e is 2 ^ j smallest values

pow_le_back : (a l : ℕ) → 2 ^ a ≤ 2 ^ l → a ≤ l
pow_le_back a l h = le_of_suc-le-suc (lt_of_not-le (λ (g : suc l ≤ a). lt_irrefl (2 ^ l) (lt_of_lt_of_le (pow-lt g) h)))

place : (l : ℕ) (e : ℤ) → down e ≤ 2 ^ l → (j : ℕ) × (up e * 2 ^ l ≡ 2 ^ j * down e)
place l (pos a) h = (a + l, sym (pow-add 2 a l) ∙ sym (mul-one (2 ^ (a + l))))
place l (negsuc a) h =
    (l - suc a, one-mul (2 ^ l) ∙ ap (λ (x : ℕ). 2 ^ x) (sym (back l (suc a) (pow_le_back (suc a) l h))) ∙ pow-add 2 (l - suc a) (suc a))

placed : (f : Format) (m : ℕ) (e : ℤ) → Holds f m e → (j : ℕ) × (m * up e * 2 ^ low f ≡ m * 2 ^ j * down e)
placed f m e h =
    let p = place (low f) e h.fine in
    (p.0, mul_assoc m (up e) (2 ^ low f) ∙ ap (λ (x : ℕ). m * x) p.1 ∙ sym (mul_assoc m (2 ^ p.0) (down e)))

-- ---- the size in smallest values

abbrev pub unit : Format → Float → ℕ
unit f x = num x * 2 ^ low f / den x

pub unit-exact : (f : Format) (x : Float) → T (fits f x) → num x * 2 ^ low f ≡ unit f x * den x
unit-exact f nan h = zero-mul (2 ^ low f) ∙ sym (ap (λ (x : ℕ). x / 1 * 1) (zero-mul (2 ^ low f)))
unit-exact f (inf s) h = zero-mul (2 ^ low f) ∙ sym (ap (λ (x : ℕ). x / 1 * 1) (zero-mul (2 ^ low f)))
unit-exact f (fin s m e) h =
    let p = placed f m e (holds f s m e h) in
    p.1 ∙ ap (λ (x : ℕ). x * down e) (sym (ap (λ (x : ℕ). x / down e) p.1 ∙ mul-div_cancel (m * 2 ^ p.0) (down_pos e)))

-- ---- a value that fits is settled by its sign and its size

to_bits-same : (f : Format) (s : Bool) (m : ℕ) (e : ℤ) (n : ℕ) (d : ℤ) → unit f (fin s m e) ≡ unit f (fin s n d) → to_bits f (fin s m e) ≡ to_bits f (fin s n d)
unfolding to_bits
to_bits-same f s m e n d p = ap (λ (x : ℕ). cond s (top f) 0 + (size x - prec f) * hid f + x / 2 ^ (size x - prec f)) p

pub same_bits : (f : Format) (x y : Float) → T (fits f x) → T (fits f y) → to_bits f x ≡ to_bits f y → x ≡ y
same_bits f x y p q e = sym (of_bits-to_bits f x p) ∙ ap (of_bits f) e ∙ of_bits-to_bits f y q

value-unique : (f : Format) (z : Float) (s : Bool) (m : ℕ) (e : ℤ) → T (fits f z) → T (fits f (fin s m e)) → HasValue z s (m * up e) (down e) → z ≡ fin s m e
value-unique f nan s m e p q h = absurd h
value-unique f (inf t) s m e p q h = absurd h
value-unique f (fin t n d) s m e p q h =
    let u : unit f (fin s n d) ≡ unit f (fin s m e) =
    div_same (n * up d * 2 ^ low f) (down d) (m * up e * 2 ^ low f) (down e) (down_pos d) (down_pos e)
    (mul_right_comm (n * up d) (2 ^ low f) (down e) ∙ ap (λ (x : ℕ). x * 2 ^ low f) h.1 ∙ mul_right_comm (m * up e) (down d) (2 ^ low f)) in
    ap (λ (x : Bool). fin x n d) h.0
    ∙ same_bits f (fin s n d) (fin s m e) (subst (λ (x : Bool). T (fits f (fin x n d))) h.0 p) q (to_bits-same f s n d m e u)

pub round-self : (f : Format) (s : Bool) (m : ℕ) (e : ℤ) → T (fits f (fin s m e)) → round f s (m * up e) (down e) ≡ fin s m e
round-self f s m e h =
    let k = holds f s m e h in
    let p = placed f m e k in
    let j = p.0 in
    let l = 2 ^ low f in
    let t = 2 ^ suc (emax f) in
    let a : m * up e * l < t * l * down e = lt_of_lt_of_le (mul-lt-mul_of_pos_right k.small (pow_pos (low f))) (le_of_eq (mul_right_comm t (down e) l)) in
    let b : m * 2 ^ j * down e < t * l * down e = subst (λ (x : ℕ). x < t * l * down e) p.1 a in
    let c : m * 2 ^ j < 2 ^ (low f + suc (emax f)) = subst (λ (x : ℕ). m * 2 ^ j < x) (mul_comm t l ∙ sym (pow-add 2 (low f) (suc (emax f)))) (lt_of_mul-lt-mul_right (down e) b) in
    value-unique f (round f s (m * up e) (down e)) s m e (round-fits f s (m * up e) (down e)) h
    (round_exact f s (m * up e) (down e) m j (down_pos e) k.few c p.1)

pub rounds-self : (f : Format) (x : Float) → T (fits f x) → T (finite x) → Rounds f x (over x) (under x) (den x)
rounds-self f nan h t = absurd t
rounds-self f (inf s) h t = absurd t
rounds-self f (fin true m e) h t = record { sign = true; mag = m * up e; is = sym (round-self f true m e h); part = omega arith }
rounds-self f (fin false m e) h t = record { sign = false; mag = m * up e; is = sym (round-self f false m e h); part = omega arith }
