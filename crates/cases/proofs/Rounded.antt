-- A decimal of at most 15 digits is rounded once: its digits' number and the power of ten are doubles as they stand. Assumes nothing.
use Rattle.std.proofs.Common.{◌≡◌, ℕ, zero, suc, ◌+◌, ◌-◌, ◌*◌, ◌^◌, ◌<◌, ◌≤◌, Bool, true, false, cond, ◌||◌, eqb, ltb, leb, List, [], ◌∷◌, drop, pos, sym, refl, ap, ◌∙◌, subst, true≢false, le_trans, le_of_lt, lt_irrefl, mul-le-mul_right, zero-lt-suc, mul_assoc, mul_comm, mul-pos, one-mul, pow-suc, zero-mul, mul-one, le-mul_of_pos_right, mul_left_comm, arith, lit<, pow-add, ne_eqb, le-ltb, leb-false}
use native.Mathlib.Nat.{one-le-pow, pow-le-pow_right}
use lib.Ieee.{Float, nan, inf, fin, Format, binary64, up, down, round, of_int, div}
use lib.Ieee.Fits.{up_pos, down_pos}
use lib.Ieee.Exact.{HasValue}
use lib.Ieee.Back.{round_whole}
use lib.Ieee.Scale.{round_same}
use Rattle.gf.proofs.Fraction.{round-neg}
use Rattle.std.specs.Prelude.{Option, Some, None}
use Rattle.std.specs.Option.{option_and_then, option_map}
use Rattle.std.proofs.lemmas.Option.{none-some, same_Some, option_and_then_some}
use Rattle.cases.specs.declared.text.numbers.Read.{Read}
use Rattle.cases.specs.declared.text.decimals.Decimal.{Decimal}
use Rattle.cases.specs.Text.{closed_at}
use Rattle.cases.specs.Numbers.{read_at, digit_of, decimals, decimals_at}
use Rattle.cases.specs.Decimals.{decimal_of, stands, behind_point, decimal_from, decimal_at, signed_of, valued}

ruleset ring = (mul_assoc, mul_comm, mul_left_comm)

-- ---- the quotient of two whole numbers

above : (n u : ℕ) → 0 < n * u * 1 → 0 < n
above zero u h = absurd (lt_irrefl 0 (subst (λ (x : ℕ). 0 < x) (ap (λ (y : ℕ). y * 1) (zero-mul u) ∙ zero-mul 1) h))
above (suc n) u h = zero-lt-suc n

arrange : (a x y b : ℕ) → a * x * y * b ≡ a * (b * y * x)
arrange a x y b = simp ring

div-at : (f : Format) (x y : Float) (a b : ℕ) → 0 < b → HasValue x false a 1 → HasValue y false b 1 → div f x y ≡ round f false a b
unfolding div
div-at f nan y a b p h k = absurd h
div-at f (inf s) y a b p h k = absurd h
div-at f (fin s m e) nan a b p h k = absurd k
div-at f (fin s m e) (inf t) a b p h k = absurd k
div-at f (fin true m e) (fin t n d) a b p h k = absurd (true≢false h.0)
div-at f (fin false m e) (fin true n d) a b p h k = absurd (true≢false k.0)
div-at f (fin false m e) (fin false n d) a b p h k =
    let some : 0 < n = above n (up d) (subst (λ (x : ℕ). 0 < x) (sym k.1) (mul-pos p (down_pos d))) in
    let none : (n ≡ 0 → ⊥) = λ q. lt_irrefl 0 (subst (λ (x : ℕ). 0 < x) q some) in
    let over : m * up e ≡ a * down e = sym (mul-one (m * up e)) ∙ h.1 in
    let under : n * up d ≡ b * down d = sym (mul-one (n * up d)) ∙ k.1 in
    ap (λ (t : Bool). cond t (cond (eqb m 0) nan (inf false)) (round f false (m * up e * down d) (n * up d * down e))) (ne_eqb n 0 none)
    ∙ round_same f false (m * up e * down d) (n * up d * down e) a b (mul-pos (mul-pos some (up_pos d)) (down_pos e)) p
    (ap (λ (z : ℕ). z * down d * b) over ∙ arrange a (down e) (down d) b ∙ ap (λ (z : ℕ). a * (z * down e)) (sym under))

pub tens-positive : (k : ℕ) → 0 < 10 ^ k
tens-positive k = one-le-pow k 10 (lit< tt)

pub quotient-rounds : (m k : ℕ) → m ≤ 9007199254740992 → k ≤ 15 → div binary64 (of_int binary64 (pos m)) (of_int binary64 (pos (10 ^ k))) ≡ round binary64 false m (10 ^ k)
unfolding of_int
quotient-rounds m k h l =
    let t : 10 ^ k ≤ 9007199254740992 = le_trans (pow-le-pow_right (lit< tt) {i = k} {j = 15} l) (le_of_lt (lit< tt)) in
    div-at binary64 _ _ m (10 ^ k) (tens-positive k) (round_whole binary64 false m h) (round_whole binary64 false (10 ^ k) t)

pub fifteen : (m n : ℕ) → m < 10 ^ n → n ≤ 15 → m ≤ 9007199254740992
fifteen m n h l =
    let t : 10 ^ n ≤ 1000000000000000 = pow-le-pow_right (lit< tt) {i = n} {j = 15} l in
    omega arith

pub signed-rounds : (s : Bool) (a c : ℕ) → signed_of (round binary64 false a c) s ≡ round binary64 s a c
signed-rounds true a c = sym (round-neg binary64 a c)
signed-rounds false a c = refl

-- the double that a decimal writes
pub valued-is : (line : List ℕ) (negative : Bool) (d : Decimal) (at : ℕ) (x : Float) → (d.whole ≡ 0 → ⊥) → d.whole + d.scale ≤ 15 → Some at ≡ closed_at line d.at → x ≡ round binary64 false d.digits (10 ^ d.scale) → Some (read_at (signed_of x negative) at) ≡ valued line negative d
unfolding valued
valued-is line negative d at x h l ea ex =
    let written : Float = round binary64 negative d.digits (10 ^ d.scale) in
    let all : Option (Read Float) = option_map (read_at written) (closed_at line d.at) in
    ap (λ (y : Float). Some (read_at (signed_of y negative) at)) ex
    ∙ ap (λ (y : Float). Some (read_at y at)) (signed-rounds negative d.digits (10 ^ d.scale))
    ∙ ap (option_map (read_at written)) ea
    ∙ sym (ap (λ (b : Bool). cond (b || ltb 15 (d.whole + d.scale)) None all) (ne_eqb _ _ h) ∙ ap (λ (b : Bool). cond b None all) (le-ltb _ _ l))

-- ---- how large a number of so many digits is

-- k digits more, behind those of v
abbrev pub Digits : ℕ → ℕ → Read ℕ → Type 0
Digits v at n = (k : ℕ) × (n.at ≡ at + k) × (n.value < suc v * 10 ^ k)

here : (at : ℕ) → at ≡ at + 0
here at = omega arith

less : (v n : ℕ) → v < suc v * 10 ^ n
less v n = omega (arith, le-mul_of_pos_right (suc v) (tens-positive n))

-- one digit more
longer : (v d x n : ℕ) → d < 10 → x < suc (v * 10 + d) * 10 ^ n → x < suc v * 10 ^ suc n
longer v d x n h k =
    let l : suc (v * 10 + d) ≤ suc v * 10 = omega arith in
    let e : suc v * 10 ^ suc n ≡ suc v * 10 * 10 ^ n = ap (λ (z : ℕ). suc v * z) (pow-suc 10 n ∙ mul_comm (10 ^ n) 10) ∙ sym (mul_assoc (suc v) 10 (10 ^ n)) in
    omega (arith, mul-le-mul_right (10 ^ n) l, e, k)

further : (v at d : ℕ) (n : Read ℕ) → d < 10 → Digits (v * 10 + d) (suc at) n → Digits v at n
further v at d n l (k, e, h) = (suc k, omega (arith, e), longer v d n.value k l h)

-- by what stands behind the first digit d
judged : (v at d : ℕ) (rest : Option (Read ℕ)) (n : Read ℕ) (p q : Bool) → (p ≡ false → d < 10) → (rest ≡ Some n → Digits (v * 10 + d) (suc at) n) → cond p (Some (read_at v at)) (cond q None rest) ≡ Some n → Digits v at n
judged v at d rest n true q l r e = subst (λ (m : Read ℕ). Digits v at m) (same_Some _ _ e) (0, here at, less v 0)
judged v at d rest n false true l r e = absurd (none-some n e)
judged v at d rest n false false l r e = further v at d n (l refl) (r e)

pub bounded : (v at : ℕ) (bs : List ℕ) (n : Read ℕ) → decimals v at bs ≡ Some n → Digits v at n
unfolding decimals
bounded v at [] n e = subst (λ (m : Read ℕ). Digits v at m) (same_Some _ _ e) (0, here at, less v 0)
bounded v at (b ∷ bs) n e =
    judged v at (digit_of b) (decimals (v * 10 + digit_of b) (suc at) bs) n (leb 10 (digit_of b)) (leb 18446744073709551616 (v * 10 + digit_of b)) (leb-false _ _)
    (bounded (v * 10 + digit_of b) (suc at) bs n) e

-- ---- a decimal's digits

abbrev Below : Decimal → Type 0
Below d = d.digits < 10 ^ (d.whole + d.scale)

module _ (line : List ℕ) (from : ℕ) (n : Read ℕ) (w : Digits 0 from n) where
  whole_below : n.value < 10 ^ (n.at - from)
  whole_below =
      let (k, e, h) = w in
      let q : n.at - from ≡ k = omega (arith, e) in
      subst (λ (j : ℕ). n.value < 10 ^ j) (sym q) (omega (arith, h, one-mul (10 ^ k)))

  all-below : (all : Read ℕ) → Digits n.value (n.at + 1) all → Below (decimal_of all.at all.value (n.at - from) (all.at - (n.at + 1)))
  all-below all (j, e, h) =
      let q : all.at - (n.at + 1) ≡ j = omega (arith, e) in
      let b : all.value < 10 ^ (n.at - from + j) = omega (arith, h, mul-le-mul_right (10 ^ j) whole_below, pow-add 10 (n.at - from) j) in
      subst (λ (m : ℕ). all.value < 10 ^ (n.at - from + m)) (sym q) b

  behind : (d : Decimal) (all : Read ℕ) → Digits n.value (n.at + 1) all → behind_point from n all ≡ Some d → Below d
  behind d all h = go (eqb (all.at - (n.at + 1)) 0)
    where
      go : (b : Bool) → cond b None (Some (decimal_of all.at all.value (n.at - from) (all.at - (n.at + 1)))) ≡ Some d → Below d
      go true e = absurd (none-some d e)
      go false e = subst Below (same_Some _ _ e) (all-below all h)

  whole : (d : Decimal) → decimal_from line from n ≡ Some d → Below d
  whole d = go (stands line n.at 46)
    where
      go : (b : Bool) → cond b (option_and_then (behind_point from n) (decimals n.value (n.at + 1) (drop (n.at + 1) line))) (Some (decimal_of n.at n.value (n.at - from) 0)) ≡ Some d → Below d
      go true e = option_and_then_some (behind_point from n) (decimals n.value (n.at + 1) (drop (n.at + 1) line)) d e (λ (all : Read ℕ) (h : decimals n.value (n.at + 1) (drop (n.at + 1) line) ≡ Some all) (b : behind_point from n all ≡ Some d). behind d all (bounded n.value (n.at + 1) (drop (n.at + 1) line) all h) b)
      go false e = let z : n.at - from + 0 ≡ n.at - from = omega arith in subst Below (same_Some _ _ e) (subst (λ (k : ℕ). n.value < 10 ^ k) (sym z) whole_below)

pub digits-below : (line : List ℕ) (from : ℕ) (d : Decimal) → decimal_at line from ≡ Some d → Below d
unfolding decimal_at
digits-below line from d e =
    option_and_then_some (decimal_from line from) (decimals_at line from) d e (λ (n : Read ℕ) (h : decimals_at line from ≡ Some n) (b : decimal_from line from n ≡ Some d). whole line from n (bounded 0 from (drop from line) n h) d b)
