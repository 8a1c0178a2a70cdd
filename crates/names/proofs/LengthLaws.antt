-- "A name has at most 268 bytes": the bytes of a readable template, and 13 more at most. A size up to 2 ^ 40 has 13 digits, and a run one `#` at least. Assumes nothing.
use Prim.Native.Nat.{ℕ, zero, suc, ◌+◌, ◌-◌, ◌*◌, ◌/◌, ◌%◌, ◌^◌, ◌≤◌, max, compare}
use mathlib.Core.Path.{◌≡◌, sym, ap, ◌∙◌}
use mathlib.Core.Bool.{Bool, true, false, ◌&&◌, cond}
use mathlib.Core.List.{List, [], ◌∷◌, ◌++◌}
use native.Mathlib.Nat.{le_trans, le_of_eq, mul-one, mul_comm, mul_right_comm, mul-le-mul_right, div-le_of_le-mul, div-one, mod-one, max-le}
use native.Mathlib.Omega.{arith}
use lib.Dec.{T, ltb}
use lib.ListN.{length, take, drop, length-append, length-drop}
use lib.Seq.{length-take-le}
use lib.Ieee.{Float, nearest}
use lib.Ieee.Scale.{finite}
use lib.Ieee.Bits.{is_true}
use lib.Ieee.Positive.{num, den, den_pos}
use lib.Ieee.Nearest.{closest, closest_mono}
use Rattle.gf.specs.Doubles.{storable, truncated, sign_bit}
use Rattle.gf.proofs.Exactly.{within-finite}
use Rattle.definitions.specs.declared.ClipTime.{ClipTime}
use Rattle.definitions.specs.Names.{HashPattern, minus, dot, digits, places, padded, whole_body, decimals, fraction_body, body, format, name, split, readable}
use Rattle.definitions.specs.Facts.{NamesAreShort}
use Rattle.names.specs.declared.pattern.Pattern.{Pattern}
use Rattle.names.specs.Pattern.{width_of, with_dot, Parses}
use Rattle.names.proofs.PatternLaws.{found, found-parses, readable-limits}
use Rattle.names.proofs.DigitLaws.{places-le, length_digits}
use Rattle.names.proofs.MagnitudeLaws.{storable-size}
use Rattle.names.proofs.BodyLaws.{truncated-part, decimals-part}

-- ---- the whole part has 13 digits at most

short : (n : ℕ) → n ≤ 2 ^ 40 → places n ≤ 13
short n h = places-le 12 n (omega arith)

module _ (x : Float) (small : T (storable x)) where
  fine : T (finite x)
  fine = within-finite 40 x small

  truncated-le : truncated x ≤ 2 ^ 40
  truncated-le = rw (truncated-part x fine) (div-le_of_le-mul (den x) (le_trans (storable-size x small) (le_of_eq (mul_comm (2 ^ 40) (den x)))))

  closest-one : (n : ℕ) → closest n 1 ≡ n
  closest-one n = ap (λ (q : ℕ). nearest q (compare (n % 1 * 2) 1)) (div-one n) ∙ ap (λ (r : ℕ). nearest n (compare (r * 2) 1)) (mod-one n)

  decimals-le : (k : ℕ) → decimals k x / 10 ^ k ≤ 2 ^ 40
  decimals-le k =
      let h : num x * 10 ^ k * 1 ≤ 2 ^ 40 * 10 ^ k * den x =
      le_trans (le_of_eq (mul-one (num x * 10 ^ k))) (le_trans (mul-le-mul_right (10 ^ k) (storable-size x small)) (le_of_eq (mul_right_comm (2 ^ 40) (den x) (10 ^ k)))) in
      let g : decimals k x ≤ 2 ^ 40 * 10 ^ k =
      le_trans (le_of_eq (decimals-part k x fine))
      (le_trans (closest_mono (num x * 10 ^ k) (den x) (2 ^ 40 * 10 ^ k) 1 (den_pos x) (omega arith) h) (le_of_eq (closest-one (2 ^ 40 * 10 ^ k)))) in
      div-le_of_le-mul (10 ^ k) (le_trans g (le_of_eq (mul_comm (2 ^ 40) (10 ^ k))))

-- ---- a body has 13 bytes at most more than its runs

length-padded : (width n : ℕ) → length (padded width n) ≡ max width (places n)
unfolding padded
length-padded width n = length_digits (max width (places n)) n

module _ (width : ℕ) (x : Float) (one : 1 ≤ width) (small : T (storable x)) where
  whole_le : length (whole_body width x) ≤ width + 13
  unfolding whole_body
  whole_le = go (sign_bit x && ltb 0 (truncated x)) (truncated x) (short (truncated x) (truncated-le x small))
    where
      go : (b : Bool) (n : ℕ) → places n ≤ 13 → length (cond b (minus ∷ padded (width - 1) n) (padded width n)) ≤ width + 13
      go true n h =
          let m : max (width - 1) (places n) ≤ width - 1 + 13 = max-le (omega arith) (omega arith) in
          omega (arith, length-padded (width - 1) n)
      go false n h =
          let m : max width (places n) ≤ width + 13 = max-le (omega arith) (omega arith) in
          omega (arith, length-padded width n)

  fraction-le : (k : ℕ) → length (fraction_body width k x) ≤ width + suc k + 13
  unfolding fraction_body
  fraction-le k = go (sign_bit x) (decimals k x / 10 ^ k) (decimals k x % 10 ^ k) (short (decimals k x / 10 ^ k) (decimals-le x small k))
    where
      go : (b : Bool) (n r : ℕ) → places n ≤ 13 → length (cond b (minus ∷ []) [] ++ (padded width n ++ (dot ∷ digits k r))) ≤ width + suc k + 13
      go true n r h =
          let m : max width (places n) ≤ width + 12 = max-le (omega arith) (omega arith) in
          omega (arith, length-append (padded width n) (dot ∷ digits k r), length-padded width n, length_digits k r)
      go false n r h =
          let m : max width (places n) ≤ width + 12 = max-le (omega arith) (omega arith) in
          omega (arith, length-append (padded width n) (dot ∷ digits k r), length-padded width n, length_digits k r)

  pub body-le : (k : ℕ) → length (body width (width_of k) x) ≤ width + with_dot k + 13
  body-le zero = omega (arith, whole_le)
  body-le (suc k) = omega (arith, fraction-le (suc k))

-- ---- the name

pub name-parts : (l : List ℕ) (p : Pattern) (t : ClipTime) → Parses l p → take p.first l ++ (body p.width (width_of p.fraction) t.0 ++ drop p.suffix l) ≡ name l t
unfolding name format
name-parts l p t is = ap (λ (q : HashPattern). format q t) is.is

pub length-parts : (l : List ℕ) (p : Pattern) (b : List ℕ) → Parses l p → length (take p.first l ++ (b ++ drop p.suffix l)) ≡ p.first + length b + (length l - p.suffix)
length-parts l p b is =
    omega (
      arith,
      length-append (take p.first l) (b ++ drop p.suffix l),
      length-append b (drop p.suffix l),
      length-take-le p.first l (omega (arith, is.joined, is.held)),
      length-drop p.suffix l,
    )

module _ (l : List ℕ) (t : ClipTime) (few : length l ≤ 255) (small : T (storable t.0)) where
  pub name-le : (p : Pattern) → Parses l p → 1 ≤ p.width → length (name l t) ≤ 268
  name-le p is one =
      let b = body p.width (width_of p.fraction) t.0 in
      rw (sym (name-parts l p t is)) (omega (arith, length-parts l p b is, body-le p.width t.0 one small p.fraction, is.joined, is.held))

pub names-are-short : NamesAreShort
names-are-short l t few small r =
    let is = found-parses l in
    name-le l t few small (found l) is (readable-limits l (found l) (ap readable is.is ∙ is_true (readable (split l)) r)).0
