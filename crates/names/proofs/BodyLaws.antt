-- The body from what the code works out: the sign, the size's whole part or its decimals, and the widths. Assumes nothing.
use Prim.Native.Nat.{ℕ, zero, suc, ◌+◌, ◌-◌, ◌*◌, ◌/◌, ◌%◌, ◌^◌, ◌≤◌, ◌<◌, max}
use mathlib.Core.Path.{◌≡◌, refl, sym, ap, ap₂, ◌∙◌}
use mathlib.Core.Bool.{Bool, true, false, ◌&&◌, cond, true≢false, false≢true}
use mathlib.Core.List.{List, [], ◌∷◌, ◌++◌, append-nil}
use native.Mathlib.Nat.{mul_right_comm}
use native.Mathlib.Omega.{arith}
use lib.Dec.{T, ltb}
use lib.ListN.{length, set, length-append}
use lib.Pow.{pow_pos}
use lib.Ieee.{Float, nan, inf, fin}
use lib.Ieee.Scale.{finite}
use lib.Ieee.Positive.{num, den, den_pos}
use lib.Ieee.Nearest.{closest, closest_same, div_same}
use Rattle.gf.specs.Doubles.{truncated, sign_bit}
use Rattle.definitions.specs.Names.{minus, dot, digits, places, padded, whole_body, decimals, fraction_body, body}
use Rattle.names.specs.declared.magnitude.Magnitude.{Magnitude}
use Rattle.names.specs.Magnitude.{Measures}
use Rattle.names.specs.Pattern.{width_of, with_dot}
use Rattle.names.specs.Put.{put}
use Rattle.names.specs.declared.body.Body.{Body}
use Rattle.names.specs.Body.{sign_of, pointed, body_of}
use Rattle.names.proofs.PutLaws.{put-none, put-set, put_byte, put_three, put-first-length, put-second-length}
use Rattle.names.proofs.DigitLaws.{length_digits}

-- ---- the definitions by `num` and `den`, and so by what was measured

pub truncated-part : (x : Float) → T (finite x) → truncated x ≡ num x / den x
unfolding truncated
truncated-part nan h = absurd h
truncated-part (inf s) h = absurd h
truncated-part (fin s m e) h = refl

pub decimals-part : (k : ℕ) (x : Float) → T (finite x) → decimals k x ≡ closest (num x * 10 ^ k) (den x)
unfolding decimals
decimals-part k nan h = absurd h
decimals-part k (inf s) h = absurd h
decimals-part k (fin s m e) h = refl

module _ (x : Float) (h : T (finite x)) (m : Magnitude) (is : Measures x m) where
  pub truncated-is : m.digits / 2 ^ m.shift ≡ truncated x
  truncated-is = sym (truncated-part x h ∙ div_same (num x) (den x) m.digits (2 ^ m.shift) (den_pos x) (pow_pos m.shift) is.size)

  pub decimals-is : (k : ℕ) → closest (m.digits * 10 ^ k) (2 ^ m.shift) ≡ decimals k x
  decimals-is k =
      sym (
      decimals-part k x h
      ∙ closest_same (num x * 10 ^ k) (den x) (m.digits * 10 ^ k) (2 ^ m.shift) (den_pos x) (pow_pos m.shift)
      (mul_right_comm (num x) (10 ^ k) (2 ^ m.shift) ∙ ap (λ (n : ℕ). n * 10 ^ k) is.size ∙ mul_right_comm m.digits (den x) (10 ^ k))
      )

-- ---- without a fraction

-- the body by its sign and its whole part
whole_of : ℕ → Bool → ℕ → List ℕ
whole_of width s n = cond (s && ltb 0 n) (minus ∷ padded (width - 1) n) (padded width n)

module _ (width : ℕ) (x : Float) (s : Bool) (n : ℕ) (sign : s ≡ sign_bit x) (is : n ≡ truncated x) where
  whole_is : whole_of width s n ≡ whole_body width x
  unfolding whole_body whole_of
  whole_is = ap₂ (whole_of width) sign is

  -- the minus counted
  pub whole-body : (t : Bool) (w : ℕ) → t ≡ (s && ltb 0 n) → w ≡ max (width - length (sign_of t)) (places n)
      → body_of (record { minus = t; width = w; whole = n; fraction = 0; rest = 0 }) ≡ whole_body width x
  unfolding body_of whole_of padded
  whole-body true w t e =
      ap (λ (l : List ℕ). minus ∷ l) (append-nil (digits w n) ∙ ap (λ (k : ℕ). digits k n) e)
      ∙ ap (λ (b : Bool). cond b (minus ∷ padded (width - 1) n) (padded width n)) t
      ∙ whole_is
  whole-body false w t e =
      let all : max (width - 0) (places n) ≡ max width (places n) = omega arith in
      append-nil (digits w n)
      ∙ ap (λ (k : ℕ). digits k n) (e ∙ all)
      ∙ ap (λ (b : Bool). cond b (minus ∷ padded (width - 1) n) (padded width n)) t
      ∙ whole_is

-- ---- with one

sign-is : (s : Bool) → sign_of s ≡ cond s (minus ∷ []) []
sign-is true = refl
sign-is false = refl

pub with-fraction : (width k : ℕ) (x : Float) (s : Bool) (n ten w : ℕ) → 0 < k → s ≡ sign_bit x → n ≡ decimals k x → ten ≡ 10 ^ k → w ≡ max width (places (n / ten))
    → body_of (record { minus = s; width = w; whole = n / ten; fraction = k; rest = n % ten }) ≡ fraction_body width k x
unfolding body_of fraction_body padded
with-fraction width zero x s n ten w pos sign is power e = absurd (omega arith)
with-fraction width (suc k) x s n ten w pos sign is power e =
    let whole : n / ten ≡ decimals (suc k) x / 10 ^ suc k = ap₂ ◌/◌ is power in
    let rest : n % ten ≡ decimals (suc k) x % 10 ^ suc k = ap₂ ◌%◌ is power in
    ap₂ ◌++◌ (sign-is s ∙ ap (λ (b : Bool). cond b (minus ∷ []) []) sign)
    (ap₂ ◌++◌
    (ap₂ digits (e ∙ ap (λ (q : ℕ). max width (places q)) whole) whole)
    (ap (λ (r : ℕ). dot ∷ digits (suc k) r) rest))

-- ---- either

pub body-none : (width k : ℕ) (x : Float) → k ≡ 0 → whole_body width x ≡ body width (width_of k) x
body-none width k x e = ap (λ (n : ℕ). body width (width_of n) x) (sym e)

pub body-some : (width k : ℕ) (x : Float) → (k ≡ 0 → ⊥) → fraction_body width k x ≡ body width (width_of k) x
body-some width zero x e = absurd (e refl)
body-some width (suc k) x e = refl

-- ---- lengths

pub length-pointed : (k n : ℕ) → length (pointed k n) ≡ with_dot k
length-pointed zero n = refl
length-pointed (suc k) n = ap suc (length_digits (suc k) n)

pub length-body : (b : Body) → length (body_of b) ≡ length (sign_of b.minus) + b.width + with_dot b.fraction
unfolding body_of
length-body b =
    omega (
      arith,
      length-append (sign_of b.minus) (digits b.width b.whole ++ pointed b.fraction b.rest),
      length-append (digits b.width b.whole) (pointed b.fraction b.rest),
      length_digits b.width b.whole,
      length-pointed b.fraction b.rest,
    )

-- ---- writing

pub put-minus : (s : Bool) (out : List ℕ) (at : ℕ) → s ≡ true → at + length (sign_of s) ≤ length out → set out at minus ≡ put out at (sign_of s)
put-minus true out at e room = put-set out at minus (omega arith)
put-minus false out at e room = absurd (false≢true e)

pub put-no-minus : (s : Bool) (out : List ℕ) (at : ℕ) → s ≡ false → out ≡ put out at (sign_of s)
put-no-minus true out at e = absurd (true≢false e)
put-no-minus false out at e = sym (put-none out at)

pub put-no-point : (k n : ℕ) (out : List ℕ) (at : ℕ) → k ≡ 0 → out ≡ put out at (pointed k n)
put-no-point zero n out at e = sym (put-none out at)
put-no-point (suc k) n out at e = absurd (omega arith)

pub put-point : (k n : ℕ) (out : List ℕ) (at : ℕ) → (k ≡ 0 → ⊥) → at < length out → put (set out at dot) (at + 1) (digits k n) ≡ put out at (pointed k n)
put-point zero n out at e room = absurd (e refl)
put-point (suc k) n out at e room = put_byte out at dot (digits (suc k) n) room

-- the three parts: `whole` and `point` are where the second and the third begin
module _ (out : List ℕ) (at : ℕ) (b : Body) (room : at + length (body_of b) ≤ length out) where
  abbrev sign : List ℕ
  sign = sign_of b.minus

  abbrev front : List ℕ
  front = digits b.width b.whole

  abbrev tail : List ℕ
  tail = pointed b.fraction b.rest

  parts-room : at + length sign + length front + length tail ≤ length out
  parts-room = omega (arith, length-body b, length_digits b.width b.whole, length-pointed b.fraction b.rest)

  module _ (one : List ℕ) (e1 : one ≡ put out at sign) (whole : ℕ) (w : whole ≡ at + length sign) where
    pub whole_room : whole + b.width ≤ length one
    whole_room = rw e1 (omega (arith, put-first-length out at sign front tail parts-room, parts-room, length_digits b.width b.whole))

    module _ (two : List ℕ) (e2 : two ≡ put one whole front) where
      two_is : two ≡ put (put out at sign) (at + length sign) front
      two_is = e2 ∙ ap₂ (λ (l : List ℕ) (n : ℕ). put l n front) e1 w

      pub point-room : whole + b.width + with_dot b.fraction ≤ length two
      point-room =
          rw two_is (
          omega (
            arith,
            put-second-length out at sign front tail parts-room,
            parts-room,
            length_digits b.width b.whole,
            length-pointed b.fraction b.rest,
          )
          )

      pub body-put : (three : List ℕ) → three ≡ put two (whole + b.width) tail → three ≡ put out at (body_of b)
      unfolding body_of
      body-put three e3 =
          let point : whole + b.width ≡ at + length sign + length front = omega (arith, length_digits b.width b.whole) in
          e3 ∙ ap₂ (λ (l : List ℕ) (n : ℕ). put l n tail) two_is point ∙ put_three out at sign front tail parts-room
