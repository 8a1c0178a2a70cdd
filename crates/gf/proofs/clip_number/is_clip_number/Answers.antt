-- `gf::clip_number::is_clip_number` meets its contract: the first test that fails decides, and from 2^64 on no count is above. Assumes nothing.
use Rattle.std.proofs.Common.{◌≡◌, ℕ, ◌^◌, ◌<◌, ◌≤◌, Bool, true, false, T, ltb, pos, sym, refl, ap, ◌∙◌, subst, true≢false, lt_of_lt_of_le, arith, ltb-true}
use lib.Ieee.{Float, fin, of_bits, lt, le}
use lib.Ieee.Bits.{is_true}
use Rattle.gf.specs.Doubles.{0·0, is_whole, truncated, is_clip_number}
use Rattle.gf.proofs.ClipNumbers.{below_power, power_below}
use Rattle.gf.proofs.clip_number.is_clip_number.Goals.{then-is_whole, else-is_whole, then-x, else-x}
use Rattle.gf.proofs.clip_number.is_clip_number.Goals as goal

passes : (b : Bool) → b ≡ true → T b
passes b e = subst T (sym e) tt

beyond : (w clips : ℕ) (x : Float) → clips ≤ 2 ^ w → T (is_whole x) → T (le 0·0 x) → lt x (fin false 1 (pos w)) ≡ false → ltb (truncated x) clips ≡ false
beyond w clips x h a b k = go (ltb (truncated x) clips) (ltb-true (truncated x) clips)
  where
    go : (t : Bool) → (t ≡ true → truncated x < clips) → t ≡ false
    go true g = absurd (true≢false (sym (is_true (lt x (fin false 1 (pos w))) (below_power w x a b (lt_of_lt_of_le (g refl) h))) ∙ k))
    go false g = refl

pub to_index-requires : goal.to_index-requires
unfolding of_bits
to_index-requires c = elim c.if-x.branch [
  | then-x w ↦ elim c.if-is_whole.branch [
    | then-is_whole v ↦
        let x = c.args.x in
        let a = passes (is_whole x) cc in
        let b = passes (le 0·0 x) cc in
        (a, b, power_below 64 x a b (passes (lt x (fin false 1 (pos 64))) cc))
    | else-is_whole v ↦ absurd cc
  ]
  | else-x w ↦ absurd cc
]

pub returns-then-x-2 : goal.returns-then-x-2
unfolding is_clip_number of_bits
returns-then-x-2 c = elim c.if-x.branch [
  | then-x w ↦ elim c.if-is_whole.branch [
    | then-is_whole v ↦
        let a : is_whole c.args.x ≡ true = cc in
        let b : le 0·0 c.args.x ≡ true = cc in
        rw (a, b) (ap (λ (n : ℕ). ltb n c.args.clips) c.to_index.ensures)
    | else-is_whole v ↦ absurd cc
  ]
  | else-x w ↦ absurd cc
]

pub returns-else-x-2 : goal.returns-else-x-2
unfolding is_clip_number of_bits
returns-else-x-2 c = elim c.if-x.branch [
  | then-x w ↦ elim c.if-is_whole.branch [
    | then-is_whole v ↦
        let x = c.args.x in
        let clips = c.args.clips in
        let fits : clips ≤ 0x1_0000_0000_0000_0000 = omega arith in
        let a : is_whole x ≡ true = cc in
        let b : le 0·0 x ≡ true = cc in
        rw (c.if-x-2.false, a, b, beyond 64 clips x fits (passes (is_whole x) a) (passes (le 0·0 x) b) cc)
    | else-is_whole v ↦ absurd cc
  ]
  | else-x w ↦ elim c.if-is_whole.branch [
    | then-is_whole v ↦
        let a : is_whole c.args.x ≡ true = cc in
        let b : le 0·0 c.args.x ≡ false = cc in
        rw (c.if-x-2.false, a, b)
    | else-is_whole v ↦ let a : is_whole c.args.x ≡ false = cc in rw (c.if-x-2.false, a)
  ]
]
