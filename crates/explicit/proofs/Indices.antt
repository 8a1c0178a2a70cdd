-- Clip numbers as indices. Assumes nothing.
use Prim.Native.Nat.{ℕ, ◌<◌}
use mathlib.Core.Path.{◌≡◌}
use mathlib.Core.Bool.{false, ◌&&◌}
use mathlib.Core.List.{List}
use native.Mathlib.Omega.{arith}
use lib.Dec.{T, ltb, ltb→lt}
use lib.Ieee.{Float, le}
use lib.Ieee.Fits.{and_l, and_r}
use Rattle.gf.specs.Doubles.{0·0, is_whole, truncated, is_clip_number}
use Rattle.laws.specs.list.Every.{Every}
use Rattle.laws.proofs.list.Every.{any-not-every, every_map}
use Rattle.explicit.specs.Parsing.{Indexed, any_not_clip}

index-ready : (clips : ℕ) (c : Float) → clips < 0x1_0000_0000_0000_0000 → T (is_clip_number clips c) → Indexed c
unfolding is_clip_number
index-ready clips c l h =
    let w = and_l (is_whole c && le 0·0 c) (ltb (truncated c) clips) h in
    (and_l (is_whole c) (le 0·0 c) w, and_r (is_whole c) (le 0·0 c) w, omega (arith, ltb→lt (truncated c) clips (and_r (is_whole c && le 0·0 c) (ltb (truncated c) clips) h)))

-- clip numbers are indices
pub clips-indexed : (clips : ℕ) (numbers : List Float) → clips < 0x1_0000_0000_0000_0000 → any_not_clip clips numbers ≡ false → Every Indexed numbers
clips-indexed clips numbers l e = every_map (λ (c : Float). T (is_clip_number clips c)) Indexed (λ c h. index-ready clips c l h) numbers (any-not-every (is_clip_number clips) numbers e)
