-- Whether -0.0 is among the gathered times: it is a start, or a knot's x, or, with no knots, a sample of the clip that is active at zero. Assumes nothing.
use Rattle.std.specs.Prelude.{◌≡◌, Bool, ◌&&◌, ◌||◌, List, ℕ, ◌≤◌, ◌<◌, eqb, length, get_or, Float}
use Rattle.gf.specs.Doubles.{total_key}
use Rattle.definitions.specs.Lists.{any}
use Rattle.definitions.specs.Timing.{last_at_most}
use Rattle.definitions.specs.Samples.{clip_begin, clip_end}
use Rattle.laws.specs.list.Places.{Ascending}
use Rattle.window.specs.Parts.{part_of}
use Rattle.stage.specs.MinusZero.{minus_zero}

abbrev pub is_minus_zero : Float → Bool
is_minus_zero x = eqb (total_key x) 0x7fff_ffff_ffff_ffff

abbrev pub any_minus_zero : List Float → Bool
any_minus_zero l = any is_minus_zero l

-- the samples of the clip that is active at zero
abbrev pub samples_at_zero : List Float → List ℕ → List Float → List ℕ → List Float
samples_at_zero starts clips times ends = part_of times ends (get_or clips (last_at_most starts minus_zero) 0)

abbrev pub minus_gathered : List Float → List ℕ → List Float → List Float → List ℕ → Bool
minus_gathered starts clips xs times ends = any_minus_zero starts || (any_minus_zero xs || (eqb (length xs) 0 && any_minus_zero (samples_at_zero starts clips times ends)))

-- what the look at the samples asks of the lists
pub record Sampled (starts : List Float) (clips : List ℕ) (times : List Float) (ends : List ℕ) : Type 0 where
  pub rising : Ascending starts
  pub some : 0 < length starts
  pub paired : length starts ≡ length clips
  pub named : (p : ℕ) → p < length starts → get_or clips p 0 < length ends
  pub order : (c : ℕ) → c < length ends → clip_begin ends c ≤ clip_end ends c
  pub inside : (c : ℕ) → c < length ends → clip_end ends c ≤ length times
