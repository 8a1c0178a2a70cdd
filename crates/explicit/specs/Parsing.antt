-- What an explicit acceptance replies. Assumes nothing.
use Rattle.std.specs.Prelude.{ℕ, ◌<◌, ◌≡◌, Bool, not, ◌||◌, List, T, ltb, eqb, length, Float}
use Rattle.std.specs.Float.Ieee.{le}
use Rattle.gf.specs.Doubles.{0·0, is_whole, truncated, is_clip_number}
use Rattle.definitions.specs.declared.Missing.{Missing}
use Rattle.definitions.specs.Lists.{◌if◌else◌, any}
use Rattle.definitions.specs.ClipSet.{max_clips, max_active, max_knots, max_blocks}
use Rattle.definitions.specs.Explicit.{ExplicitFields, explicit1, explicit2, explicit3}

abbrev pub explicit_fields : ℕ → List Float → List Float → List Float → List Float → List Float → Missing → ExplicitFields
explicit_fields clips starts numbers xs ys blocks m = record {
  clips = clips;
  start_times = starts;
  start_clips = numbers;
  knot_x = xs;
  knot_y = ys;
  blocks = blocks;
  default = m.default;
  interpolate_missing = m.interpolate;
}

-- the definitions' 1, of lengths
unfoldable pub misshapen : ℕ → ℕ → ℕ → ℕ → ℕ → ℕ → Bool
misshapen clips starts numbers xs ys blocks =
    ltb max_clips clips
    || ltb max_active starts
    || ltb max_active numbers
    || ltb max_knots xs
    || ltb max_knots ys
    || ltb max_blocks blocks
    || not (eqb starts numbers)
    || not (eqb xs ys)

abbrev pub any_not_clip : ℕ → List Float → Bool
any_not_clip clips numbers = any (λ (c : Float). not (is_clip_number clips c)) numbers

-- a number that is an index
abbrev pub Indexed : Float → Type 0
Indexed c = T (is_whole c) × T (le 0·0 c) × (truncated c < 0x1_0000_0000_0000_0000)

-- the numbers that the fields alone give
unfoldable pub fields_number : ExplicitFields → ℕ
fields_number f =
    1 if explicit1 f else
    2 if explicit2 f else
    3 if explicit3 f else
    0

-- lists as long as the fields'
pub record Lent (starts xs times : List Float) (indices : List ℕ) (us vs : List Float) : Type 0 where
  pub for-times : length times ≡ length starts
  pub for-indices : length indices ≡ length starts
  pub for-xs : length us ≡ length xs
  pub for-ys : length vs ≡ length xs
