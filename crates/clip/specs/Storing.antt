-- The last checks of every set: the numbers that its ordered lists may still give, and the set in its arrays. Assumes nothing.
use Rattle.std.specs.Prelude.{ℕ, ◌≤◌, ◌≡◌, ◌||◌, List, length, Float, Result}
use Rattle.definitions.specs.declared.Default.{Default}
use Rattle.definitions.specs.declared.refusal.Refusal.{Refusal}
use Rattle.definitions.specs.Lists.{◌if◌else◌}
use Rattle.definitions.specs.Doubles.{two_equal, three_equal}
use Rattle.definitions.specs.ClipSet as Definitions
use Rattle.definitions.specs.ClipSet.{max_active, max_knots, max_blocks, any_unstorable, beyond_limits, equal_starts, equal_knots, bad_default_mark}
use Rattle.clip.specs.declared.ClipSet.{ClipSet}
use Rattle.clip.specs.Preparing.{HandsBack}

-- lists that pair, within their limits
pub record Fitting (times : List Float) (numbers : List ℕ) (xs ys blocks : List Float) : Type 0 where
  pub starts : length times ≡ length numbers
  pub knots : length xs ≡ length ys
  pub few-starts : length times ≤ max_active
  pub few-knots : length xs ≤ max_knots
  pub few-blocks : length blocks ≤ max_blocks

unfoldable pub settle_number : Definitions.ClipSet → ℕ
settle_number set =
    2 if beyond_limits set else
    4 if equal_starts set else
    5 if equal_knots set else
    9 if bad_default_mark set.default else
    0

-- the same of the lists
unfoldable pub lists_number : List Float → List Float → List Float → Default → ℕ
lists_number times xs blocks default =
    2 if any_unstorable times || any_unstorable xs || any_unstorable blocks else
    4 if two_equal times else
    5 if three_equal xs else
    9 if bad_default_mark default else
    0

-- the set, or the one that is kept where its own numbers refuse it
abbrev pub Stores : (kept made : Definitions.ClipSet) → Result ClipSet Refusal → Type 0
Stores kept made r = HandsBack (settle_number made) kept made r
