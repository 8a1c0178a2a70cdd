-- What a line that lends promises: if it is not readable, every list is as it was; what was lent stays lent, since nothing comes in its place. Assumes nothing.
use Rattle.std.specs.Prelude.{◌≡◌, ℕ, List, Float, Option, None}
use Rattle.cases.specs.declared.lines.lent.Lent.{Lent}

-- each list before and after
pub record Lends (r : Option Lent) (ends ends' : List ℕ) (times times' values values' : List Float) (marks marks' : List ℕ) : Type 0 where
  pub same_ends : r ≡ None → ends' ≡ ends
  pub same-times : r ≡ None → times' ≡ times
  pub same-values : r ≡ None → values' ≡ values
  pub same-marks : r ≡ None → marks' ≡ marks

-- the same of a line that lends an order list, which stands in two of the lists
pub record LendsOrder (r : Option Lent) (ends ends' marks marks' : List ℕ) : Type 0 where
  pub same_ends : r ≡ None → ends' ≡ ends
  pub same-marks : r ≡ None → marks' ≡ marks
