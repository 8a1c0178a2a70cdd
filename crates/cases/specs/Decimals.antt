-- Doubles that are written as decimals: a sign or none, digits, and a point with more digits or none; at most 15 digits in all. Assumes nothing.
use Rattle.std.specs.Prelude.{ℕ, ◌+◌, ◌-◌, ◌^◌, Bool, true, false, cond, ◌&&◌, ◌||◌, List, length, drop, ◌==◌, nat_lt, slice_index, Float, Option, Some, None}
use Rattle.std.specs.Option.{option_and_then, option_map}
use Rattle.std.specs.Float.{binary64}
use Rattle.std.specs.Float.Ieee.{round, neg}
use Rattle.cases.specs.declared.text.numbers.Read.{Read}
use Rattle.cases.specs.declared.text.decimals.Decimal.{Decimal}
use Rattle.cases.specs.declared.text.words.Stop.TheVariants.{Word}
use Rattle.cases.specs.Text.{scanned, closed_at}
use Rattle.cases.specs.Numbers.{read_at, decimals, decimals_at}

-- a decimal's end, the number that its digits write with the point left out, how many of them stand before the point, how many behind it
abbrev pub decimal_of : ℕ → ℕ → ℕ → ℕ → Decimal
decimal_of at digits whole scale = record { at = at; digits = digits; whole = whole; scale = scale }

-- a byte of the line
abbrev pub stands : List ℕ → ℕ → ℕ → Bool
stands line at b = nat_lt at (length line) && slice_index line at == b

-- the digits before a point, and those behind it, which go on with the number: at least one stands there
abbrev pub behind_point : ℕ → Read ℕ → Read ℕ → Option Decimal
behind_point from n all =
    cond (all.at - (n.at + 1) == 0) None (Some (decimal_of all.at all.value (n.at - from) (all.at - (n.at + 1))))

abbrev pub decimal_from : List ℕ → ℕ → Read ℕ → Option Decimal
decimal_from line from n =
    cond (stands line n.at 46) (option_and_then (behind_point from n) (decimals n.value (n.at + 1) (drop (n.at + 1) line)))
    (Some (decimal_of n.at n.value (n.at - from) 0))

-- the decimal from a place on, without its sign
unfoldable pub decimal_at : List ℕ → ℕ → Option Decimal
decimal_at line from = option_and_then (decimal_from line from) (decimals_at line from)

abbrev pub signed_of : Float → Bool → Float
signed_of x true = neg x
signed_of x false = x

-- the double that a decimal writes: the one nearest to its digits' number over ten to the number of digits behind the point, with its sign. It has some
-- digit before its point, at most 15 in all, and the word ends with it
unfoldable pub valued : List ℕ → Bool → Decimal → Option (Read Float)
valued line negative d =
    cond (d.whole == 0 || nat_lt 15 (d.whole + d.scale)) None
    (option_map (read_at (round binary64 negative d.digits (10 ^ d.scale))) (closed_at line d.at))

-- the next word, a decimal
unfoldable pub read_written : List ℕ → ℕ → Option (Read Float)
read_written line at =
    cond (stands line (scanned line at Word) 45) (option_and_then (valued line true) (decimal_at line (scanned line at Word + 1)))
    (option_and_then (valued line false) (decimal_at line (scanned line at Word)))
