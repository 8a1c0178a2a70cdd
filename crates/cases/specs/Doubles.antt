-- The doubles of a line: by their bits, or as decimals. Assumes nothing.
use Rattle.std.specs.Prelude.{ℕ, List, from_bits, to_bits, Float, Option, Some, None}
use Rattle.std.specs.Option.{option_map}
use Rattle.std.specs.Float.{binary64}
use Rattle.cases.specs.declared.text.numbers.Read.{Read}
use Rattle.cases.specs.Numbers.{read_at, read_bits}
use Rattle.cases.specs.Decimals.{read_written}

abbrev pub double_of : Read ℕ → Read Float
double_of n = read_at (from_bits binary64 n.value) n.at

abbrev pub pattern_of : Read Float → Read ℕ
pattern_of d = read_at (to_bits binary64 d.value) d.at

-- what is not its bits is a decimal
abbrev pub bits_or_decimal : Option (Read ℕ) → Option (Read Float) → Option (Read Float)
bits_or_decimal None written = written
bits_or_decimal (Some n) written = Some (double_of n)

-- the same, its bits
abbrev pub bits_or_pattern : Option (Read ℕ) → Option (Read Float) → Option (Read ℕ)
bits_or_pattern None written = option_map pattern_of written
bits_or_pattern (Some n) written = Some n

-- the next word, a double
unfoldable pub read_double : List ℕ → ℕ → Option (Read Float)
read_double line at = bits_or_decimal (read_bits line at) (read_written line at)

unfoldable pub read_pattern : List ℕ → ℕ → Option (Read ℕ)
read_pattern line at = bits_or_pattern (read_bits line at) (read_written line at)
