-- The numbers of a line: decimal counts, and doubles by their bits. Assumes nothing.
use Rattle.std.specs.Prelude.{ℕ, zero, suc, ◌+◌, ◌-◌, ◌*◌, cond, List, [], ◌∷◌, drop, ◌==◌, nat_le, nat_lt, Option, Some, None}
use Rattle.std.specs.Option.{option_and_then, option_map}
use Rattle.cases.specs.declared.text.numbers.Read.{Read}
use Rattle.cases.specs.declared.text.words.Stop.TheVariants.{Word}
use Rattle.cases.specs.Text.{scanned, closed_at}

-- what was read, and the place behind it
abbrev pub read_at : {A : Type 0} → A → ℕ → Read A
read_at value at = record { at = at; value = value }

-- the digit that the byte is, 16 for a byte that is none: 0 to 9, A to F, a to f
unfoldable pub digit_of : ℕ → ℕ
digit_of b =
    cond (nat_lt b 48) 16
    (cond (nat_le b 57) (b - 48)
    (cond (nat_lt b 65) 16
    (cond (nat_le b 70) (b - 55)
    (cond (nat_lt b 97) 16
    (cond (nat_le b 102) (b - 87) 16)))))

-- the decimal digits from a place on, behind the number that was read up to there; none if they write a number of more than 64 bits
unfoldable pub decimals : ℕ → ℕ → List ℕ → Option (Read ℕ)
decimals value at [] = Some (read_at value at)
decimals value at (b ∷ bs) =
    cond (nat_le 10 (digit_of b)) (Some (read_at value at))
    (cond (nat_le 18446744073709551616 (value * 10 + digit_of b)) None (decimals (value * 10 + digit_of b) (suc at) bs))

-- so many hex digits, in the same way
unfoldable pub hexes : ℕ → ℕ → ℕ → List ℕ → Option (Read ℕ)
hexes zero value at bs = Some (read_at value at)
hexes (suc n) value at [] = None
hexes (suc n) value at (b ∷ bs) =
    cond (nat_le 16 (digit_of b)) None
    (cond (nat_le 18446744073709551616 (value * 16 + digit_of b)) None (hexes n (value * 16 + digit_of b) (suc at) bs))

abbrev pub decimals_at : List ℕ → ℕ → Option (Read ℕ)
decimals_at line at = decimals 0 at (drop at line)

abbrev pub hexes_at : List ℕ → ℕ → ℕ → Option (Read ℕ)
hexes_at line at count = hexes count 0 at (drop at line)

-- what was read, if its word ends with it
abbrev pub closing : {A : Type 0} → List ℕ → Read A → Option (Read A)
closing line n = option_map (read_at n.value) (closed_at line n.at)

-- a number with at least one digit, whose word ends with it
abbrev pub closing_some : List ℕ → ℕ → Read ℕ → Option (Read ℕ)
closing_some line from n = cond (n.at == from) None (closing line n)

-- the next word, a decimal number
unfoldable pub read_decimal : List ℕ → ℕ → Option (Read ℕ)
read_decimal line at = option_and_then (closing_some line (scanned line at Word)) (decimals_at line (scanned line at Word))

-- a number of at most so much
abbrev pub at_most : ℕ → Option (Read ℕ) → Option (Read ℕ)
at_most most r = option_and_then (λ n. cond (nat_lt most n.value) None (Some n)) r

-- a number that a byte holds
abbrev pub byte_of : Option (Read ℕ) → Option (Read ℕ)
byte_of r = at_most 255 r

-- the next word, a double's bits
unfoldable pub read_bits : List ℕ → ℕ → Option (Read ℕ)
read_bits line at = option_and_then (closing line) (hexes_at line (scanned line at Word) 16)
