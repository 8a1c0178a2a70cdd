-- The bytes of a line, and where its words stand. A place is an index into the line. Assumes nothing.
use Rattle.std.specs.Prelude.{ℕ, suc, ◌+◌, Bool, true, cond, not, ◌&&◌, List, [], ◌∷◌, length, drop, ◌==◌, nat_eq, nat_le, nat_lt, slice_index, slice_range, Option, Some, None}
use Rattle.std.specs.List.{starts_with}
use Rattle.cases.specs.declared.text.words.Stop.{Stop}
use Rattle.cases.specs.declared.text.words.Stop.TheVariants.{Word, Blank, Comment, LineEnd}

-- a tab, the carriage return of a line that ends in two bytes, or a space
abbrev pub is_blank : ℕ → Bool
is_blank b = cond (b == 9) true (cond (b == 13) true (b == 32))

abbrev pub stops_at : ℕ → Stop → Bool
stops_at b Word = not (is_blank b)
stops_at b Blank = is_blank b
stops_at b Comment = b == 59
stops_at b LineEnd = b == 10

-- how many bytes stand before the first one at which it stops
unfoldable pub passed : Stop → List ℕ → ℕ
passed stop [] = 0
passed stop (b ∷ bs) = cond (stops_at b stop) 0 (suc (passed stop bs))

-- the place where a scan stops, the end of the text if it stops nowhere
abbrev pub scanned : List ℕ → ℕ → Stop → ℕ
scanned text at stop = at + passed stop (drop at text)

-- the bytes from a place to another, none if there are no such
abbrev pub part_of : List ℕ → ℕ → ℕ → List ℕ
part_of text from to = cond (nat_le to (length text)) (slice_range text from to) []

-- the next word
abbrev pub word_at : List ℕ → ℕ → List ℕ
word_at line at = part_of line (scanned line at Word) (scanned line (scanned line at Word) Blank)

-- the place itself, if no word goes on there
unfoldable pub closed_at : List ℕ → ℕ → Option ℕ
closed_at line at = cond (nat_lt at (length line) && not (is_blank (slice_index line at))) None (Some at)

-- the place behind a word, if it is the next one
unfoldable pub behind : List ℕ → ℕ → List ℕ → Option ℕ
behind line at word = cond (starts_with nat_eq (drop (scanned line at Word) line) word) (closed_at line (scanned line at Word + length word)) None
