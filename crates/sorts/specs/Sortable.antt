-- Which lists are sorted, and a list of starts by its second part. Assumes nothing.
use Rattle.std.specs.Prelude.{Bool, ◌&&◌, List, map, ℕ, leb, eqb}
use Rattle.definitions.specs.declared.Start.{Start}

-- two lists of these lengths: one entry of each for a start or a knot, and not too many
unfoldable pub sortable : (n m : ℕ) → Bool
sortable n m = eqb n m && leb n 512

abbrev pub active_clips : List Start → List ℕ
active_clips active = map (λ (a : Start). a.clip) active
