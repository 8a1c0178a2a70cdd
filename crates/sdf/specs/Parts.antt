-- The clips' parts of the lent times: that each ascends, part by part, and how many times of a list fall. Assumes nothing.
use Rattle.std.specs.Prelude.{Bool, not, List, ℕ, ◌-◌, length, take, drop, Float}
use Rattle.std.specs.Float.Ieee.{lt}
use Rattle.definitions.specs.Lists.{all, keep, pairs, below}
use Rattle.definitions.specs.Doubles.{ascending}
use Rattle.definitions.specs.Samples.{clip_begin, clip_end}

-- `clip_times` of the times and the ends alone
abbrev pub part : List Float → List ℕ → ℕ → List Float
part times ends i = take (clip_end ends i - clip_begin ends i) (drop (clip_begin ends i) times)

-- "strictly ascending within a clip"
abbrev pub parts_ascend : List Float → List ℕ → Bool
parts_ascend times ends = all (λ (i : ℕ). ascending (part times ends i)) (below (length ends))

-- how many times are not below the one after them: of an ascending list none
abbrev pub falls : List Float → ℕ
falls xs = length (keep (λ (p : Float × Float). not (lt p.0 p.1)) (pairs xs))
