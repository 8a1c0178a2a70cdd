-- Where a run of samples in one segment begins, as the program holds it. Assumes nothing.
use Rattle.std.specs.Prelude.{List, ℕ, ◌+◌, ◌-◌, ◌<◌, T, length, get_or, Float, Option, None, Some}
use Rattle.std.specs.Float.{nan}
use Rattle.std.specs.Float.Ieee.{lt, le}
use Rattle.definitions.specs.declared.Knot.{Knot}
use Rattle.window.specs.Bounds.{In}
use Rattle.window.specs.Inverses.{on_segment}
use Rattle.window.specs.declared.search.Window.{Window}
use Rattle.window.specs.search.Latest.{segment_of}
use Rattle.window.specs.search.Windowed.{samples_in}
use Rattle.value.specs.RunsFrom as RunsFrom
use Rattle.run.specs.declared.begin.RunBegin.{RunBegin}

-- an inverse time of the segment below a time, if one is said
abbrev pub BeforeIs : List Float → Knot × Knot → Float → Option Float → Type 0
BeforeIs cs q ceil (Some h) = In h (on_segment cs q) × T (lt h ceil)
BeforeIs cs q ceil None = Unit {0}

-- and one of the segment from the knot at i on, below `max` and below the next knot
abbrev pub LastIs : List Float → List Float → List Float → ℕ → Float → Option Float → Type 0
LastIs xs ys cs i max (Some h) = In h (on_segment cs (segment_of xs ys i)) × T (lt h max) × T (lt h (get_or xs (i + 1) nan))
LastIs xs ys cs i max None = Unit {0}

-- no inverse time of the segments before the knot at i is above l
abbrev pub PastLatest : List Float → ℕ → Float → Type 0
PastLatest latest i l = 0 < i → (i - 1 < length latest) × T (le (get_or latest (i - 1) nan) l)

-- the run that begins at t, if one is said
abbrev pub RunBeginIs : List Float → List Float → List Float → List Float → Window → Float → Option RunBegin → Type 0
RunBeginIs xs ys latest times w t (Some r) = (w.begin < w.end) × RunsFrom.RunFrom xs ys latest (samples_in times w) w t r.knot r.lower r.upto
RunBeginIs xs ys latest times w t None = Unit {0}
