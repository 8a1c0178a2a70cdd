-- The boundaries of the stretch of a stage time, and the time whose direct value is held on it. Assumes nothing.
use Rattle.std.specs.Prelude.{Bool, cond, List, ltb, length, Float}
use Rattle.std.proofs.Math.Option.{Option, none, some}
use Rattle.definitions.specs.declared.Knot.{Knot}
use Rattle.definitions.specs.declared.StageTime.{StageTime}
use Rattle.definitions.specs.ClipSet.{ClipSet, knot_times}
use Rattle.definitions.specs.Timing.{active_position}
use Rattle.definitions.specs.Samples.{Samples}
use Rattle.definitions.specs.Value.{gathered, lower_neighbour, upper_neighbour, jump}

-- ---- the rule at t, and where it may end

-- two starts or more
abbrev pub several_starts : ClipSet → Bool
several_starts set = ltb 1 (length set.active)

-- Where t's rule may end: with several starts the gathered times of t's window, the next start among them; else the knots.
unfoldable pub boundaries : ClipSet → Samples → StageTime → List Float
boundaries set s t = cond (several_starts set) (gathered set s (active_position set.active t)) (knot_times set.knots)

-- "Otherwise the direct value at the lower neighbour": the lower neighbour, if there is one and an upper one and no jump
abbrev pub held_between : List Knot → Option Float → Option Float → Option Float
held_between knots none upper = none
held_between knots (some lower) none = none
held_between knots (some lower) (some upper) = cond (jump knots lower upper) none (some lower)

-- the time whose direct value is held at t, or none: the value at t is the direct one
unfoldable pub held_from : ClipSet → Samples → StageTime → Option Float
held_from set s t =
    let times = gathered set s (active_position set.active t) in
    cond (several_starts set) (held_between set.knots (lower_neighbour times t.0) (upper_neighbour times t.0)) none
