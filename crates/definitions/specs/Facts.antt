-- What docs/VALUE-CLIPS.md claims of the definitions, as statements, each beside its sentence. They are proved where the premises can be named: of names in the
-- crate `names`, of well-formed sets and accepted samples (`Facts` of the crate `laws`) in `laws`. Assumes nothing.
use Rattle.std.specs.Prelude.{ℕ, ◌≤◌, Bool, true, false, cond, List, [], ◌∷◌, T, ltb, length, Float}
use Rattle.std.proofs.Math.Option.{Option, none, some}
use Rattle.std.specs.Float.Ieee.{eq, lt, le}
use Rattle.std.specs.Float.Ieee.Scale.{finite}
use Rattle.gf.specs.Doubles.{storable}
use Rattle.definitions.specs.declared.StageTime.{StageTime}
use Rattle.definitions.specs.declared.ClipTime.{ClipTime}
use Rattle.definitions.specs.declared.Answer.{Answer}
use Rattle.definitions.specs.Lists.{any, all, keep}
use Rattle.definitions.specs.Doubles.{ascending}
use Rattle.definitions.specs.ClipSet.{ClipSet, max_template, stage, active_times}
use Rattle.definitions.specs.Names.{split, readable, name}
use Rattle.definitions.specs.Timing.{active_position}
use Rattle.definitions.specs.Samples.{Samples}
use Rattle.definitions.specs.Value.{says, direct_source, gathered, between}
use Rattle.definitions.specs.StageSamples.{in_order}

-- ---- "A name has at most 268 bytes."

abbrev pub max_name : ℕ
max_name = 268

-- where 1, 2 and 6 do not apply
abbrev pub NamesAreShort : Type 0
NamesAreShort = (template : List ℕ) (t : ClipTime) → length template ≤ max_template → T (storable t.0) → T (readable (split template)) → length (name template t) ≤ max_name

-- ---- "Stage sample times are finite, strictly ascending, every start among them."

-- A start is among them by its number: a start 0.0 beside a knot -0.0 is listed as -0.0.
pub record StageSampleTimesAre (set : ClipSet) (times : List Float) : Type 0 where
  pub finitely : T (all (λ (t : Float). finite t) times)
  pub ascend : T (ascending times)
  pub starts : T (all (λ (start : Float). any (λ (t : Float). eq t start) times) (active_times set.active))

-- ---- "Sorted, equals dropped.": the value by the sorted list, word for word. `value_in_set` takes the extremes of the gathered times; the fact is that they agree.

abbrev pub first_of : List Float → Option Float
first_of [] = none
first_of (x ∷ xs) = some x

abbrev pub last_from : Float → List Float → Float
last_from x [] = x
last_from x (y ∷ ys) = last_from y ys

abbrev pub last_of : List Float → Option Float
last_of [] = none
last_of (x ∷ xs) = some (last_from x xs)

-- the neighbours: the last entry ≤ t, and the first > t
abbrev pub last_up_to : List Float → Float → Option Float
last_up_to times t = last_of (keep (λ (x : Float). le x t) times)

abbrev pub first_above : List Float → Float → Option Float
first_above times t = first_of (keep (λ (x : Float). lt t x) times)

-- one time, or none on both sides: "-0.0 and 0.0 are one time"
abbrev pub same_time : Option Float → Option Float → Bool
same_time none none = true
same_time none (some y) = false
same_time (some x) none = false
same_time (some x) (some y) = eq x y

-- "If t is below all [no lower neighbour], from the last on [no upper one], or equal to one: direct. If two knots share an x ..: direct. Otherwise the direct value
-- at the lower neighbour.": the stage time whose direct value is the value at t
unfoldable pub reading_time_in_order : ClipSet → Samples → StageTime → Float
reading_time_in_order set s t =
    let times = in_order (gathered set s (active_position set.active t)) in
    cond (any (λ (x : Float). eq x t.0) times) t.0 (between set.knots t.0 (last_up_to times t.0) (first_above times t.0))

-- "One start: direct."
unfoldable pub value_in_order : ClipSet → Samples → StageTime → Answer
value_in_order set s t = says set s (cond (ltb 1 (length set.active)) (direct_source set s (stage (reading_time_in_order set s t))) (direct_source set s t))
