-- docs/VALUE-CLIPS.md, "Several sets": its figures, computed by the definitions. Assumes nothing.
use Prim.Native.Nat.{ℕ, ◌+◌}
use Prim.Native.Char.{code}
use Prim.Native.String.{String, [] as end, ◌∷◌ as ◌then◌}
use mathlib.Core.Path.{◌≡◌, refl}
use mathlib.Core.Bool.{Bool, true, false, not, ◌&&◌}
use mathlib.Core.List.{List, [], ◌∷◌, ◌++◌, map}
use mathlib.Core.Option.{Option, none, some}
use lib.Dec.{eqb}
use lib.ListN.{length, replicate}
use lib.IntN.{pos}
use lib.Ieee.{Float, nan, fin, binary64, round, add, mul, le, to_bits, is_nan}
use Rattle.gf.specs.Doubles.{within, is_whole, truncated, is_clip_number}
use Rattle.definitions.specs.declared.LayerOffset.{LayerOffset}
use Rattle.definitions.specs.declared.Answer.{Answer}
use Rattle.definitions.specs.declared.Answer.TheVariants.{Value, Absent}
use Rattle.std.specs.Prelude.{Some, None}
use Rattle.definitions.specs.Value.{SampleRead}
use Rattle.definitions.specs.declared.ValueRead.{ValueRead}
use Rattle.definitions.specs.Lists.{all, below}
use Rattle.definitions.specs.ClipSet.{mark_none, stage, nan_default, beyond_limits, equal_starts, equal_knots, bad_default_mark}
use Rattle.definitions.specs.Explicit.{ExplicitFields, explicit_set, explicit_number, explicit1, explicit2, explicit3}
use Rattle.definitions.specs.Retime.{apply, is_identity, moved, retime_stage_times, moved_number}
use Rattle.definitions.specs.Timing.{last_at_most, active_position, map_time, map_stage_to_clip}
use Rattle.definitions.specs.Samples.{clip_begin, clip_end, clip_times, held_place, samples2, bad_marks, closes, samples9}
use Rattle.definitions.specs.Value.{says, contributes, read_clip, direct_source, value_source, value_in_set, value_read}
use Rattle.definitions.specs.Track.{mark_of, slot_of}
use Rattle.definitions.specs.Questions.{Reply, refused, replied}
use Rattle.definitions.specs.WholeList.{run_from}
use Rattle.dispatch.specs.SetOrder.{OrderList, same_name, names_from, list_faulty, order_number, set_number, insert_number, by_name, order_in_force}
use Rattle.dispatch.specs.NamedSets.{NamedSet, names_of, set_name_number, with_set, change_named, first_qualifying, answering}
use Rattle.dispatch.specs.SetSamples.{SetSamples, clips_of, own_samples, sets1, set_samples_number}
use Rattle.dispatch.specs.Dispatch.{Placed, named_explicit_number, named_retime_number, dispatch_value_number, dispatch_value, dispatch_bake_number}
use Rattle.dispatch.specs.DispatchCalls.{DispatchCall, explicit, install, retime, bake, dispatch_step, dispatch_after}

-- ---- how a figure is written

abbrev n : ℕ → Float
n k = round binary64 false k 1

abbrev bytes : String → List ℕ
bytes end = []
bytes (c then s) = code c ∷ bytes s

-- a list of names, as it is lent; the names begin at `from`
abbrev lent_from : ℕ → List String → OrderList
lent_from from [] = record { bytes = []; ends = [] }
lent_from from (x ∷ xs) =
    let e = from + length (bytes x) in
    let rest = lent_from e xs in
    record { bytes = bytes x ++ rest.bytes; ends = e ∷ rest.ends }

abbrev in_order : List String → Option OrderList
in_order names = some (lent_from 0 names)

abbrev long : ℕ → List ℕ
long k = replicate k 97

abbrev list : List ℕ → List ℕ → Option OrderList
list bytes ends = some (record { bytes = bytes; ends = ends })

abbrev by : Float → LayerOffset
by offset = record { offset = offset; scale = n 1 }

-- no knots, blocks, default or flag
abbrev fields : ℕ → List Float → List Float → ExplicitFields
fields clips times numbers = record {
  clips = clips;
  start_times = times;
  start_clips = numbers;
  knot_x = [];
  knot_y = [];
  blocks = [];
  default = record { mark = mark_none; value = fin false 0 (pos 0) };
  interpolate_missing = false;
}

-- one clip and a start; one clip and no start; no clip
abbrev from : Float → ExplicitFields
from t = fields 1 (t ∷ []) (n 0 ∷ [])

abbrev started : ExplicitFields
started = from (n 0)

abbrev startless : ExplicitFields
startless = fields 1 [] []

abbrev clipless : ExplicitFields
clipless = fields 0 [] []

abbrev named : String → Bool → ExplicitFields → NamedSet
named name declares f = record { name = bytes name; declares = declares; set = explicit_set f }

-- A does not declare, B does; a coarse and a fine one; four names to sort; as many sets as there may be
abbrev ab : List NamedSet
ab = named "A" false started ∷ named "B" true started ∷ []

abbrev hinge : List NamedSet
hinge = named "fine" true started ∷ named "coarse" true started ∷ []

abbrev four : List NamedSet
four = named "b" true started ∷ named "a" true startless ∷ named "ab" true started ∷ named "" false started ∷ []

abbrev sixteen : List NamedSet
sixteen = map (λ (k : ℕ). record { name = k ∷ []; declares = true; set = explicit_set startless }) (below 16)

-- samples of mark 0
abbrev samples : List ℕ → List ℕ → List Float → List Float → SetSamples
samples counts ends times values = record { counts = counts; ends = ends; times = times; values = values; marks = map (λ (t : Float). 0) times }

-- for two sets of one clip: 0→1.0 and 0→2.0
abbrev both : SetSamples
both = samples (1 ∷ 1 ∷ []) (1 ∷ 1 ∷ []) (n 0 ∷ n 0 ∷ []) (n 1 ∷ n 2 ∷ [])

-- the first set's samples fall
abbrev falling : SetSamples
falling = samples (2 ∷ 1 ∷ []) (2 ∷ 1 ∷ []) (n 1 ∷ n 0 ∷ n 0 ∷ []) (n 1 ∷ n 1 ∷ n 1 ∷ [])

abbrev nothing : SetSamples
nothing = samples [] [] [] []

-- ---- tests

abbrev same : Float → Float → Bool
same a b = eqb (to_bits binary64 a) (to_bits binary64 b)

abbrev same_sample : SampleRead → SampleRead → Bool
same_sample (Some (c, i)) (Some (d, j)) = eqb c d && eqb i j
same_sample (Some (c, i)) None = false
same_sample None (Some (d, j)) = false
same_sample None None = true

abbrev same_place : Option ℕ → Option ℕ → Bool
same_place none none = true
same_place none (some k) = false
same_place (some j) none = false
same_place (some j) (some k) = eqb j k

-- the answer, by its bits, its sample, and the place of the set
abbrev tells : Reply (Placed ValueRead) → Answer → SampleRead → Option ℕ → Bool
tells (refused k) a c p = false
tells (replied r) a c p =
    eqb (mark_of r.answer.answer) (mark_of a)
    && same (slot_of r.answer.answer) (slot_of a)
    && same_sample r.answer.sample c
    && same_place r.place p

abbrev refuses : Reply (Placed ValueRead) → ℕ → Bool
refuses (refused j) k = eqb j k
refuses (replied r) k = false

-- ---- the table

table : List Bool
table =
    -- "list x, A, A, B; x unknown, A not declaring: B answers with place 1"
    tells (dispatch_value ab (in_order ("x" ∷ "A" ∷ "A" ∷ "B" ∷ [])) both (stage (n 5))) (Value (n 2)) (Some (0, 0)) (some 1)
    ∷ same_name (order_in_force (in_order ("x" ∷ "B" ∷ "A" ∷ "B" ∷ "A" ∷ [])) (names_of ab)) (1 ∷ 0 ∷ [])
    -- an order list given without names: no set; not given: byte order; sets that the list does not name do not answer
    ∷ tells (dispatch_value hinge (in_order []) both (stage (n 5))) Absent None none
    ∷ tells (dispatch_value hinge none both (stage (n 5))) (Value (n 2)) (Some (0, 0)) (some 0)
    ∷ tells (dispatch_value hinge (in_order ("fine" ∷ "coarse" ∷ [])) both (stage (n 5))) (Value (n 1)) (Some (0, 0)) (some 0)
    ∷ tells (dispatch_value ab (in_order ("A" ∷ [])) both (stage (n 5))) Absent None none
    ∷ same_name (order_in_force none (names_of four)) (3 ∷ 1 ∷ 2 ∷ 0 ∷ [])
    ∷ same_name (by_name (names_of four) 3) (1 ∷ 2 ∷ 0 ∷ [])
    -- the sample's place counts from the clip's first in the set's own samples
    ∷ tells (dispatch_value ab none (samples (1 ∷ 2 ∷ []) (1 ∷ 2 ∷ []) (n 0 ∷ n 0 ∷ n 4 ∷ []) (n 1 ∷ n 2 ∷ n 3 ∷ [])) (stage (n 5))) (Value (n 3)) (Some (0, 1)) (some 1)
    -- 23 of an order list: a name above 255 bytes, above 255 names, ends that fall or do not close it, bytes without names
    ∷ eqb (order_number (list (long 256) (256 ∷ []))) 23
    ∷ eqb (order_number (list (long 255) (255 ∷ []))) 0
    ∷ eqb (order_number (list [] (replicate 256 0))) 23
    ∷ eqb (order_number (list [] (replicate 255 0))) 0
    ∷ eqb (order_number (list (long 2) (2 ∷ 1 ∷ []))) 23
    ∷ eqb (order_number (list (long 2) (1 ∷ []))) 23
    ∷ eqb (order_number (list (long 1) [])) 23
    -- 23 of an acceptance: a 17th set, a second of one name, a name above 255 bytes; the empty name is a name; 23 before the fields' numbers
    ∷ eqb (set_name_number (bytes "x") sixteen) 23
    ∷ eqb (set_name_number (bytes "B") ab) 23
    ∷ eqb (set_name_number (long 256) ab) 23
    ∷ eqb (set_name_number (long 255) ab) 0
    ∷ eqb (set_name_number (bytes "") ab) 0
    ∷ eqb (set_name_number (bytes "") four) 23
    ∷ eqb (named_explicit_number ab (bytes "A") (fields 1 (n 0 ∷ []) (nan ∷ []))) 23
    ∷ eqb (named_explicit_number ab (bytes "C") (fields 1 (n 0 ∷ []) (nan ∷ []))) 3
    -- retiming: 20 for a name that no set has, whatever its length and the numbers
    ∷ eqb (named_retime_number ab (long 256) (by nan)) 20
    ∷ eqb (named_retime_number ab (bytes "A") (by nan)) 2
    -- samples: counts 1, 1 for three samples; a set without clips with count 1; a set that does not qualify needs its samples
    ∷ eqb (set_samples_number (clips_of ab) (samples (1 ∷ 1 ∷ []) (1 ∷ 1 ∷ []) (n 0 ∷ n 1 ∷ n 2 ∷ []) (n 0 ∷ n 1 ∷ n 2 ∷ []))) 1
    ∷ eqb (set_samples_number (clips_of (named "A" true clipless ∷ [])) (samples (1 ∷ []) [] (n 0 ∷ []) (n 0 ∷ []))) 9
    ∷ eqb (set_samples_number (clips_of ab) (samples (1 ∷ []) (1 ∷ 1 ∷ []) (n 0 ∷ []) (n 0 ∷ []))) 1
    -- ends are counted from the set's own first sample
    ∷ eqb (set_samples_number (clips_of ab) both) 0
    ∷ eqb (set_samples_number (clips_of ab) (samples (1 ∷ 1 ∷ []) (1 ∷ 2 ∷ []) (n 0 ∷ n 0 ∷ []) (n 1 ∷ n 2 ∷ []))) 9
    -- 1 before 2 of any set, and 2 of any before 9 of any: the second set's 2 before the first's 9
    ∷ eqb (set_samples_number (clips_of ab) (samples (1 ∷ 1 ∷ []) (1 ∷ 1 ∷ []) (nan ∷ n 1 ∷ n 2 ∷ []) (n 0 ∷ n 1 ∷ n 2 ∷ []))) 1
    ∷ eqb (set_samples_number (clips_of ab) (samples (2 ∷ 1 ∷ []) (2 ∷ 1 ∷ []) (n 1 ∷ n 0 ∷ nan ∷ []) (n 1 ∷ n 1 ∷ n 1 ∷ []))) 2
    ∷ eqb (set_samples_number (clips_of ab) falling) 9
    -- no set at all: nothing lent is accepted, one sample is 1; the order list and t are still judged; 20 is not given
    ∷ tells (dispatch_value [] none nothing (stage (n 5))) Absent None none
    ∷ refuses (dispatch_value [] none (samples [] [] (n 0 ∷ []) (n 0 ∷ [])) (stage nan)) 1
    ∷ refuses (dispatch_value [] none nothing (stage nan)) 10
    ∷ refuses (dispatch_value [] (list [] (1 ∷ [])) both (stage nan)) 23
    -- 9 before 10, and before 22
    ∷ refuses (dispatch_value ab none falling (stage nan)) 9
    ∷ eqb (dispatch_bake_number ab none falling 0 1) 9
    -- a bake: 23, 1, 22
    ∷ eqb (dispatch_bake_number ab (list [] (1 ∷ [])) nothing 0 1) 23
    ∷ eqb (dispatch_bake_number ab none nothing 0 1) 1
    ∷ eqb (dispatch_bake_number ab none both 0 1) 22
    ∷ eqb (dispatch_bake_number ab none both 1 1) 0
    -- each set within 4,096, more in all
    ∷ not (sets1 (clips_of ab) (samples (4096 ∷ 4096 ∷ []) (4096 ∷ 4096 ∷ []) (replicate 8192 nan) (replicate 8192 nan)))
    ∷ sets1 (clips_of ab) (samples (4097 ∷ 0 ∷ []) (4097 ∷ 0 ∷ []) (replicate 4097 nan) (replicate 4097 nan))
    ∷ []

-- ---- a list of calls

-- a refused acceptance takes no place; an installing; a retiming moves the set of its name alone; a bake whose samples are refused
abbrev calls : List DispatchCall
calls =
    explicit (bytes "A") false started
    ∷ explicit (bytes "A") true (from (n 2))
    ∷ install (bytes "B") true (explicit_set started)
    ∷ retime (bytes "C") (by (n 1))
    ∷ retime (bytes "B") (by (n 1))
    ∷ bake none nothing (record { times = []; values = []; marks = [] })
    ∷ []

abbrev order : Option OrderList
order = in_order ("x" ∷ "A" ∷ "A" ∷ "B" ∷ [])

record Figures : Type 0 where
  figures : all (λ (b : Bool). b) table ≡ true
  -- demand 3's premises can be met: after those calls two sets stand, neither 23 nor the samples refuse the bake, and the set that declares answers
  stands : dispatch_after calls ≡ named "A" false started ∷ named "B" true (from (n 1)) ∷ []
  listed : order_number order ≡ 0
  lent : set_samples_number (clips_of (dispatch_after calls)) both ≡ 0
  answers : answering order (dispatch_after calls) ≡ some (record { place = 1; number = 1 })
  -- by name a set without starts and one that does not declare come before it
  sorts : answering none four ≡ some (record { place = 2; number = 2 })

computed : Figures
unfolding
    table add mul le to_bits is_nan within is_whole truncated is_clip_number nan_default beyond_limits equal_starts equal_knots bad_default_mark explicit_set
    explicit_number explicit1 explicit2 explicit3 apply is_identity moved retime_stage_times moved_number last_at_most active_position map_time map_stage_to_clip
    clip_begin clip_end clip_times held_place samples2 bad_marks closes samples9 says contributes read_clip direct_source value_source value_in_set value_read names_from
    list_faulty set_number set_name_number with_set change_named insert_number by_name order_in_force first_qualifying answering own_samples sets1 set_samples_number
    dispatch_value_number dispatch_value dispatch_bake_number run_from dispatch_step
computed = record { figures = refl; stands = refl; listed = refl; lent = refl; answers = refl; sorts = refl }
