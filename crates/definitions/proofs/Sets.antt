-- How the figures of docs/VALUE-CLIPS.md are written in antt, and the sets that they speak of. Assumes nothing.
use Prim.Native.Nat.{ℕ, suc}
use Prim.Native.Char.{code}
use Prim.Native.String.{String, [] as end, ◌∷◌ as ◌then◌}
use mathlib.Core.Bool.{Bool, true, false, not, ◌&&◌}
use mathlib.Core.List.{List, [], ◌∷◌, map}
use mathlib.Core.Option.{Option, none, some}
use lib.Dec.{eqb}
use lib.IntN.{pos}
use lib.Ieee.{Float, nan, fin, binary64, round, neg, to_bits}
use Rattle.gf.specs.Doubles.{key, of_key, most}
use Rattle.definitions.specs.declared.Knot.{Knot}
use Rattle.definitions.specs.declared.LayerOffset.{LayerOffset}
use Rattle.definitions.specs.declared.Answer.{Answer}
use Rattle.definitions.specs.Lists.{all}
use Rattle.definitions.specs.declared.Default.{Default}
use Rattle.definitions.specs.ClipSet.{ClipSet, Model, no_set, standing, stage, clip, mark_none, knot_times}
use Rattle.definitions.specs.Explicit.{ExplicitFields, explicit_set}
use Rattle.definitions.specs.Names.{name}
use Rattle.definitions.specs.Template.{TemplateFields, template_set}
use Rattle.definitions.specs.Timing.{map_stage_to_clip}
use Rattle.definitions.specs.Samples.{Samples}
use Rattle.definitions.specs.Value.{value_in_set}
use Rattle.definitions.specs.Track.{mark_of, slot_of, Outputs}
use Rattle.definitions.specs.Examining.{empty_set}

-- ---- how a figure is written

-- a / b as a double, and its negative
abbrev pub n : ℕ → Float
n k = round binary64 false k 1

abbrev pub frac : ℕ → ℕ → Float
frac a b = round binary64 false a b

abbrev pub -n : ℕ → Float
-n k = neg (n k)

abbrev pub greatest : Float
greatest = of_key most

abbrev pub next_higher : Float → Float
next_higher x = of_key (suc (key x))

abbrev pub bytes : String → List ℕ
bytes end = []
bytes (c then s) = code c ∷ bytes s

-- tests
abbrev pub holds : List Bool → Bool
holds = all (λ (b : Bool). b)

abbrev pub fails : List Bool → Bool
fails = all not

abbrev pub same : Float → Float → Bool
same a b = eqb (to_bits binary64 a) (to_bits binary64 b)

abbrev pub same_times : List Float → List Float → Bool
same_times [] [] = true
same_times [] (y ∷ ys) = false
same_times (x ∷ xs) [] = false
same_times (x ∷ xs) (y ∷ ys) = same x y && same_times xs ys

abbrev pub same_bytes : List ℕ → List ℕ → Bool
same_bytes [] [] = true
same_bytes [] (y ∷ ys) = false
same_bytes (x ∷ xs) [] = false
same_bytes (x ∷ xs) (y ∷ ys) = eqb x y && same_bytes xs ys

abbrev pub same_names : List (List ℕ) → List String → Bool
same_names [] [] = true
same_names [] (y ∷ ys) = false
same_names (x ∷ xs) [] = false
same_names (x ∷ xs) (y ∷ ys) = same_bytes x (bytes y) && same_names xs ys

abbrev pub is_clip : Option ℕ → ℕ → Bool
is_clip none k = false
is_clip (some c) k = eqb c k

-- an answer, by its bits
abbrev pub is : Answer → Answer → Bool
is a b = eqb (mark_of a) (mark_of b) && same (slot_of a) (slot_of b)

-- a set with no knots, blocks, default or flag, and one with knots
abbrev pub no_default : Default
no_default = record { mark = mark_none; value = fin false 0 (pos 0) }

abbrev pub fields : ℕ → List Float → List Float → List Float → List Float → ExplicitFields
fields clips times numbers x y = record {
  clips = clips;
  start_times = times;
  start_clips = numbers;
  knot_x = x;
  knot_y = y;
  blocks = [];
  default = no_default;
  interpolate_missing = false;
}

-- the same with blocks and flag
abbrev pub missing : List Float → Bool → ExplicitFields → ExplicitFields
missing blocks flag f = record {
  clips = f.clips;
  start_times = f.start_times;
  start_clips = f.start_clips;
  knot_x = f.knot_x;
  knot_y = f.knot_y;
  blocks = blocks;
  default = f.default;
  interpolate_missing = flag;
}

-- the same with a manifest default
abbrev pub defaulting : Float → ExplicitFields → ExplicitFields
defaulting v f = record {
  clips = f.clips;
  start_times = f.start_times;
  start_clips = f.start_clips;
  knot_x = f.knot_x;
  knot_y = f.knot_y;
  blocks = f.blocks;
  default = record { mark = 0; value = v };
  interpolate_missing = f.interpolate_missing;
}

abbrev pub templated : String → Float → Float → Float → Bool → Float → TemplateFields
templated text from to by has offset = record {
  template = bytes text;
  times = record { start = from; end = to; stride = by; offset = offset };
  has_offset = has;
  blocks = [];
  default = no_default;
  interpolate_missing = false;
}

abbrev pub numbers : List Float → List Float → List ℕ → Samples
numbers times values ends = record { times = times; values = values; marks = map (λ (t : Float). 0) times; ends = ends }

abbrev pub clip_time_at : ExplicitFields → Float → Float
clip_time_at f t = (map_stage_to_clip (explicit_set f).knots (stage t)).0

abbrev pub value_at : ExplicitFields → Samples → Float → Answer
value_at f s t = value_in_set (explicit_set f) s (stage t)

-- the names of a template's clips, in the order of their clip times
abbrev pub names : TemplateFields → List (List ℕ)
names f = map (λ (k : Knot). name f.template (clip k.y)) (template_set f).knots

-- ---- the sets of the figures

-- starts 0, 10 for clips 0, 1
abbrev pub two : ExplicitFields
two = fields 2 (n 0 ∷ n 10 ∷ []) (n 0 ∷ n 1 ∷ []) [] []

-- knots (0,0) (10,10) (10,0) (20,10)
abbrev pub jumping : ExplicitFields
jumping = fields 0 [] [] (n 0 ∷ n 10 ∷ n 10 ∷ n 20 ∷ []) (n 0 ∷ n 10 ∷ n 0 ∷ n 10 ∷ [])

-- starts 0, 20; knots (0,10) (20,0); clip 0 has 0→1.0, 10→2.0, clip 1 has 0→3.0
abbrev pub falling : ExplicitFields
falling = fields 2 (n 0 ∷ n 20 ∷ []) (n 0 ∷ n 1 ∷ []) (n 0 ∷ n 20 ∷ []) (n 10 ∷ n 0 ∷ [])

abbrev pub falling-samples : Samples
falling-samples = numbers (n 0 ∷ n 10 ∷ n 0 ∷ []) (n 1 ∷ n 2 ∷ n 3 ∷ []) (2 ∷ 3 ∷ [])

-- starts 0, 10, 20, no knots, clip 1 empty, clip 0 has 0→1.0, clip 2 20→3.0, no default
abbrev pub gap : List Float → Bool → ExplicitFields
gap blocks flag = missing blocks flag (fields 3 (n 0 ∷ n 10 ∷ n 20 ∷ []) (n 0 ∷ n 1 ∷ n 2 ∷ []) [] [])

abbrev pub gap-samples : Samples
gap-samples = numbers (n 0 ∷ n 20 ∷ []) (n 1 ∷ n 3 ∷ []) (1 ∷ 1 ∷ 2 ∷ [])

-- one start 0, knots (0,10) (10,0), samples 0→1.0, 5→2.0, 10→3.0
abbrev pub one : ExplicitFields
one = fields 1 (n 0 ∷ []) (n 0 ∷ []) (n 0 ∷ n 10 ∷ []) (n 10 ∷ n 0 ∷ [])

abbrev pub one-samples : Samples
one-samples = numbers (n 0 ∷ n 5 ∷ n 10 ∷ []) (n 1 ∷ n 2 ∷ n 3 ∷ []) (3 ∷ [])

-- starts 0 and 1000, knots (0,2) (3,10)
abbrev pub twice : ExplicitFields
twice = fields 2 (n 0 ∷ n 1000 ∷ []) (n 0 ∷ n 1 ∷ []) (n 0 ∷ n 3 ∷ []) (n 2 ∷ n 10 ∷ [])

-- clip 0 has 2→1.0, 7.6→2.0, and clip 1 is empty
abbrev pub rising : Samples
rising = numbers (n 2 ∷ frac 38 5 ∷ []) (n 1 ∷ n 2 ∷ []) (2 ∷ 2 ∷ [])

-- starts 0 and 10, both of clip 0, which has 0→1.0, 12→2.0; a block at 10, flag on
abbrev pub again : ExplicitFields
again = missing (n 10 ∷ []) true (fields 1 (n 0 ∷ n 10 ∷ []) (n 0 ∷ n 0 ∷ []) [] [])

abbrev pub again-samples : Samples
again-samples = numbers (n 0 ∷ n 12 ∷ []) (n 1 ∷ n 2 ∷ []) (2 ∷ [])

-- as `gap-samples`, but clip 0 has a block
abbrev pub blocking : Samples
blocking = record { times = n 0 ∷ n 20 ∷ []; values = nan ∷ n 3 ∷ []; marks = 1 ∷ 0 ∷ []; ends = 1 ∷ 1 ∷ 2 ∷ [] }

-- ---- retimings, and what is told of a set

abbrev pub by : Float → Float → LayerOffset
by offset scale = record { offset = offset; scale = scale }

-- what stands, the empty set where none does
abbrev pub set_of : Model → ClipSet
set_of no_set = empty_set
set_of (standing set) = set

abbrev pub xs : ClipSet → List Float
xs set = knot_times set.knots

abbrev pub ys : ClipSet → List Float
ys set = map (λ (k : Knot). k.y) set.knots

-- ---- a bake's lists without a slot

abbrev pub no_room : Outputs
no_room = record { times = []; values = []; marks = [] }

-- ---- zeros of both signs

-- for `two`: clip 0 has 0→-0.0, clip 1 10→0.0
abbrev pub zeros : Samples
zeros = numbers (n 0 ∷ n 10 ∷ []) (-n 0 ∷ n 0 ∷ []) (1 ∷ 2 ∷ [])

-- for `gap`: -0.0, a block, 0.0
abbrev pub zeros-and-block : Samples
zeros-and-block = record { times = n 0 ∷ n 10 ∷ n 20 ∷ []; values = -n 0 ∷ nan ∷ n 0 ∷ []; marks = 0 ∷ 1 ∷ 0 ∷ []; ends = 1 ∷ 2 ∷ 3 ∷ [] }

-- for `one`, whose knots fall: 0→0.0, 5→-0.0
abbrev pub zeros-falling : Samples
zeros-falling = numbers (n 0 ∷ n 5 ∷ []) (n 0 ∷ -n 0 ∷ []) (2 ∷ [])
