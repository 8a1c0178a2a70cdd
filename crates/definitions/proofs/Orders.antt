-- The order of the numbers, computed by the definitions: for each operation and each two neighbours of its chain a call to which both apply, and the
-- number that it gets, which is the first. Two neighbours have no row, since they can't meet: a template's second 2 and its 4
-- (argued in docs/DECISIONS.md, "Acceptance and numbers"). And 21, which stands in no chain. Assumes nothing.
use mathlib.Core.Path.{◌≡◌, refl, sym, ap, ◌∙◌, subst}
use Prim.Native.Nat.{ℕ, zero, suc, ◌+◌}
use mathlib.Core.Bool.{Bool, true, false, not, ◌&&◌}
use mathlib.Core.List.{List, [], ◌∷◌}
use mathlib.Core.Option.{none, Option}
use lib.Dec.{eqb, ltb, T}
use lib.ListN.{length}
use lib.Ieee.{Float, nan, round, neg, add, sub, mul, div, lt, le, eq, to_bits, of_bits, is_nan}
use lib.Ieee.Scale.{finite}
use Rattle.gf.specs.Doubles.{within, key, of_key, lerp, share, abs, is_whole, truncated, is_clip_number, sign_bit, total_key, storable}
use Rattle.definitions.specs.declared.LayerOffset.{LayerOffset}
use Rattle.definitions.specs.declared.StageTime.{StageTime}
use Rattle.definitions.specs.declared.ClipTime.{ClipTime}
use Rattle.definitions.specs.declared.TemplateTimes.{TemplateTimes}
use Rattle.definitions.specs.Lists.{◌if◌else◌, ◌then◌}
use Rattle.definitions.specs.ClipSet.{Model, no_set, standing, stage, clip, nan_default, beyond_limits, equal_starts, equal_knots, bad_default_mark, ClipSet, max_clips, max_template}
use Rattle.definitions.specs.Explicit.{ExplicitFields, explicit_set, explicit_number, explicit1, explicit2, explicit3}
use Rattle.definitions.specs.Names.{before_hash, hash_run, with_fraction, split, readable, digits, places_by, places, padded, whole_body, decimals, fraction_body, format, name, name_number}
use Rattle.definitions.specs.Template.{TemplateFields, times_unstorable, times_disordered, repeated, promoted, activations, template_set, template_number, template1, template2, template6, template7, template8, template_clip_times}
use Rattle.definitions.specs.Retime.{moved_number, apply, is_identity, moved, sorted, retime_stage_times, retime_number}
use Rattle.definitions.specs.Timing.{last_at_most, active_position, active_entry, active_clip, on_segment, map_time, map_stage_to_clip}
use Rattle.definitions.specs.Samples.{Samples, clip_begin, clip_end, clip_times, held_place, unlike_lengths, samples1, samples2, bad_marks, closes, samples9, samples_number}
use Rattle.definitions.specs.Value.{says, blocked_at, contributes, read_clip, first_reading, interpolate_missing_value, direct_source, window, stage_times_for_clip_time, window_sample_times, gathered, lower_neighbour, upper_neighbour, jump, reading_time, value_source, value_in_set, value_read}
use Rattle.definitions.specs.StageSamples.{drop_equal, dedup, stage_sample_times, supplied_at, stage_samples, any_samples, untimed_answer}
use Rattle.definitions.specs.Normalize.{time_samples, merge, merge_equal, normalize_time_samples, normalize_number}
use Rattle.definitions.specs.Track.{bake_number}
use Rattle.definitions.specs.Questions.{number_of, ask_active_clip, ask_clip_time, ask_value, ask_stage_sample_times, ask_stage_samples, ask_stage_sample_count, ask_untimed, clip_times_number, reply, of_set, stage_time_number, room_number, ask_clip_times}
use Rattle.definitions.specs.Numbers.{GivenByNone, TwentyOneIsGone}
use Rattle.definitions.proofs.Sets.{n, frac, bytes, holds, fields, templated, two, by}

-- ---- how a row is written: both tests hold of the call, and it gets this number

abbrev row : Bool → Bool → (got number : ℕ) → Bool
row a b got number = a && b && eqb got number

abbrev of_explicit : (ExplicitFields → Bool) → (ExplicitFields → Bool) → ExplicitFields → ℕ → Bool
of_explicit a b f number = row (a f) (b f) (explicit_number f) number

abbrev of_template : (TemplateFields → Bool) → (TemplateFields → Bool) → TemplateFields → ℕ → Bool
of_template a b f number = row (a f) (b f) (template_number f) number

abbrev repeat : ℕ → ℕ → List ℕ
repeat zero b = []
repeat (suc k) b = b ∷ repeat k b

-- the same fields with a default of mark 3
abbrev bad_default : ExplicitFields → ExplicitFields
bad_default f = record {
  clips = f.clips;
  start_times = f.start_times;
  start_clips = f.start_clips;
  knot_x = f.knot_x;
  knot_y = f.knot_y;
  blocks = f.blocks;
  default = record { mark = 3; value = n 0 };
  interpolate_missing = f.interpolate_missing;
}

-- templates whose start is no number, whose t does not move, and of more than 256 clips
abbrev no_start : TemplateFields
no_start = templated "#" nan (n 1) (n 0) false (n 0)

abbrev no-stride : TemplateFields
no-stride = templated "#" (n 0) (n 0) (n 0) false (n 0)

abbrev many : TemplateFields
many = templated "#" (n 0) (n 0) (frac 1 10000000) false (n 0)

-- a template by its bytes and its default's mark
abbrev written : List ℕ → ℕ → TemplateFields → TemplateFields
written text mark f = record {
  template = text;
  times = f.times;
  has_offset = f.has_offset;
  blocks = f.blocks;
  default = record { mark = mark; value = n 0 };
  interpolate_missing = f.interpolate_missing;
}

abbrev samples : List Float → List Float → List ℕ → List ℕ → Samples
samples times values marks ends = record { times = times; values = values; marks = marks; ends = ends }

-- ---- the tests of a set, by its fields

abbrev explicit4 : ExplicitFields → Bool
explicit4 f = equal_starts (explicit_set f)

abbrev explicit5 : ExplicitFields → Bool
explicit5 f = equal_knots (explicit_set f)

abbrev explicit9 : ExplicitFields → Bool
explicit9 f = bad_default_mark f.default

abbrev expanded2 : TemplateFields → Bool
expanded2 f = beyond_limits (template_set f)

abbrev template4 : TemplateFields → Bool
template4 f = equal_starts (template_set f)

abbrev template5 : TemplateFields → Bool
template5 f = equal_knots (template_set f)

abbrev template9 : TemplateFields → Bool
template9 f = bad_default_mark f.default

-- ---- sets

abbrev fives : List Float
fives = n 5 ∷ n 5 ∷ n 5 ∷ []

abbrev ys : List Float
ys = n 0 ∷ n 1 ∷ n 2 ∷ []

-- the set of two starts, as it was accepted
abbrev stands : ExplicitFields → Model
stands f = standing (explicit_set f)

-- two starts and three knots, which a scale of 0 makes one
abbrev rows : ExplicitFields
rows = fields 1 (n 0 ∷ n 1 ∷ []) (n 0 ∷ n 0 ∷ []) ys ys

-- 9·10^11 and k times 2^-13, the distance of doubles there: the clips at 2 and 3 ten-thousandths more fall together
abbrev crowded : ℕ → Float
crowded k = frac (7372800000000000 + k) 8192

-- a clip's list that falls, and one that also has a NaN value
abbrev falls : Samples
falls = samples (n 1 ∷ n 0 ∷ []) (n 1 ∷ n 1 ∷ []) (0 ∷ 0 ∷ []) (2 ∷ 2 ∷ [])

abbrev falls-with-nan : Samples
falls-with-nan = samples (n 1 ∷ n 0 ∷ []) (n 1 ∷ nan ∷ []) (0 ∷ 0 ∷ []) (2 ∷ 2 ∷ [])

abbrev unlike-with-nan : Samples
unlike-with-nan = samples (nan ∷ []) [] (0 ∷ []) (1 ∷ 1 ∷ [])

-- ---- the table

table : List Bool
table =
    -- an explicit set: 1, 2, 3, 4, 5, 9
    of_explicit explicit1 explicit2 (fields 257 (nan ∷ []) (n 0 ∷ []) [] []) 1
    ∷ of_explicit explicit2 explicit3 (fields 1 (nan ∷ []) (frac 3 2 ∷ []) [] []) 2
    ∷ of_explicit explicit3 explicit4 (fields 1 (n 0 ∷ n 0 ∷ []) (n 0 ∷ n 1 ∷ []) [] []) 3
    ∷ of_explicit explicit4 explicit5 (fields 1 (n 0 ∷ n 0 ∷ []) (n 0 ∷ n 0 ∷ []) fives ys) 4
    ∷ of_explicit explicit5 explicit9 (bad_default (fields 0 [] [] fives ys)) 5
    -- a template: 1, 2, 7, 6, 8, 2, 4, 5, 9
    ∷ of_template template1 template2 (written (repeat 256 35) 2 (templated "#" nan (n 1) (n 1) false (n 0))) 1
    ∷ of_template template2 template7 (templated "#" nan (n 1) (n 0) false (n 0)) 2
    ∷ of_template template7 template6 (templated "f" (n 1) (n 1) (n 0) false (n 0)) 7
    ∷ of_template template6 template8 (templated "f" (n 0) (n 0) (frac 1 10000000) false (n 0)) 6
    ∷ of_template template8 expanded2 (templated "#" (n 1099511627775) (n 1099511627776) (frac 1 1000) true (frac 1 1000)) 8
    ∷ of_template template4 template5 (templated "#" (crowded 2) (crowded 3) (frac 1 10000) true (frac 1 10000000000)) 4
    ∷ of_template template5 template9 (written (bytes "#") 3 (templated "#" (n 1) (n 1) (n 1) true (n 0))) 5
    -- a retiming: 20, 2, 2, 4, 5
    ∷ row true (not (finite nan)) (retime_number no_set (by nan (n 1))) 20
    ∷ row (beyond_limits (retime_stage_times (by (n 2199023255552) (n 0)) (explicit_set two))) (equal_starts (retime_stage_times (by (n 2199023255552) (n 0)) (explicit_set two))) (retime_number (stands two) (by (n 2199023255552) (n 0))) 2
    ∷ row (equal_starts (retime_stage_times (by (n 0) (n 0)) (explicit_set rows))) (equal_knots (retime_stage_times (by (n 0) (n 0)) (explicit_set rows))) (retime_number (stands rows) (by (n 0) (n 0))) 4
    -- samples: 1, 2, 9
    ∷ row (samples1 (explicit_set two) unlike-with-nan) (samples2 (nan ∷ []) [] (0 ∷ [])) (samples_number (explicit_set two) unlike-with-nan) 1
    ∷ row (samples2 falls-with-nan.times falls-with-nan.values falls-with-nan.marks) (samples9 falls-with-nan) (samples_number (explicit_set two) falls-with-nan) 2
    -- the active clip and the clip time: 20, 10
    ∷ row true (not (finite nan)) (number_of (ask_active_clip no_set (stage nan))) 20
    ∷ row true (not (finite nan)) (number_of (ask_clip_time no_set (stage nan))) 20
    -- the value: 20, the samples' numbers, 10; without a time 20 and the samples'
    ∷ row true (samples9 falls) (number_of (ask_value no_set falls (stage (n 0)))) 20
    ∷ row (samples9 falls) (not (finite nan)) (number_of (ask_value (stands two) falls (stage nan))) 9
    ∷ row true (samples9 falls) (number_of (ask_untimed no_set falls)) 20
    -- stage sample times, stage samples, their count, the bake: 20, the samples' numbers, 22
    ∷ row true (samples9 falls) (number_of (ask_stage_sample_times no_set falls 0)) 20
    ∷ row (samples9 falls) (ltb 0 (length (stage_sample_times (explicit_set two) falls))) (number_of (ask_stage_sample_times (stands two) falls 0)) 9
    ∷ row true (samples9 falls) (number_of (ask_stage_samples no_set falls 0)) 20
    ∷ row (samples9 falls) (ltb 0 (length (stage_samples (explicit_set two) falls))) (number_of (ask_stage_samples (stands two) falls 0)) 9
    ∷ row true (samples9 falls) (number_of (ask_stage_sample_count no_set falls)) 20
    ∷ row true (samples9 falls) (bake_number no_set falls 0 1) 20
    ∷ row (samples9 falls) (ltb 0 1) (bake_number (stands two) falls 0 1) 9
    -- a name: 1, 2, 6, 22
    ∷ row (ltb 255 (length (repeat 256 35))) (not (storable nan)) (name_number (repeat 256 35) (clip nan) 300) 1
    ∷ row (not (storable nan)) (not (readable (split (bytes "f")))) (name_number (bytes "f") (clip nan) 300) 2
    ∷ row (not (readable (split (bytes "f")))) (ltb 0 (length (name (bytes "f") (clip (n 1))))) (name_number (bytes "f") (clip (n 1)) 0) 6
    -- a template's clip times: 2, 7, 8, 22
    ∷ row (times_unstorable no_start.times none) (times_disordered no_start.times none) (clip_times_number no_start.times none 0) 2
    ∷ row (times_disordered no-stride.times none) (ltb 256 (length (promoted no-stride.times))) (clip_times_number no-stride.times none 0) 7
    ∷ row (ltb 256 (length (promoted many.times))) (ltb 0 (length (promoted many.times))) (clip_times_number many.times none 0) 8
    -- normalising: 1, 2, 9, 22
    ∷ row (unlike_lengths (nan ∷ []) [] (0 ∷ [])) (samples2 (nan ∷ []) [] (0 ∷ [])) (normalize_number (nan ∷ []) [] (0 ∷ []) 1) 1
    ∷ row (samples2 (nan ∷ []) (n 1 ∷ []) (7 ∷ [])) (bad_marks (7 ∷ [])) (normalize_number (nan ∷ []) (n 1 ∷ []) (7 ∷ []) 1) 2
    ∷ row (bad_marks (7 ∷ [])) (ltb 0 (length (normalize_time_samples (time_samples (n 1 ∷ []) (n 1 ∷ []) (7 ∷ []))))) (normalize_number (n 1 ∷ []) (n 1 ∷ []) (7 ∷ []) 0) 9
    ∷ []

in_order : holds table ≡ true
unfolding
    table round neg add sub mul div lt le eq to_bits of_bits is_nan within key of_key lerp share abs is_whole truncated sign_bit total_key
    nan_default beyond_limits equal_starts equal_knots bad_default_mark explicit_set explicit_number explicit1 explicit2 explicit3 is_clip_number before_hash
    hash_run with_fraction split readable digits places_by places padded whole_body decimals fraction_body format name name_number repeated promoted activations
    template_set template_number template1 template2 template6 template7 template8 last_at_most active_position active_entry active_clip on_segment map_time
    map_stage_to_clip clip_begin clip_end clip_times held_place unlike_lengths samples1 samples2 bad_marks closes samples9 samples_number says blocked_at
    contributes read_clip first_reading interpolate_missing_value direct_source window stage_times_for_clip_time window_sample_times gathered lower_neighbour
    upper_neighbour jump reading_time value_source value_in_set apply is_identity moved_number moved sorted retime_stage_times retime_number drop_equal dedup
    stage_sample_times supplied_at stage_samples any_samples untimed_answer time_samples merge merge_equal normalize_time_samples normalize_number bake_number
    ask_active_clip ask_clip_time ask_value ask_stage_sample_times ask_stage_samples ask_stage_sample_count ask_untimed
    clip_times_number times_unstorable times_disordered
in_order = refl

-- ---- "21 is given by no call": it stands in no chain

abbrev Other : ℕ → Type 0
Other n = n ≡ 21 → ⊥

differs : (n : ℕ) → eqb n 21 ≡ false → Other n
differs n d e = subst T (sym (ap (λ (k : ℕ). eqb k 21) e) ∙ d) tt

by-if : (n : ℕ) (b : Bool) {rest : ℕ} → eqb n 21 ≡ false → Other rest → Other (n if b else rest)
by-if n true d r = differs n d
by-if n false d r = r

by-then : (n : ℕ) {m : ℕ} → Other n → Other m → Other (n then m)
by-then zero h m = m
by-then (suc n) h m = h

nothing-applies : Other 0
nothing-applies = differs 0 refl

by-reply : {A : Type 0} (n : ℕ) (a : A) → Other n → Other (number_of (reply n a))
by-reply zero a h = h
by-reply (suc n) a h = h

-- of a set, by its number and its answer
by-set : {A : Type 0} (m : Model) (number : ClipSet → ℕ) (answer : ClipSet → A) → ((set : ClipSet) → Other (number set)) → Other (number_of (of_set m (λ (set : ClipSet). reply (number set) (answer set))))
by-set no_set number answer h = differs 20 refl
by-set (standing set) number answer h = by-reply (number set) (answer set) (h set)

explicit-is : (f : ExplicitFields) → Other (explicit_number f)
unfolding explicit_number
explicit-is f =
    by-if 1 (explicit1 f) refl
    (by-if 2 (explicit2 f) refl
    (by-if 3 (explicit3 f) refl
    (by-if 4 (equal_starts (explicit_set f)) refl
    (by-if 5 (equal_knots (explicit_set f)) refl
    (by-if 9 (bad_default_mark f.default) refl
    nothing-applies)))))

template-is : (f : TemplateFields) → Other (template_number f)
unfolding template_number
template-is f =
    by-if 1 (template1 f) refl
    (by-if 2 (template2 f) refl
    (by-if 7 (template7 f) refl
    (by-if 6 (template6 f) refl
    (by-if 8 (template8 f) refl
    (by-if 2 (beyond_limits (template_set f)) refl
    (by-if 4 (equal_starts (template_set f)) refl
    (by-if 5 (equal_knots (template_set f)) refl
    (by-if 9 (bad_default_mark f.default) refl
    nothing-applies))))))))

retiming-is : (m : Model) (o : LayerOffset) → Other (retime_number m o)
unfolding retime_number moved_number
retiming-is no_set o = differs 20 refl
retiming-is (standing set) o =
    by-if 2 (not (finite o.offset && finite o.scale)) refl
    (by-if 2 (beyond_limits (retime_stage_times o set)) refl
    (by-if 4 (equal_starts (retime_stage_times o set)) refl
    (by-if 5 (equal_knots (retime_stage_times o set)) refl
    nothing-applies)))

samples-is : (set : ClipSet) (s : Samples) → Other (samples_number set s)
unfolding samples_number
samples-is set s = by-if 1 (samples1 set s) refl (by-if 2 (samples2 s.times s.values s.marks) refl (by-if 9 (samples9 s) refl nothing-applies))

time-is : (t : StageTime) → Other (stage_time_number t)
time-is t = by-if 10 (not (finite t.0)) refl nothing-applies

room-is : (room count : ℕ) → Other (room_number room count)
room-is room count = by-if 22 (ltb room count) refl nothing-applies

with-samples : (set : ClipSet) (s : Samples) {n : ℕ} → Other n → Other (samples_number set s then n)
with-samples set s h = by-then (samples_number set s) (samples-is set s) h

bake-is : (m : Model) (s : Samples) (room count : ℕ) → Other (bake_number m s room count)
unfolding bake_number
bake-is no_set s room count = differs 20 refl
bake-is (standing set) s room count = with-samples set s (room-is room count)

name-is : (template : List ℕ) (t : ClipTime) (room : ℕ) → Other (name_number template t room)
unfolding name_number
name-is template t room =
    by-if 1 (ltb max_template (length template)) refl
    (by-if 2 (not (storable t.0)) refl
    (by-if 6 (not (readable (split template))) refl
    (room-is room (length (name template t)))))

clip-times-is : (x : TemplateTimes) (o : Option Float) (room : ℕ) → Other (clip_times_number x o room)
unfolding clip_times_number
clip-times-is x o room = by-if 2 (times_unstorable x o) refl (by-if 7 (times_disordered x o) refl (by-if 8 (ltb max_clips (length (promoted x))) refl (room-is room (length (promoted x)))))

normalising-is : (times values : List Float) (marks : List ℕ) (room : ℕ) → Other (normalize_number times values marks room)
unfolding normalize_number
normalising-is times values marks room =
    by-if 1 (unlike_lengths times values marks) refl
    (by-if 2 (samples2 times values marks) refl
    (by-if 9 (bad_marks marks) refl
    (room-is room (length (normalize_time_samples (time_samples times values marks))))))

pub twenty-one-is-gone : TwentyOneIsGone
unfolding ask_active_clip ask_clip_time ask_value ask_untimed ask_stage_sample_times ask_stage_samples ask_stage_sample_count ask_clip_times
twenty-one-is-gone = record {
  explicit = explicit-is;
  template = template-is;
  retiming = retiming-is;
  active-clip = λ m t. by-set m (λ set. stage_time_number t) (λ set. active_clip set t) (λ set. time-is t);
  clip-time = λ m t. by-set m (λ set. stage_time_number t) (λ set. map_stage_to_clip set.knots t) (λ set. time-is t);
  value = λ m s t. by-set m (λ set. samples_number set s then stage_time_number t) (λ set. value_read set s t) (λ set. with-samples set s (time-is t));
  untimed = λ m s. by-set m (λ set. samples_number set s) (λ set. untimed_answer set s) (λ set. samples-is set s);
  stage-sample-times = λ m s room. by-set m (λ set. samples_number set s then room_number room (length (stage_sample_times set s))) (λ set. stage_sample_times set s) (λ set. with-samples set s (room-is room (length (stage_sample_times set s))));
  stage-samples = λ m s room. by-set m (λ set. samples_number set s then room_number room (length (stage_samples set s))) (λ set. stage_samples set s) (λ set. with-samples set s (room-is room (length (stage_samples set s))));
  stage-sample-count = λ m s. by-set m (λ set. samples_number set s) (λ set. length (stage_sample_times set s)) (λ set. samples-is set s);
  bake = bake-is;
  change-count = λ m s r c e. by-set m (λ set. samples_number set s) (λ set. length c.track.changes) (λ set. samples-is set s) (sym (ap number_of c.replies) ∙ e);
  name = name-is;
  clip-times = λ x o room. by-reply (clip_times_number x o room) (template_clip_times x) (clip-times-is x o room);
  normalising = normalising-is;
}

-- such a claim can be false: 20 is given
given : GivenByNone 20 → ⊥
unfolding retime_number
given g = g.retiming no_set (by (n 0) (n 1)) refl
