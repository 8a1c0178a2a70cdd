-- Examinings and installings, computed by the definitions: what is handed back, and what stands. `wrong`: false figures, each found false. Assumes nothing.
use mathlib.Core.Path.{◌≡◌, refl}
use mathlib.Core.Bool.{Bool, true, false}
use mathlib.Core.List.{List, [], ◌∷◌}
use lib.Dec.{eqb}
use lib.ListN.{length}
use lib.Ieee.{Float, round, neg, add, sub, mul, div, lt, le, eq, to_bits, of_bits, is_nan}
use Rattle.gf.specs.Doubles.{within, key, of_key, is_whole, truncated, is_clip_number, sign_bit, total_key}
use Rattle.definitions.specs.ClipSet.{ClipSet, standing, nan_default, beyond_limits, equal_starts, equal_knots, bad_default_mark, active_times}
use Rattle.definitions.specs.Explicit.{ExplicitFields, explicit_set, explicit_number, explicit1, explicit2, explicit3}
use Rattle.definitions.specs.Template.{template_number, template1, template2, template7, times_unstorable, times_disordered}
use Rattle.definitions.specs.Retime.{moved_number, apply, is_identity, moved, sorted, retime_stage_times, retime_number}
use Rattle.definitions.specs.WholeList.{run_from}
use Rattle.definitions.specs.Calls.{Call, explicit, install, retime, step, after}
use Rattle.definitions.specs.Examining.{explicitly, by_template, empty_set, examine}
use Rattle.definitions.proofs.Sets.{n, frac, -n, holds, fails, same_times, fields, missing, defaulting, templated, two, jumping, by, set_of, xs}

-- ---- how a figure is written

abbrev starts : List Call → List Float
starts calls = active_times (set_of (after calls)).active

abbrev pub prepared : ExplicitFields → ClipSet
prepared f = (examine (explicitly f)).set

-- `two` with a default
abbrev pub seven : ExplicitFields
seven = defaulting (n 7) (missing [] true two)

-- a clip number that names no clip; equal starts with it
abbrev pub unnamed : ExplicitFields
unnamed = fields 2 (n 3 ∷ []) (frac 3 2 ∷ []) [] []

abbrev unnamed-equal : ExplicitFields
unnamed-equal = fields 2 (n 0 ∷ -n 0 ∷ []) (n 0 ∷ n 2 ∷ []) [] []

abbrev equal : ExplicitFields
equal = fields 2 (n 0 ∷ -n 0 ∷ []) (n 0 ∷ n 1 ∷ []) [] []

abbrev pub moving : Call
moving = retime (by (n 5) (n 2))

table : List Bool
table =
    -- the numbers of the acceptance in its order, two faults at once
    eqb (examine (explicitly two)).number 0
    ∷ eqb (examine (explicitly unnamed)).number 3
    ∷ eqb (examine (explicitly unnamed-equal)).number 3
    ∷ eqb (examine (explicitly equal)).number 4
    ∷ eqb (examine (by_template (templated "name" (n 1) (n 3) (n 0) false (n 0)))).number 7
    -- the set that the acceptance would put there: sorted
    ∷ same_times (active_times (prepared (fields 2 (n 10 ∷ n 0 ∷ []) (n 1 ∷ n 0 ∷ []) [] [])).active) (n 0 ∷ n 10 ∷ [])
    -- installed, moved, and installed again: as it was prepared
    ∷ same_times (starts (install (prepared two) ∷ moving ∷ [])) (n 5 ∷ n 25 ∷ [])
    ∷ same_times (starts (install (prepared two) ∷ moving ∷ moving ∷ install (prepared two) ∷ [])) (n 0 ∷ n 10 ∷ [])
    -- on a fresh desk, in place of another, and a second one after it
    ∷ same_times (starts (explicit one-start ∷ install (prepared two) ∷ [])) (n 0 ∷ n 10 ∷ [])
    ∷ same_times (starts (install (prepared two) ∷ install (prepared one-start) ∷ moving ∷ [])) (n 13 ∷ [])
    -- the whole set: its default and its flag too; a set without starts
    ∷ eqb (set_of (after (explicit seven ∷ install (prepared two) ∷ []))).default.mark 2
    ∷ eqb (set_of (after (explicit two ∷ install (prepared seven) ∷ []))).default.mark 0
    ∷ eqb (length (starts (explicit two ∷ install (prepared jumping) ∷ []))) 0
    ∷ same_times (xs (set_of (after (explicit two ∷ install (prepared jumping) ∷ [])))) (n 0 ∷ n 10 ∷ n 10 ∷ n 20 ∷ [])
    -- a refused acceptance leaves what was installed
    ∷ same_times (starts (install (prepared two) ∷ explicit unnamed ∷ [])) (n 0 ∷ n 10 ∷ [])
    ∷ []
  where
    one-start : ExplicitFields
    one-start = fields 1 (n 4 ∷ []) (n 0 ∷ []) [] []

-- an installing that keeps the old default; that refuses a set without starts; that brings it back moved; a refused acceptance that installs the empty set; another order of the numbers
wrong-table : List Bool
wrong-table =
    eqb (set_of (after (explicit seven ∷ install (prepared two) ∷ []))).default.mark 0
    ∷ same_times (starts (explicit two ∷ install (prepared jumping) ∷ [])) (n 0 ∷ n 10 ∷ [])
    ∷ same_times (starts (install (prepared two) ∷ moving ∷ install (prepared two) ∷ [])) (n 5 ∷ n 25 ∷ [])
    ∷ same_times (starts (install (prepared two) ∷ explicit unnamed ∷ [])) []
    ∷ eqb (examine (explicitly unnamed-equal)).number 4
    ∷ []

-- ---- all of it computes

record FigureInstallings : Type 0 where
  figures : holds table ≡ true
  wrong : fails wrong-table ≡ true
  -- "A refused examining hands back the empty set"
  refused : prepared unnamed ≡ empty_set
  brought-back : after (install (prepared two) ∷ moving ∷ install (prepared two) ∷ []) ≡ standing (explicit_set two)

computed : FigureInstallings
unfolding
    table wrong-table round neg add sub mul div lt le eq to_bits of_bits is_nan within key of_key is_whole truncated sign_bit total_key nan_default beyond_limits equal_starts equal_knots
    bad_default_mark explicit_set explicit_number explicit1 explicit2 explicit3 is_clip_number template_number template1 template2 template7 times_unstorable times_disordered apply is_identity
    moved_number moved sorted retime_stage_times retime_number step run_from examine
computed = record { figures = refl; wrong = refl; refused = refl; brought-back = refl }
