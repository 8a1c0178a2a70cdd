-- Retimings, one and several in turn, computed by the definitions: each moves what the one before left, the identity moves nothing, a refused one leaves what stood. `wrong`: false
-- figures, each found false. Assumes nothing.
use mathlib.Core.Path.{◌≡◌, refl, sym, subst}
use Prim.Native.Nat.{ℕ}
use mathlib.Core.Bool.{Bool, true, false}
use mathlib.Core.List.{List, [], ◌∷◌}
use lib.Dec.{eqb}
use lib.Ieee.{Float, nan, round, neg, add, sub, mul, div, lt, le, eq, to_bits, of_bits, is_nan}
use Rattle.gf.specs.Doubles.{◌⊗◌, within, key, of_key, is_whole, truncated, is_clip_number, sign_bit, total_key}
use Rattle.definitions.specs.declared.LayerOffset.{LayerOffset}
use Rattle.definitions.specs.ClipSet.{ClipSet, standing, nan_default, beyond_limits, equal_starts, equal_knots, bad_default_mark, active_times}
use Rattle.definitions.specs.Explicit.{ExplicitFields, explicit_set, explicit_number, explicit1, explicit2, explicit3}
use Rattle.definitions.specs.Retime.{moved_number, apply, is_identity, moved, sorted, retime_stage_times, retime_number}
use Rattle.definitions.specs.Value.{value_in_set}
use Rattle.definitions.specs.Track.{TrackOf}
use Rattle.definitions.specs.WholeList.{run_from}
use Rattle.definitions.specs.Calls.{Call, explicit, retime, bake, step, after}
use Rattle.definitions.specs.Retimings.{installed, in_turn, remember, history}
use Rattle.definitions.proofs.FigureTracks.{falling-track}
use Rattle.definitions.proofs.Sets.{n, frac, -n, holds, fails, same_times, fields, missing, two, one, jumping, falling, falling-samples, by, set_of, xs, ys, no_room}

-- ---- how a figure is written

-- what stands after an acceptance and the retimings
abbrev retimings : List LayerOffset → List Call
retimings [] = []
retimings (o ∷ os) = retime o ∷ retimings os

abbrev moving : ExplicitFields → List LayerOffset → ClipSet
moving f os = set_of (after (explicit f ∷ retimings os))

abbrev starts : ClipSet → List Float
starts set = active_times set.active

-- the number of a retiming after the others
abbrev refusal : ExplicitFields → List LayerOffset → LayerOffset → ℕ
refusal f os o = retime_number (standing (moving f os)) o

-- ---- the sets

-- one start at 0.7, and the retimings by 3 and by the double next to a third
abbrev single : ExplicitFields
single = fields 1 (frac 7 10 ∷ []) (n 0 ∷ []) [] []

abbrev thrice : LayerOffset
thrice = by (n 0) (n 3)

abbrev third : LayerOffset
third = by (n 0) (frac 1 3)

-- knots on both sides of zero
abbrev around : ExplicitFields
around = fields 1 (n 0 ∷ []) (n 0 ∷ []) (-n 1 ∷ n 1 ∷ []) (n 1 ∷ n 2 ∷ [])

abbrev to-zero : LayerOffset
to-zero = by (-n 0) (-n 0)

abbrev turned : LayerOffset
turned = by (-n 0) (-n 1)

abbrev minus-zero : ExplicitFields
minus-zero = fields 1 (-n 0 ∷ []) (n 0 ∷ []) [] []

abbrev identity : LayerOffset
identity = by (n 0) (n 1)

-- two retimings as one, which rounds otherwise
abbrev joined : LayerOffset → LayerOffset → LayerOffset
joined first second = by (apply second first.offset) (second.scale ⊗ first.scale)

table : List Bool
table =
    -- one: the identity keeps -0.0; rounding makes starts equal; scale 0; a block beyond 2^40; a falling scale keeps a pair's order; no set
    same_times (starts (moving minus-zero (identity ∷ []))) (-n 0 ∷ [])
    ∷ eqb (refusal (fields 2 (n 0 ∷ frac 1 100000 ∷ []) (n 0 ∷ n 1 ∷ []) [] []) [] (by (n 1000000000000) (n 1))) 4
    ∷ eqb (refusal two [] (by (n 5) (n 0))) 4
    ∷ eqb (refusal jumping [] (by (n 5) (n 0))) 5
    ∷ eqb (refusal one [] (by (n 5) (n 0))) 0
    ∷ eqb (refusal (missing (n 1099511627776 ∷ []) false one) [] (by (n 1000000) (n 1))) 2
    ∷ eqb (refusal jumping [] (by (n 0) (-n 1))) 0
    ∷ same_times (xs (moving jumping (by (n 0) (-n 1) ∷ []))) (-n 20 ∷ -n 10 ∷ -n 10 ∷ n 0 ∷ [])
    ∷ same_times (ys (moving jumping (by (n 0) (-n 1) ∷ []))) (n 10 ∷ n 10 ∷ n 0 ∷ n 0 ∷ [])
    ∷ eqb (retime_number (after []) identity) 20
    -- several, each with its own roundings
    ∷ same_times (starts (moving single (thrice ∷ third ∷ []))) (frac 6999999999999998 10000000000000000 ∷ [])
    ∷ same_times (starts (moving single (joined thrice third ∷ []))) (frac 7 10 ∷ [])
    -- a list that a scale of -0.0 left out of the total order, and then a scale of -1: sorted as it is
    ∷ same_times (xs (moving around (to-zero ∷ []))) (n 0 ∷ -n 0 ∷ [])
    ∷ same_times (ys (moving around (to-zero ∷ []))) (n 1 ∷ n 2 ∷ [])
    ∷ same_times (xs (moving around (to-zero ∷ turned ∷ []))) (-n 0 ∷ n 0 ∷ [])
    ∷ same_times (ys (moving around (to-zero ∷ turned ∷ []))) (n 1 ∷ n 2 ∷ [])
    ∷ same_times (xs (moving around (to-zero ∷ turned ∷ turned ∷ []))) (-n 0 ∷ n 0 ∷ [])
    ∷ same_times (ys (moving around (to-zero ∷ turned ∷ turned ∷ []))) (n 2 ∷ n 1 ∷ [])
    -- scale 0, twice
    ∷ eqb (refusal around (by (n 5) (n 0) ∷ []) (by (n 3) (n 0))) 0
    ∷ same_times (xs (moving around (by (n 5) (n 0) ∷ by (n 3) (n 0) ∷ []))) (n 3 ∷ n 3 ∷ [])
    -- the identity changes nothing, each time
    ∷ same_times (starts (moving minus-zero (identity ∷ by (-n 0) (n 1) ∷ identity ∷ []))) (-n 0 ∷ [])
    -- a refused one leaves what the earlier ones left
    ∷ eqb (refusal two (by (n 5) (n 2) ∷ []) (by (n 0) (n 0))) 4
    ∷ same_times (starts (moving two (by (n 5) (n 2) ∷ by (n 0) (n 0) ∷ []))) (n 5 ∷ n 25 ∷ [])
    ∷ eqb (refusal two (by (n 5) (n 2) ∷ []) (by nan (n 1))) 2
    ∷ eqb (refusal two (by (n 5) (n 2) ∷ []) (by (n 0) (n 1099511627776))) 2
    ∷ same_times (starts (moving two (by (n 5) (n 2) ∷ by nan (n 1) ∷ by (n 1) (n 1) ∷ []))) (n 6 ∷ n 26 ∷ [])
    -- block times with the rest
    ∷ same_times (moving (missing (n 1 ∷ []) true two) (by (n 1) (n 1) ∷ by (n 0) (n 2) ∷ [])).blocks (n 4 ∷ [])
    -- another acceptance begins from its own times
    ∷ same_times (starts (set_of (after (explicit two ∷ retime (by (n 5) (n 2)) ∷ explicit single ∷ retime thrice ∷ [])))) (frac 20999999999999996 10000000000000000 ∷ [])
    ∷ []

-- joined into one; from the set as it was installed; the identity computed; undone by a refused one; turned round by -1 twice without a sort
wrong-table : List Bool
wrong-table =
    same_times (starts (moving single (thrice ∷ third ∷ []))) (starts (moving single (joined thrice third ∷ [])))
    ∷ same_times (starts (moving two (by (n 5) (n 2) ∷ by (n 1) (n 1) ∷ []))) (starts (moving two (by (n 1) (n 1) ∷ [])))
    ∷ same_times (starts (moving minus-zero (identity ∷ identity ∷ []))) (n 0 ∷ [])
    ∷ same_times (starts (moving two (by (n 5) (n 2) ∷ by (n 0) (n 0) ∷ []))) (starts (moving two []))
    ∷ same_times (ys (moving around (to-zero ∷ turned ∷ turned ∷ []))) (n 1 ∷ n 2 ∷ [])
    ∷ []

-- ---- all of it computes

record FigureRetimings : Type 0 where
  figures : holds table ≡ true
  wrong : fails wrong-table ≡ true
  -- the premises can be met: a list of calls, refused ones among them, and what was accepted since
  remembered : history (explicit two ∷ explicit single ∷ retime thrice ∷ retime (by nan (n 1)) ∷ bake falling-samples no_room ∷ retime third ∷ []) ≡ installed (explicit_set single) (third ∷ thrice ∷ [])
  -- turned round twice, the set is as it was, and so is its track, at every double
  turned-twice : in_turn (by (n 0) (-n 1) ∷ by (n 0) (-n 1) ∷ []) (explicit_set falling) ≡ explicit_set falling

computed : FigureRetimings
unfolding
    table wrong-table round neg add sub mul div lt le eq to_bits of_bits is_nan within key of_key is_whole truncated sign_bit total_key nan_default beyond_limits equal_starts equal_knots
    bad_default_mark explicit_set explicit_number explicit1 explicit2 explicit3 is_clip_number apply is_identity moved_number moved sorted retime_stage_times retime_number step run_from
    in_turn remember
computed = record { figures = refl; wrong = refl; remembered = refl; turned-twice = refl }

turned-track : TrackOf (value_in_set (in_turn (by (n 0) (-n 1) ∷ by (n 0) (-n 1) ∷ []) (explicit_set falling)) falling-samples) (record { initial = record { value = n 2; mark = 0 }; changes = record { time = n 20; value = n 3; mark = 0 } ∷ [] })
turned-track = subst (λ (set : ClipSet). TrackOf (value_in_set set falling-samples) (record { initial = record { value = n 2; mark = 0 }; changes = record { time = n 20; value = n 3; mark = 0 } ∷ [] })) (sym computed.turned-twice) falling-track
