-- "absent only if no set qualifies": a set with a start has a number or a block at every stage time. Assumes nothing.
use Prim.Native.Nat.{ℕ, zero, suc, ◌+◌}
use native.Mathlib.Omega.{arith}
use mathlib.Core.Path.{◌≡◌, refl, subst}
use mathlib.Core.Bool.{Bool, true, false, not, ◌&&◌, cond, false≢true}
use mathlib.Core.List.{List, [], ◌∷◌, reverse}
use mathlib.Core.Option.{Option, none, some}
use lib.Dec.{eqb, ltb}
use lib.ListN.{length, get_or, get_elem?, take, drop}
use lib.Ieee.{Float, le}
use Rattle.gf.specs.Doubles.{0·0}
use Rattle.definitions.specs.declared.StageTime.{StageTime}
use Rattle.definitions.specs.declared.Start.{Start}
use Rattle.definitions.specs.declared.Source.{Source}
use Rattle.definitions.specs.declared.Source.TheVariants.{Sample as sample, Default as default, Blocked as blocked, Absent as absent}
use Rattle.definitions.specs.declared.Answer.{Answer}
use Rattle.definitions.specs.declared.Answer.TheVariants.{Value, Blocked, Absent}
use Rattle.definitions.specs.Lists.{any}
use Rattle.definitions.specs.ClipSet.{ClipSet, mark_value, stage, active_times}
use Rattle.definitions.specs.Timing.{last_at_most, active_position, map_stage_to_clip}
use Rattle.definitions.specs.Samples.{Samples, clip_begin, clip_times, held_place}
use Rattle.definitions.specs.Value.{◌or_else◌, marked, says, blocked_at, contributes, sample_of, read_clip, first_reading, interpolate_missing_value, own_reading, manifest_default, gap_source, source_at, direct_source, reading_time, value_source, value_in_set}
use Rattle.dispatch.specs.NamedSets.{NamedSet, Answering, fit_of}
use Rattle.dispatch.specs.SetSamples.{SetSamples, clips_of, samples_at}
use Rattle.dispatch.specs.Dispatch.{value_in, value_of}
use Rattle.dispatch.specs.DispatchCalls.{Unqualified, AnswersAt}

-- an answer that is there, a source that says one, a reading that is none or one, and a start that is there
abbrev Present : Answer → Type 0
Present Absent = ⊥
Present Blocked = Unit {0}
Present (Value v) = Unit {0}

abbrev Speaks : Source → Type 0
Speaks absent = ⊥
Speaks blocked = Unit {0}
Speaks default = Unit {0}
Speaks (sample c i) = Unit {0}

abbrev SpeaksIf : Option Source → Type 0
SpeaksIf none = Unit {0}
SpeaksIf (some r) = Speaks r

abbrev Found : Option Start → Type 0
Found none = ⊥
Found (some a) = Unit {0}

or-else : (o : Option Source) (r : Source) → SpeaksIf o → Speaks r → Speaks (o or_else r)
or-else none r h k = k
or-else (some q) r h k = h

marked-present : (mark : ℕ) (v : Float) → Present (marked mark v)
marked-present mark v = go (eqb mark mark_value)
  where
    go : (b : Bool) → Present (cond b (Value v) Blocked)
    go true = tt
    go false = tt

-- some start is active
active-found : (l : List Start) (t : Float) → (length l ≡ 0 → ⊥) → Found (get_elem? l (last_at_most (active_times l) t))
unfolding last_at_most
active-found [] t h = h refl
active-found (x ∷ []) t h = tt
active-found (x ∷ y ∷ l) t h = go (any (λ (u : Float). le u t) (active_times (y ∷ l))) (active-found (y ∷ l) t (λ e. omega arith))
  where
    go : (b : Bool) → Found (get_elem? (y ∷ l) (last_at_most (active_times (y ∷ l)) t)) → Found (get_elem? (x ∷ y ∷ l) (cond b (suc (last_at_most (active_times (y ∷ l)) t)) 0))
    go true k = k
    go false k = tt

module _ (set : ClipSet) (s : Samples) where
  read-speaks : (c : ℕ) (t : StageTime) → SpeaksIf (read_clip set s c t)
  unfolding read_clip
  read-speaks c t = go (held_place (clip_times s c) (map_stage_to_clip set.knots t))
    where
      go : (o : Option ℕ) → SpeaksIf (sample_of c o)
      go none = tt
      go (some i) = tt

  first-speaks : (l : List Start) → SpeaksIf (first_reading set s l)
  unfolding first_reading
  first-speaks [] = tt
  first-speaks (a ∷ l) = go (blocked_at set a.time) (read_clip set s a.clip (stage a.time)) (read-speaks a.clip (stage a.time)) (first-speaks l)
    where
      go : (b : Bool) (o : Option Source) → SpeaksIf o → SpeaksIf (first_reading set s l) → SpeaksIf (cond b (first_reading set s l) (elim o [ none ↦ first_reading set s l | some r ↦ some r ]))
      go true o h k = k
      go false none h k = k
      go false (some r) h k = h

  gap-speaks : (p : ℕ) → Speaks (gap_source set s p)
  unfolding interpolate_missing_value
  gap-speaks p = go set.interpolate_missing
    where
      go : (b : Bool) → Speaks (cond b (interpolate_missing_value set s p) blocked)
      go true =
          or-else (first_reading set s (reverse (take p set.active))) _ (first-speaks (reverse (take p set.active)))
          (or-else (first_reading set s (drop (suc p) set.active)) blocked (first-speaks (drop (suc p) set.active)) tt)
      go false = tt

  source-speaks : (t : StageTime) (p : ℕ) (o : Option Start) → Found o → Speaks (source_at set s t p o)
  source-speaks t p none h = h
  source-speaks t p (some a) h = or-else (own_reading set s a t) (manifest_default set or_else gap_source set s p) (own (contributes set a)) (or-else (manifest_default set) (gap_source set s p) (known (eqb set.default.mark mark_value)) (gap-speaks p))
    where
      own : (b : Bool) → SpeaksIf (cond b (read_clip set s a.clip t) none)
      own true = read-speaks a.clip t
      own false = tt

      known : (b : Bool) → SpeaksIf (cond b (some default) none)
      known true = tt
      known false = tt

  says-present : (r : Source) → Speaks r → Present (says set s r)
  unfolding says
  says-present absent h = h
  says-present blocked h = tt
  says-present default h = tt
  says-present (sample c i) h = let at = clip_begin s.ends c + i in marked-present (get_or s.marks at 0) (get_or s.values at 0·0)

  module _ (h : length set.active ≡ 0 → ⊥) where
    direct-speaks : (t : StageTime) → Speaks (direct_source set s t)
    unfolding direct_source active_position
    direct-speaks t = source-speaks t (active_position set.active t) (get_elem? set.active (active_position set.active t)) (active-found set.active t.0 h)

    value-present : (t : StageTime) → Present (value_in_set set s t)
    unfolding value_in_set value_source
    value-present t = says-present (value_source set s t) (go (ltb 1 (length set.active)))
      where
        go : (b : Bool) → Speaks (cond b (direct_source set s (stage (reading_time set s t))) (direct_source set s t))
        go true = direct-speaks (stage (reading_time set s t))
        go false = direct-speaks t

    pub absent-only : (t : StageTime) → value_in_set set s t ≡ Absent → ⊥
    absent-only t e = subst Present e (value-present t)

-- ---- of the sets

started : (declares : Bool) (n : ℕ) → declares && not (eqb n 0) ≡ true → n ≡ 0 → ⊥
started true n e z = false≢true (subst (λ (k : ℕ). not (eqb k 0) ≡ true) z e)
started false n e z = false≢true e

-- the set with a number that is fit has a value at every stage time
fit-present : (sets all : List NamedSet) (k j : ℕ) (s : SetSamples) (t : StageTime) → get_or (fit_of sets) k false ≡ true → Present (value_in (get_elem? sets k) all s j t)
fit-present [] all k j s t e = false≢true e
fit-present (x ∷ sets) all zero j s t e = value-present x.set (samples_at (clips_of all) s j) (started x.declares (length x.set.active) e) t
fit-present (x ∷ sets) all (suc k) j s t e = fit-present sets all k j s t e

pub absent-unqualified : (sets : List NamedSet) (s : SetSamples) (order : List ℕ) (by : Option Answering) (t : StageTime) → AnswersAt (fit_of sets) order by → value_of sets s by t ≡ Absent → Unqualified (fit_of sets) order
absent-unqualified sets s order none t h e = h
absent-unqualified sets s order (some a) t h e = absurd (subst Present e (fit-present sets sets a.number a.number s t h.1))
