-- A value is a number or none, where the samples and the manifest default are. Assumes nothing.
use mathlib.Core.Path.{◌≡◌, sym, ap, subst}
use mathlib.Core.Bool.{Bool, true, false, not, ◌&&◌, cond}
use mathlib.Core.List.{List, [], ◌∷◌}
use mathlib.Core.Option.{Option, none, some}
use Prim.Native.Nat.{ℕ, ◌+◌}
use native.Mathlib.Decide.{dec_le}
use native.Mathlib.Omega.{arith}
use lib.Dec.{T, eqb, eqb→eq}
use lib.ListN.{length, get_or, get_or-eq_default}
use lib.Ieee.{Float, is_nan}
use Rattle.gf.specs.Doubles.{0·0}
use Rattle.definitions.specs.declared.StageTime.{StageTime}
use Rattle.definitions.specs.declared.Start.{Start}
use Rattle.definitions.specs.declared.Source.{Source}
use Rattle.definitions.specs.declared.Source.TheVariants.{Default as default, Blocked as blocked}
use Rattle.definitions.specs.declared.Answer.TheVariants.{Value, Blocked}
use Rattle.definitions.specs.ClipSet.{ClipSet, mark_value, nan_default}
use Rattle.definitions.specs.Timing.{map_stage_to_clip}
use Rattle.definitions.specs.Samples.{Samples, clip_begin, clip_times, held_place}
use Rattle.definitions.specs.Value.{marked, says, sample_of, read_clip, value_in_set}
use Rattle.definitions.proofs.Written.{Numeric, zero_number}
use Rattle.laws.specs.list.Every.{Every}
use Rattle.laws.specs.list.Places.{Fits}
use Rattle.laws.proofs.list.Every.{every-get_or}
use Rattle.laws.specs.set.Sound.{Sound}
use Rattle.laws.specs.set.Accepted.{Accepted}
use Rattle.laws.proofs.cell.Sources.{IfRead, Sourced, value-sourced}

-- each sample says a number or is a block, and a default that is a value is a number
pub record SoundValues (set : ClipSet) (s : Samples) : Type 0 where
  pub values : (at : ℕ) → Numeric (marked (get_or s.marks at 0) (get_or s.values at 0·0))
  pub default : set.default.mark ≡ mark_value → Numeric (Value set.default.value)

-- ---- of what is accepted

is_number : (x : Float) → is_nan x ≡ false → T (not (is_nan x))
is_number x e = subst (λ (b : Bool). T (not b)) (sym e) tt

-- a sample, by its mark and value
pub marked-numeric : (mark : ℕ) (v : Float) → Fits v → (mark ≡ mark_value → is_nan v ≡ false) → Numeric (marked mark v)
marked-numeric mark v f n = go (eqb mark mark_value) (eqb→eq mark mark_value)
  where
    go : (b : Bool) → (T b → mark ≡ mark_value) → Numeric (cond b (Value v) Blocked)
    go true e = (f, is_number v (n (e tt)))
    go false e = tt

pub sound-values : (set : ClipSet) (s : Samples) → Sound set → Accepted set s → Every Fits s.values → SoundValues set s
unfolding nan_default is_nan
sound-values set s S A f = record { values = at_place; default = λ e. (S.default.fitting, is_number set.default.value (by-mark e)) }
  where
    by_place : (at : ℕ) → get_or s.marks at 0 ≡ mark_value → is_nan (get_or s.values at 0·0) ≡ false
    by_place at e = elim (dec_le (length s.times) at) [
      | yes h ↦ ap is_nan (get_or-eq_default s.values 0·0 {n = at} (let l = A.values in omega arith))
      | no h ↦ A.number at 0·0 0 (omega arith) e
    ]

    at_place : (at : ℕ) → Numeric (marked (get_or s.marks at 0) (get_or s.values at 0·0))
    at_place at = marked-numeric (get_or s.marks at 0) (get_or s.values at 0·0) (every-get_or Fits s.values at 0·0 f zero_number.0) (by_place at)

    by-mark : set.default.mark ≡ mark_value → is_nan set.default.value ≡ false
    by-mark e = subst (λ (m : ℕ). (eqb m mark_value && is_nan set.default.value) ≡ false) e S.default.number

-- ---- of every source of a value

module _ (set : ClipSet) (s : Samples) (F : SoundValues set s) where
  abbrev Says : Source → Type 0
  Says r = Numeric (says set s r)

  -- of a start nothing need be known
  abbrev Any : Start → Type 0
  Any a = Unit {0}

  all_any : (l : List Start) → Every Any l
  all_any [] = tt
  all_any (a ∷ l) = (tt, all_any l)

  read-numeric : (c : ℕ) (t : StageTime) → IfRead Says (read_clip set s c t)
  unfolding read_clip says
  read-numeric c t = go (held_place (clip_times s c) (map_stage_to_clip set.knots t))
    where
      go : (o : Option ℕ) → IfRead Says (sample_of c o)
      go none = tt
      go (some i) = F.values (clip_begin s.ends c + i)

  sourced : Sourced set s Says Any
  unfolding says
  sourced = record { starts = all_any set.active; reads = λ a t h. read-numeric a.clip t; default = F.default; blocked = tt; absent = tt }

  pub value-numeric : (t : StageTime) → Numeric (value_in_set set s t)
  unfolding value_in_set
  value-numeric t = value-sourced Says Any sourced t
