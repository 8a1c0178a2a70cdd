-- What holds of every source that a value can have, if it holds of the samples at which the clips of its starts are read, of a default that is a value, of blocked and of absent.
-- Assumes nothing.
use mathlib.Core.Path.{◌≡◌, refl, subst}
use mathlib.Core.Bool.{Bool, true, false, cond}
use mathlib.Core.List.{List, [], ◌∷◌, reverse, reverse_aux}
use mathlib.Core.Option.{Option, none, some}
use Prim.Native.Nat.{ℕ, zero, suc}
use native.Mathlib.Omega.{arith}
use lib.Dec.{T, eqb, eqb→eq, ltb}
use lib.ListN.{length, get_elem?, take, drop}
use Rattle.definitions.specs.declared.StageTime.{StageTime}
use Rattle.definitions.specs.declared.Start.{Start}
use Rattle.definitions.specs.declared.Source.{Source}
use Rattle.definitions.specs.declared.Source.TheVariants.{Default as default, Blocked as blocked, Absent as absent}
use Rattle.definitions.specs.ClipSet.{ClipSet, mark_value, stage}
use Rattle.definitions.specs.Timing.{active_position}
use Rattle.definitions.specs.Samples.{Samples}
use Rattle.definitions.specs.Value.{◌or_else◌, blocked_at, contributes, read_clip, first_reading, interpolate_missing_value, own_reading, manifest_default, gap_source, source_at, direct_source, reading_time, value_source}
use Rattle.laws.specs.list.Every.{Every}
use Rattle.laws.proofs.list.Every.{every_take, every_drop}

abbrev pub IfRead : (Source → Type 0) → Option Source → Type 0
IfRead P none = Unit {0}
IfRead P (some r) = P r

-- Q is what is known of the starts
pub record Sourced (set : ClipSet) (s : Samples) (P : Source → Type 0) (Q : Start → Type 0) : Type 0 where
  pub starts : Every Q set.active
  pub reads : (a : Start) (t : StageTime) → Q a → IfRead P (read_clip set s a.clip t)
  pub default : set.default.mark ≡ mark_value → P default
  pub blocked : P blocked
  pub absent : P absent

or-else : (P : Source → Type 0) (o : Option Source) (r : Source) → IfRead P o → P r → P (o or_else r)
or-else P none r p q = q
or-else P (some o) r p q = p

module _ {A : Type 0} (Q : A → Type 0) where
  every-reverse : (l r : List A) → Every Q l → Every Q r → Every Q (reverse_aux l r)
  every-reverse [] r h k = k
  every-reverse (x ∷ l) r h k = every-reverse l (x ∷ r) h.1 (h.0, k)

  every-elem : (l : List A) (i : ℕ) (a : A) → Every Q l → get_elem? l i ≡ some a → Q a
  every-elem [] i a h e = let z : ◌≡◌ {A = ℕ} 0 1 = cc in absurd (omega arith)
  every-elem (b ∷ l) zero a h e = let q : b ≡ a = cc in subst Q q h.0
  every-elem (b ∷ l) (suc i) a h e = every-elem l i a h.1 e

module _ {set : ClipSet} {s : Samples} (P : Source → Type 0) (Q : Start → Type 0) (H : Sourced set s P Q) where
  first-sourced : (l : List Start) → Every Q l → IfRead P (first_reading set s l)
  unfolding first_reading
  first-sourced [] h = tt
  first-sourced (a ∷ l) h = go (blocked_at set a.time) (read_clip set s a.clip (stage a.time)) (H.reads a (stage a.time) h.0) (first-sourced l h.1)
    where
      go : (b : Bool) (o : Option Source) → IfRead P o → IfRead P (first_reading set s l) → IfRead P (cond b (first_reading set s l) (elim o [ none ↦ first_reading set s l | some r ↦ some r ]))
      go true o p q = q
      go false none p q = q
      go false (some r) p q = p

  gap-sourced : (p : ℕ) → P (gap_source set s p)
  unfolding interpolate_missing_value
  gap-sourced p = go set.interpolate_missing
    where
      go : (b : Bool) → P (cond b (interpolate_missing_value set s p) blocked)
      go true =
          or-else P (first_reading set s (reverse (take p set.active))) _ (first-sourced (reverse (take p set.active)) (every-reverse Q (take p set.active) [] (every_take Q p set.active H.starts) tt))
          (or-else P (first_reading set s (drop (suc p) set.active)) blocked (first-sourced (drop (suc p) set.active) (every_drop Q (suc p) set.active H.starts)) H.blocked)
      go false = H.blocked

  default-sourced : IfRead P (manifest_default set)
  default-sourced = go (eqb set.default.mark mark_value) (eqb→eq set.default.mark mark_value)
    where
      go : (b : Bool) → (T b → set.default.mark ≡ mark_value) → IfRead P (cond b (some default) none)
      go true e = H.default (e tt)
      go false e = tt

  stand-in-sourced : (p : ℕ) → P (manifest_default set or_else gap_source set s p)
  stand-in-sourced p = or-else P (manifest_default set) (gap_source set s p) default-sourced (gap-sourced p)

  source-sourced : (t : StageTime) (p : ℕ) (o : Option Start) → ((a : Start) → o ≡ some a → Q a) → P (source_at set s t p o)
  source-sourced t p none h = H.absent
  source-sourced t p (some a) h = or-else P (own_reading set s a t) (manifest_default set or_else gap_source set s p) (go (contributes set a)) (stand-in-sourced p)
    where
      go : (b : Bool) → IfRead P (cond b (read_clip set s a.clip t) none)
      go true = H.reads a t (h a refl)
      go false = tt

  direct-sourced : (t : StageTime) → P (direct_source set s t)
  unfolding direct_source
  direct-sourced t = let p = active_position set.active t in source-sourced t p (get_elem? set.active p) (λ a e. every-elem Q set.active p a H.starts e)

  pub value-sourced : (t : StageTime) → P (value_source set s t)
  unfolding value_source
  value-sourced t = go (ltb 1 (length set.active))
    where
      go : (b : Bool) → P (cond b (direct_source set s (stage (reading_time set s t))) (direct_source set s t))
      go true = direct-sourced (stage (reading_time set s t))
      go false = direct-sourced t
