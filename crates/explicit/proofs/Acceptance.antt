-- What each way out of an explicit acceptance shows. Assumes nothing.
use Prim.Native.Nat.{ℕ}
use mathlib.Core.Path.{◌≡◌, refl, ap, ◌∙◌}
use mathlib.Core.Bool.{false}
use mathlib.Core.List.{List, [], ◌∷◌, map}
use lib.Dec.{T, lit<}
use lib.Ieee.{Float}
use Rattle.gf.specs.Doubles.{truncated, storable}
use Rattle.definitions.specs.declared.Start.{Start}
use Rattle.definitions.specs.declared.Knot.{Knot}
use Rattle.definitions.specs.declared.Missing.{Missing}
use Rattle.definitions.specs.Lists.{zip_with}
use Rattle.definitions.specs.ClipSet.{active_times, knot_times, any_unstorable, nan_default, beyond_limits}
use Rattle.definitions.specs.Explicit.{ExplicitFields, activation, knot, explicit_set, explicit1, explicit2, explicit3, explicit_number}
use Rattle.definitions.specs.Retime.{sorted}
use Rattle.laws.proofs.list.Tests.{or-false, passed}
use Rattle.laws.specs.list.Every.{Every}
use Rattle.laws.proofs.list.Every.{any-not-every, every-to-map, every-zip-left}
use Rattle.laws.proofs.set.Sound.{sorted-times, sorted-xs}
use Rattle.laws.proofs.set.SoundExplicit.{ExplicitFits, ExplicitLimits, explicit-limits, explicit-sound}
use Rattle.laws.specs.cell.Lent.{start, set_of}
use Rattle.std.specs.Prelude.{Result, Err}
use Rattle.definitions.specs.declared.refusal.Refusal.{Refusal}
use Rattle.definitions.specs.Refusals.{number_of}
use Rattle.clip.specs.declared.ClipSet.{ClipSet}
use Rattle.definitions.specs.Examining.{explicitly, empty_set}
use Rattle.definitions.proofs.Refused.{not-zero}
use Rattle.clip.specs.Preparing.{Examines}
use Rattle.clip.specs.Storing.{settle_number, Stores}
use Rattle.explicit.specs.Parsing.{explicit_fields, any_not_clip, fields_number}
use Rattle.clip.proofs.Laws.{same_number, every-storable}
use Rattle.clip.proofs.Preparing.{prepares, prepares-not, examines, empty-sound}

-- ---- fields without 1, 2 and 3

pub record FieldsPass (f : ExplicitFields) : Type 0 where
  pub not1 : explicit1 f ≡ false
  pub not2 : explicit2 f ≡ false
  pub not3 : explicit3 f ≡ false

pub fields-pass : (f : ExplicitFields) → fields_number f ≡ 0 → FieldsPass f
unfolding fields_number
fields-pass f e =
    let p1 = passed 1 (explicit1 f) _ (lit< tt) e in
    let p2 = passed 2 (explicit2 f) _ (lit< tt) p1.1 in
    let p3 = passed 3 (explicit3 f) _ (lit< tt) p2.1 in
    record { not1 = p1.0; not2 = p2.0; not3 = p3.0 }

pub fields_fit : (f : ExplicitFields) → fields_number f ≡ 0 → ExplicitLimits f
fields_fit f e = explicit-limits f (fields-pass f e).not1

pub fields-clips : (f : ExplicitFields) → fields_number f ≡ 0 → any_not_clip f.clips f.start_clips ≡ false
unfolding explicit3
fields-clips f e = (fields-pass f e).not3

-- ---- the set of the copied lists

indexed : (ts cs : List Float) → zip_with start ts (map truncated cs) ≡ zip_with activation ts cs
indexed [] cs = refl
indexed (t ∷ ts) [] = refl
indexed (t ∷ ts) (c ∷ cs) = ap (λ (l : List Start). activation t c ∷ l) (indexed ts cs)

pub explicit-is : (clips : ℕ) (starts times numbers : List Float) (indices : List ℕ) (xs us ys vs blocks : List Float) (m : Missing) → times ≡ starts → indices ≡ map truncated numbers → us ≡ xs → vs ≡ ys
    → sorted (set_of clips times indices us vs blocks m) ≡ explicit_set (explicit_fields clips starts numbers xs ys blocks m)
unfolding sorted set_of explicit_set
explicit-is clips starts times numbers indices xs us ys vs blocks m t i x y = rw (t, i, x, y, indexed starts numbers)

-- ---- its numbers

-- no stored time is beyond the limits
within : (f : ExplicitFields) → explicit2 f ≡ false → beyond_limits (explicit_set f) ≡ false
unfolding explicit2 explicit_set beyond_limits
within f e =
    let d = or-false _ (nan_default f.default) e in
    let b = or-false _ (any_unstorable f.blocks) d.0 in
    let y = or-false _ (any_unstorable f.knot_y) b.0 in
    let x = or-false (any_unstorable f.start_times) (any_unstorable f.knot_x) y.0 in
    let P : Float → Type 0 = λ t. T (storable t) in
    let starts = zip_with activation f.start_times f.start_clips in
    let knots = zip_with knot f.knot_x f.knot_y in
    let t : Every P (active_times starts) = every-to-map (λ (a : Start). a.time) P starts (every-zip-left activation P (λ (a : Start). P a.time) (λ t c s. s) f.start_times f.start_clips (any-not-every storable f.start_times x.0)) in
    let k : Every P (knot_times knots) = every-to-map (λ (k : Knot). k.x) P knots (every-zip-left knot P (λ (k : Knot). P k.x) (λ x y s. s) f.knot_x f.knot_y (any-not-every storable f.knot_x x.1)) in
    rw (every-storable _ (sorted-times P starts t), every-storable _ (sorted-xs P knots k), b.1)

number_is : (f : ExplicitFields) → FieldsPass f → settle_number (explicit_set f) ≡ explicit_number f
unfolding settle_number explicit_number explicit_set
number_is f p = rw (p.not1, p.not2, p.not3, within f p.not2)

-- where the fields have a number it is the acceptance's
fields-first : (f : ExplicitFields) → (fields_number f ≡ 0 → ⊥) → fields_number f ≡ explicit_number f
unfolding fields_number explicit_number
fields-first f h = same_number 1 (explicit1 f) _ _ h (λ h. same_number 2 (explicit2 f) _ _ h (λ h. same_number 3 (explicit3 f) _ _ h (λ h. absurd (h refl))))

pub parse-refuses : (f : ExplicitFields) (r : Result ClipSet Refusal) (e : Refusal) → r ≡ Err e → number_of e ≡ fields_number f → Examines (explicitly f) r
parse-refuses f r e h n = examines (explicitly f) r (prepares-not empty_set (explicit_set f) r e (explicit_number f) h (n ∙ fields-first f (λ z. not-zero e (n ∙ z))) empty-sound)

pub parse-settles : (f : ExplicitFields) (r : Result ClipSet Refusal) → ExplicitFits f → fields_number f ≡ 0 → Stores empty_set (explicit_set f) r → Examines (explicitly f) r
parse-settles f r h z s = examines (explicitly f) r (prepares empty_set (explicit_set f) r (settle_number (explicit_set f)) (explicit_number f) (number_is f (fields-pass f z)) empty-sound (explicit-sound f h) s)
