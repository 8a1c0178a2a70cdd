-- Which set goes with a number: what each way out of a preparation shows. Assumes nothing.
use Prim.Native.Nat.{ℕ, zero, suc}
use mathlib.Core.Path.{◌≡◌, refl, sym, ap, subst, ◌∙◌}
use native.Mathlib.Omega.{arith}
use lib.Ieee.{fits}
use Rattle.std.specs.Prelude.{Result, Ok, Err, IfOk, IsErrAnd}
use Rattle.std.proofs.lemmas.Result.{err_from_is_err_and}
use Rattle.definitions.specs.declared.refusal.Refusal.{Refusal}
use Rattle.definitions.specs.Refusals.{number_of, number_in}
use Rattle.definitions.specs.ClipSet as Definitions
use Rattle.definitions.specs.ClipSet.{nan_default, equal_knots}
use Rattle.definitions.specs.Calls.{accepted}
use Rattle.definitions.specs.Examining.{Fields, empty_set, fields_number, fields_set, examine}
use Rattle.definitions.proofs.Refused.{not-zero}
use Rattle.laws.specs.set.Sound.{Sound}
use Rattle.clip.specs.declared.ClipSet.{ClipSet}
use Rattle.clip.specs.Holding.{IsHeld, EmptySet}
use Rattle.clip.specs.Preparing.{MadeSet, set_after, Examines, HandsBack, Prepares}

-- what a `?` hands on is the reason that it met
pub same-reason : {A : Type 0} (r : Result A Refusal) (e : Refusal) → IsErrAnd r (λ (x : Refusal). x ≡ e) → r ≡ Err e
same-reason r e h = let p = err_from_is_err_and r h in p.1 ∙ ap Err p.2

pub by-reason : {A : Type 0} (P : Result A Refusal → Type 0) (r : Result A Refusal) (e : Refusal) → IsErrAnd r (λ (x : Refusal). x ≡ e) → P (Err e) → P r
by-reason P r e h p = subst P (sym (same-reason r e h)) p

-- a refusal leaves what stood
pub is-kept : {A : Type 0} (before after : A) (e : Refusal) (n : ℕ) → number_of e ≡ n → before ≡ accepted n before after
is-kept before after e zero q = absurd (not-zero e q)
is-kept before after e (suc n) q = refl

module _ (kept made : Definitions.ClipSet) where
  which-sound : (n : ℕ) → Sound kept → (n ≡ 0 → Sound made) → Sound (accepted n kept made)
  which-sound zero s h = h refl
  which-sound (suc n) s h = s

  -- ---- to a reply

  pub hands-not : (r : Result ClipSet Refusal) (e : Refusal) (n : ℕ) → r ≡ Err e → number_of e ≡ n → HandsBack n kept made r
  hands-not r e n h q = subst (HandsBack n kept made) (sym h) (record { number = q; set = is-kept kept made e n q; held = tt })

  pub hands : (s : ClipSet) (n : ℕ) → 0 ≡ n → IsHeld made s → HandsBack n kept made (Ok s)
  hands s n q h = record { number = q; set = h.is ∙ ap (λ (i : ℕ). accepted i kept made) q; held = h.held }

  pub prepares : (r : Result ClipSet Refusal) (n m : ℕ) → n ≡ m → Sound kept → (m ≡ 0 → Sound made) → HandsBack n kept made r → Prepares m kept made r
  prepares r n m e s h q =
      let b = subst (λ (i : ℕ). HandsBack i kept made r) e q in
      record { reply = b; sound = subst Sound (sym b.set) (which-sound m s h) }

  pub prepares-not : (r : Result ClipSet Refusal) (e : Refusal) (n : ℕ) → r ≡ Err e → number_of e ≡ n → Sound kept → Prepares n kept made r
  prepares-not r e n h q s = subst (Prepares n kept made) (sym h) (record { reply = hands-not (Err e) e n refl q; sound = s })

  -- ---- from one

  pub made-is : (r : Result ClipSet Refusal) (n : ℕ) → Prepares n kept made r → number_in r ≡ 0 → set_after kept r ≡ made
  made-is r n p z = p.reply.set ∙ ap (λ (i : ℕ). accepted i kept made) (sym p.reply.number ∙ z)

  pub made-set : (r : Result ClipSet Refusal) (n : ℕ) → Prepares n kept made r → IfOk r MadeSet
  made-set (Ok s) n p = record { held = p.reply.held; sound = p.sound }
  made-set (Err e) n p = tt

pub examines : (f : Fields) (r : Result ClipSet Refusal) → Prepares (fields_number f) empty_set (fields_set f) r → Examines f r
unfolding examine
examines f r p = record { reply = λ i. record { number = p.reply.number i; set = p.reply.set i }; made = made-set empty_set (fields_set f) r (fields_number f) p }

-- the empty set breaks no limit and no order
pub empty-sound : Sound empty_set
unfolding nan_default equal_knots fits
empty-sound = record {
  few-clips = omega arith;
  few-active = omega arith;
  few-knots = omega arith;
  few-blocks = omega arith;
  times = tt;
  strictly = tt;
  named = tt;
  xs = tt;
  ys = tt;
  weakly = tt;
  no-three = refl;
  blocks = tt;
  default = record { mark = omega arith; number = refl; fitting = tt };
}

-- so it may be installed, as any other
pub empty-made : (s : ClipSet) → EmptySet s → MadeSet s
empty-made s h = record { held = h.held; sound = subst Sound (sym h.is) empty-sound }
