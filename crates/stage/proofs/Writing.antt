-- Entries written to the front of a lent list one after the other. Assumes nothing.
use mathlib.Core.Path.{◌≡◌, refl, sym, ap, ap₂, ◌∙◌, subst}
use mathlib.Core.List.{List, [], ◌∷◌, ◌++◌, append_assoc, append-nil}
use Prim.Native.Nat.{ℕ, ◌+◌, ◌≤◌, ◌<◌, min}
use native.Mathlib.Numerals.{add-one}
use native.Mathlib.Omega.{arith}
use lib.ListN.{length, take, drop, set, length-append, length-drop, length-set, take-append-drop}
use lib.Seq.{take_at, length-take-le, take-suc-set, drop-set-lt, drop-drop}
use Rattle.definitions.specs.Lists.{written_over}

module _ {A : Type 0} where
  -- of `all`, the first n stand at the front of `out`, which was `old`; `rest` is left
  pub record Wrote (all rest old out : List A) (n : ℕ) : Type 0 where
    pub long : length out ≡ length old
    pub upto : n ≤ length out
    pub front : take n out ++ rest ≡ all
    pub back : drop n out ≡ drop n old

  module _ (all old : List A) where
    pub wrote-start : Wrote all all old old 0
    wrote-start = record { long = refl; upto = omega arith; front = refl; back = refl }

    module _ (out : List A) (n : ℕ) where
      pub wrote-room : (h : A) (r : List A) → Wrote all (h ∷ r) old out n → length all ≤ length old → n < length out
      wrote-room h r w l = omega (arith, length-append (take n out) (h ∷ r), length-take-le n out w.upto, ap length w.front, w.long)

      pub wrote_on : (h : A) (r : List A) → Wrote all (h ∷ r) old out n → n < length out → Wrote all r old (set out n h) (n + 1)
      wrote_on h r w l = record {
        long = length-set out n h ∙ w.long;
        upto = omega (arith, length-set out n h);
        front =
            ap (λ (k : ℕ). take k (set out n h) ++ r) (add-one n) ∙ ap (λ (k : List A). k ++ r) (take-suc-set out n h l) ∙ append_assoc (take n out) (h ∷ []) r ∙ w.front;
        back = drop-set-lt (n + 1) out n h (omega arith) ∙ sym (drop-drop 1 n out) ∙ ap (drop 1) w.back ∙ drop-drop 1 n old;
      }

      pub wrote-end : Wrote all [] old out n → (n ≡ length all) × (out ≡ written_over all old)
      wrote-end w =
          let f : take n out ≡ all = sym (append-nil (take n out)) ∙ w.front in
          let e : n ≡ length all = sym (length-take-le n out w.upto) ∙ ap length f in
          (e, sym (take-append-drop n out) ∙ ap₂ (λ (a b : List A). a ++ b) f (w.back ∙ ap (λ (k : ℕ). drop k old) e))

-- a list that is written over keeps its length
pub length-written : {A : Type 0} (new old : List A) → length new ≤ length old → length (written_over new old) ≡ length old
length-written new old h = length-append new (drop (length new) old) ∙ omega (arith, length-drop (length new) old)

-- and has what was written at its front
pub take-written : {A : Type 0} (new old : List A) (n : ℕ) → n ≡ length new → take n (written_over new old) ≡ new
take-written new old n e = take_at new (drop (length new) old) n (sym e)

-- what is left, told another way
pub wrote-rest : {A : Type 0} (all old out : List A) (n : ℕ) (r q : List A) → r ≡ q → Wrote all r old out n → Wrote all q old out n
wrote-rest all old out n r q e w = subst (λ (k : List _). Wrote all k old out n) e w

-- ---- entries counted one after the other: n were counted, and `rest` is left

module _ {A : Type 0} (all rest : List A) (n room : ℕ) (e : length all ≡ n + length rest) where
  pub count-done : n ≤ room → rest ≡ [] → n ≡ min (length all) (room + 1)
  count-done l q = omega (arith, ap length q)

  pub count-over : (h : A) (r : List A) → n ≤ room → room < n + 1 → rest ≡ h ∷ r → n + 1 ≡ min (length all) (room + 1)
  count-over h r l o q = omega (arith, ap length q)

  pub count-on : (h : A) (r : List A) → rest ≡ h ∷ r → length all ≡ n + 1 + length r
  count-on h r q = omega (arith, ap length q)
