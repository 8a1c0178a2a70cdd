-- Parts of a list, and of a list with another written over a part. Assumes nothing.
use Prim.Native.Nat.{ℕ, suc, ◌+◌, ◌-◌, ◌*◌, ◌≤◌, ◌<◌}
use native.Mathlib.Omega.{arith}
use native.Mathlib.Decide.{dec_le}
use mathlib.Core.Path.{◌≡◌, refl, sym, ap, ◌∙◌}
use mathlib.Core.List.{List, ◌++◌}
use lib.ListN.{length, get_or, take, drop, set, length-drop, length-append, take-append-drop, get_or-append}
use lib.Seq.{length-take-le, take-append-le, drop-append-le, drop-append-add, take_at, drop_at, drop-drop, get_or-take, get_or-drop, take-set-le, drop-set-lt, drop-set-add}
use Rattle.pages.specs.Pages.{part, over}

-- as many entries as its ends say
pub span : (a k : ℕ) → a + k - a ≡ k
span a k = omega arith

module _ {A : Type 0} where
  pub part-long : (a k : ℕ) (l : List A) → a + k ≤ length l → length (part a k l) ≡ k
  part-long a k l h = length-take-le k (drop a l) (omega (arith, length-drop a l))

  -- the same part, by its two ends
  pub part-to : (a k : ℕ) (l : List A) → take (a + k - a) (drop a l) ≡ part a k l
  part-to a k l = ap (λ (n : ℕ). take n (drop a l)) (span a k)

  pub part_at : (a k : ℕ) (l : List A) (i : ℕ) (d : A) → i < k → get_or (part a k l) i d ≡ get_or l (a + i) d
  part_at a k l i d h = get_or-take k (drop a l) i d h ∙ get_or-drop a l i d

  -- a part of the front of a list
  front : (f n : ℕ) (p r : List A) → f + n ≤ length p → part f n (p ++ r) ≡ part f n p
  front f n p r h = ap (take n) (drop-append-le f p r (omega arith)) ∙ take-append-le n (drop f p) r (omega (arith, length-drop f p))

  -- ---- a list written over a part of another

  module _ (a : ℕ) (new l : List A) (h : a ≤ length l) where
    behind : drop a (over a new l) ≡ new ++ drop (length new) (drop a l)
    behind = drop_at (take a l) (new ++ drop (length new) (drop a l)) a (length-take-le a l h)

    pub over-part : part a (length new) (over a new l) ≡ new
    over-part = ap (take (length new)) behind ∙ take_at new (drop (length new) (drop a l)) (length new) refl

    pub over_below : (f n : ℕ) → f + n ≤ a → part f n (over a new l) ≡ part f n l
    over_below f n g =
        let k : f + n ≤ length (take a l) = omega (arith, length-take-le a l h) in
        front f n (take a l) (new ++ drop (length new) (drop a l)) k ∙ sym (front f n (take a l) (drop a l) k) ∙ ap (part f n) (take-append-drop a l)

    pub over-above : (f n : ℕ) → a + length new ≤ f → part f n (over a new l) ≡ part f n l
    over-above f n g =
        let j = f - (a + length new) in
        let e : a + (length new + j) ≡ f = omega arith in
        let d : a + length new + j ≡ f = omega arith in
        ap (take n)
        (ap (λ (m : ℕ). drop m (over a new l)) (sym e)
        ∙ sym (drop-drop (length new + j) a (over a new l))
        ∙ ap (drop (length new + j)) behind
        ∙ drop-append-add new (drop (length new) (drop a l)) j
        ∙ ap (drop j) (drop-drop (length new) a l)
        ∙ drop-drop j (a + length new) l
        ∙ ap (λ (m : ℕ). drop m l) d)

    pub over-long : a + length new ≤ length l → length (over a new l) ≡ length l
    over-long g =
        let e = length-append (take a l) (new ++ drop (length new) (drop a l)) in
        let d = length-append new (drop (length new) (drop a l)) in
        omega (arith, e, d, length-take-le a l h, length-drop (length new) (drop a l), length-drop a l)

    pub over-at : (i : ℕ) (d : A) → i < a → get_or (over a new l) i d ≡ get_or l i d
    over-at i d g = get_or-append (take a l) (new ++ drop (length new) (drop a l)) d i (omega (arith, length-take-le a l h)) ∙ get_or-take a l i d g

    -- of a part that is as long as the list
    pub over-ends : (k : ℕ) → length new ≡ k → take a l ++ (new ++ drop k (drop a l)) ≡ over a new l
    over-ends k e = ap (λ (m : ℕ). take a l ++ (new ++ drop m (drop a l))) (sym e)

  -- ---- one entry written

  pub set_before : (f n : ℕ) (l : List A) (i : ℕ) (x : A) → i < f → part f n (set l i x) ≡ part f n l
  set_before f n l i x h = ap (take n) (drop-set-lt f l i x h)

  pub set-behind : (f n : ℕ) (l : List A) (i : ℕ) (x : A) → f + n ≤ i → part f n (set l i x) ≡ part f n l
  set-behind f n l i x h =
      let j = i - f in
      let e : f + j ≡ i = omega arith in
      ap (λ (m : ℕ). part f n (set l m x)) (sym e) ∙ ap (take n) (drop-set-add f l j x) ∙ take-set-le n (drop f l) j x (omega arith)

  -- ---- behind the part that was written, and its front

  module _ (a : ℕ) (new l : List A) (h : a ≤ length l) where
    pub over-at-above : (i : ℕ) (d : A) → a + length new ≤ i → get_or (over a new l) i d ≡ get_or l i d
    over-at-above i d g =
        let e : i + 0 ≡ i = omega arith in
        ap (λ (k : ℕ). get_or (over a new l) k d) (sym e)
        ∙ sym (part_at i 1 (over a new l) 0 d (omega arith))
        ∙ ap (λ (k : List A). get_or k 0 d) (over-above a new l h i 1 g)
        ∙ part_at i 1 l 0 d (omega arith)
        ∙ ap (λ (k : ℕ). get_or l k d) e

    pub over-front : (n : ℕ) → n ≤ length new → part a n (over a new l) ≡ take n new
    over-front n g = ap (take n) (drop_at (take a l) (new ++ drop (length new) (drop a l)) a (length-take-le a l h)) ∙ take-append-le n new (drop (length new) (drop a l)) g

  -- ---- one page of several, 256 or 512 entries each

  pub other-256 : (i j : ℕ) (new l : List A) → length new ≡ 256 → i * 256 ≤ length l → (j ≡ i → ⊥) → part (j * 256) 256 (over (i * 256) new l) ≡ part (j * 256) 256 l
  other-256 i j new l e h n = elim (dec_le (suc j) i) [
    | yes k ↦ over_below (i * 256) new l h (j * 256) 256 (omega arith)
    | no k ↦ over-above (i * 256) new l h (j * 256) 256 (behind-it k)
  ]
    where
      behind-it : (suc j ≤ i → ⊥) → i * 256 + length new ≤ j * 256
      behind-it k = omega arith

  pub other-512 : (i j : ℕ) (new l : List A) → length new ≡ 512 → i * 512 ≤ length l → (j ≡ i → ⊥) → part (j * 512) 512 (over (i * 512) new l) ≡ part (j * 512) 512 l
  other-512 i j new l e h n = elim (dec_le (suc j) i) [
    | yes k ↦ over_below (i * 512) new l h (j * 512) 512 (omega arith)
    | no k ↦ over-above (i * 512) new l h (j * 512) 512 (behind-it k)
  ]
    where
      behind-it : (suc j ≤ i → ⊥) → i * 512 + length new ≤ j * 512
      behind-it k = omega arith

  pub own-page : (a k : ℕ) (new l : List A) → length new ≡ k → a ≤ length l → part a k (over a new l) ≡ new
  own-page a k new l e h = ap (λ (n : ℕ). part a n (over a new l)) (sym e) ∙ over-part a new l h

  -- a part written as it was
  pub over-same : (a k : ℕ) (l : List A) → a + k ≤ length l → over a (part a k l) l ≡ l
  over-same a k l h =
      ap (λ (n : ℕ). take a l ++ (part a k l ++ drop n (drop a l))) (part-long a k l h)
      ∙ ap (λ (x : List A). take a l ++ x) (take-append-drop k (drop a l))
      ∙ take-append-drop a l
