-- The falls of a list, counted: none in an ascending one, those from a place on, and those on both sides of a cut. Assumes nothing.
use mathlib.Core.Path.{◌≡◌, refl, sym, ap, ◌∙◌}
use mathlib.Core.Bool.{Bool, true, false, not, ◌&&◌, cond}
use mathlib.Core.List.{List, [], ◌∷◌}
use Prim.Native.Nat.{ℕ, zero, suc, ◌+◌, ◌-◌, ◌≤◌, ◌<◌}
use native.Mathlib.Nat.{not-suc-le-zero}
use native.Mathlib.Decide.{dec_le}
use native.Mathlib.Omega.{arith}
use borrow.Author.Tests.{ne_eqb, lt-ltb, le-ltb}
use lib.Dec.{ltb, eqb}
use lib.ListN.{length, take, drop, length-drop}
use lib.Seq.{drop-drop}
use lib.Ieee.{Float, lt}
use Rattle.definitions.specs.Lists.{keep, pairs}
use Rattle.definitions.specs.Doubles.{ascending}
use Rattle.sdf.specs.Parts.{falls}

-- 0 where a time is below the next, else 1
pub one-fall : (b : Bool) {n : ℕ} → n ≡ cond b 0 1 → n ≤ 1
one-fall true e = omega arith
one-fall false e = omega arith

pub falls-pair : (x y : Float) (l : List Float) → falls (x ∷ y ∷ l) ≡ cond (lt x y) 0 1 + falls (y ∷ l)
falls-pair x y l = go (lt x y)
  where
    rest : List (Float × Float)
    rest = keep (λ (p : Float × Float). not (lt p.0 p.1)) (pairs (y ∷ l))

    go : (b : Bool) → length (cond (not b) ((x, y) ∷ rest) rest) ≡ cond b 0 1 + length rest
    go true = omega arith
    go false = omega arith

pub ascending-falls : (xs : List Float) → ascending xs ≡ eqb (falls xs) 0
ascending-falls [] = refl
ascending-falls (x ∷ []) = refl
ascending-falls (x ∷ y ∷ l) = go (lt x y) (ascending-falls (y ∷ l)) ∙ ap (λ (n : ℕ). eqb n 0) (sym (falls-pair x y l))
  where
    go : (b : Bool) → ascending (y ∷ l) ≡ eqb (falls (y ∷ l)) 0 → (b && ascending (y ∷ l)) ≡ eqb (cond b 0 1 + falls (y ∷ l)) 0
    go true rest = let q : falls (y ∷ l) ≡ 0 + falls (y ∷ l) = omega arith in rest ∙ ap (λ (n : ℕ). eqb n 0) q
    go false rest = sym (ne_eqb (1 + falls (y ∷ l)) 0 (λ e. omega arith))

-- ---- from a place on

module _ (xs : List Float) where
  pub falls-end : (i : ℕ) → length xs ≤ i + 1 → falls (drop i xs) ≡ 0
  falls-end i h = go (drop i xs) (omega (arith, length-drop i xs))
    where
      go : (l : List Float) → length l ≤ 1 → falls l ≡ 0
      go [] k = refl
      go (x ∷ []) k = refl
      go (x ∷ y ∷ l) k = absurd (omega arith)

-- ---- on both sides of a cut, and over it

cut : (k : ℕ) (l : List Float) → k < length l → falls l ≡ falls (take (suc k) l) + falls (take 2 (drop k l)) + falls (drop (suc k) l)
cut k [] h = absurd (not-suc-le-zero h)
cut zero (x ∷ []) h = refl
cut zero (x ∷ y ∷ l) h = omega (arith, falls-pair x y l, falls-pair x y [])
cut (suc k) (x ∷ []) h = absurd (omega arith)
cut (suc k) (x ∷ y ∷ l) h = omega (arith, falls-pair x y l, falls-pair x y (take k l), cut k (y ∷ l) (omega arith))

-- where a clip from b to e has samples: the falls from its last time to the one behind it
abbrev pub behind : List Float → ℕ → ℕ → ℕ
behind ts b e = cond (ltb b e) (falls (take 2 (drop (e - 1) ts))) 0

-- nothing is behind a clip without samples, and nothing behind the list's last time
pub behind-none : (ts : List Float) (b e : ℕ) → e ≤ b → behind ts b e ≡ 0
behind-none ts b e h = ap (λ (q : Bool). cond q (falls (take 2 (drop (e - 1) ts))) 0) (le-ltb b e h)

pub behind-last : (ts : List Float) (b e : ℕ) → length ts ≤ e → behind ts b e ≡ 0
behind-last ts b e h = ap (λ (n : ℕ). cond (ltb b e) n 0) (few (drop (e - 1) ts) (omega (arith, length-drop (e - 1) ts))) ∙ same (ltb b e)
  where
    few : (l : List Float) → length l ≤ 1 → falls (take 2 l) ≡ 0
    few [] k = refl
    few (x ∷ []) k = refl
    few (x ∷ y ∷ l) k = absurd (omega arith)

    same : (q : Bool) → ◌≡◌ {A = ℕ} (cond q 0 0) 0
    same true = refl
    same false = refl

pub behind-one : (ts : List Float) (b e : ℕ) → behind ts b e ≤ 1
behind-one ts b e = go (ltb b e) (drop (e - 1) ts)
  where
    go : (q : Bool) (l : List Float) → cond q (falls (take 2 l)) 0 ≤ 1
    go false l = omega arith
    go true [] = omega arith
    go true (x ∷ []) = omega arith
    go true (x ∷ y ∷ l) = omega (arith, falls-pair x y [], one-fall (lt x y) refl)

pub falls-cut : (ts : List Float) (b e : ℕ) → b ≤ e → e ≤ length ts → falls (drop b ts) ≡ falls (take (e - b) (drop b ts)) + behind ts b e + falls (drop e ts)
falls-cut ts b e h k = elim (dec_le (suc b) e) [ yes l ↦ some l | no n ↦ none (omega arith) ]
  where
    some : b < e → falls (drop b ts) ≡ falls (take (e - b) (drop b ts)) + behind ts b e + falls (drop e ts)
    some l =
        let d = e - b - 1 in
        let width : suc d ≡ e - b = omega arith in
        let last : b + d ≡ e - 1 = omega arith in
        let end : b + suc d ≡ e = omega arith in
        let fits : d < length (drop b ts) = omega (arith, length-drop b ts) in
        let within : falls (take (suc d) (drop b ts)) ≡ falls (take (e - b) (drop b ts)) = ap (λ (n : ℕ). falls (take n (drop b ts))) width in
        let over : falls (take 2 (drop d (drop b ts))) ≡ behind ts b e =
        ap (λ (r : List Float). falls (take 2 r)) (drop-drop d b ts ∙ ap (λ (n : ℕ). drop n ts) last) ∙ sym (ap (λ (q : Bool). cond q (falls (take 2 (drop (e - 1) ts))) 0) (lt-ltb b e l)) in
        let after : falls (drop (suc d) (drop b ts)) ≡ falls (drop e ts) = ap falls (drop-drop (suc d) b ts ∙ ap (λ (n : ℕ). drop n ts) end) in
        omega (arith, cut d (drop b ts) fits, within, over, after)

    none : b ≡ e → falls (drop b ts) ≡ falls (take (e - b) (drop b ts)) + behind ts b e + falls (drop e ts)
    none q =
        let width : e - b ≡ 0 = omega arith in
        let within : falls (take (e - b) (drop b ts)) ≡ 0 = ap (λ (n : ℕ). falls (take n (drop b ts))) width in
        let after : falls (drop b ts) ≡ falls (drop e ts) = ap (λ (n : ℕ). falls (drop n ts)) q in
        omega (arith, within, behind-none ts b e (omega arith), after)
