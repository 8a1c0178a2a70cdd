-- Times that ascend within each clip and may all be stored, told from the falls and from each clip's first and last time. Assumes nothing.
use mathlib.Core.Path.{◌≡◌, refl, sym, ap, ap₂, ◌∙◌, subst}
use mathlib.Core.Bool.{Bool, true, false, not, ◌&&◌, ◌||◌, true≢false}
use mathlib.Core.List.{List, [], ◌∷◌, ◌++◌}
use Prim.Native.Nat.{ℕ, suc, ◌+◌, ◌-◌, ◌≤◌, ◌<◌}
use native.Mathlib.Decide.{dec_le}
use native.Mathlib.Omega.{arith}
use borrow.Author.Tests.{lt-ltb, ltb-true, eq-eqb, ne_eqb, eqb-true, eqb-false}
use lib.Dec.{T, ltb, eqb}
use lib.ListN.{length, get_or, take, drop, length-drop}
use lib.Seq.{take-length, take-add, length-take-le, get_or-take, get_or-drop}
use lib.Ieee.{Float, nan, fits, lt, le}
use lib.Ieee.Fits.{and_l, and_r}
use Rattle.gf.specs.Doubles.{power, storable}
use Rattle.gf.proofs.KeyLaws.{le_trans, lt→le}
use Rattle.gf.proofs.Exactly.{within-lo, within-hi, to-within}
use Rattle.definitions.specs.Lists.{all, below}
use Rattle.definitions.specs.Doubles.{ascending}
use Rattle.definitions.specs.ClipSet.{any_unstorable}
use Rattle.definitions.specs.Samples.{clip_begin}
use Rattle.laws.specs.list.Every.{Every}
use Rattle.laws.specs.list.Places.{Fits}
use Rattle.laws.proofs.list.Every.{every_take, every_drop, every-at, any-not-every}
use Rattle.laws.proofs.list.Tests.{holds, is_true, or-false, not-false, both_l, both_r}
use Rattle.sdf.specs.Parts.{part, parts_ascend, falls}
use Rattle.sdf.proofs.Falls.{ascending-falls, behind, falls-cut, falls-end}
use Rattle.sdf.proofs.Scanned.{part-here, below_next}

-- ---- ascending times lie between their first and their last

power-fits : (s : Bool) → Fits (power s 40)
unfolding fits
power-fits s = tt

inside-from : (x : Float) (l : List Float) → Every Fits (x ∷ l) → T (ascending (x ∷ l)) → T (le (power true 40) x) → T (le (get_or (x ∷ l) (length l) nan) (power false 40)) → any_unstorable (x ∷ l) ≡ false
inside-from x [] f a lo hi = ap (λ (b : Bool). not b || false) (is_true (storable x) (to-within 40 x lo hi))
inside-from x (y ∷ l) f a lo hi =
    let up = lt→le x y (and_l (lt x y) (ascending (y ∷ l)) a) in
    let rest = inside-from y l f.1 (and_r (lt x y) (ascending (y ∷ l)) a) (le_trans (power true 40) x y (power-fits true) f.0 f.1.0 lo up) hi in
    let second = not-false (storable y) (or-false (not (storable y)) (any_unstorable l) rest).0 in
    let first = to-within 40 x lo (le_trans x y (power false 40) f.0 f.1.0 (power-fits false) up (within-hi 40 y second)) in
    ap (λ (b : Bool). not b || any_unstorable (y ∷ l)) (is_true (storable x) first) ∙ rest

inside : (l : List Float) (k : ℕ) → length l ≡ suc k → Every Fits l → T (ascending l) → T (storable (get_or l 0 nan)) → T (storable (get_or l k nan)) → any_unstorable l ≡ false
inside [] k q f a first last = absurd (omega arith)
inside (x ∷ l) k q f a first last =
    let end : k ≡ length l = omega arith in
    inside-from x l f a (within-lo 40 x first) (within-hi 40 (get_or (x ∷ l) (length l) nan) (subst (λ (n : ℕ). T (storable (get_or (x ∷ l) n nan))) end last))

-- ---- a clip's first and last time

-- one of them may not be stored
abbrev pub bad_bound : List Float → ℕ → ℕ → Bool
bad_bound ts b e = ltb b e && (not (storable (get_or ts b nan)) || not (storable (get_or ts (e - 1) nan)))

-- then not all times may
pub bad-bound : (ts : List Float) (b e : ℕ) → e ≤ length ts → bad_bound ts b e ≡ true → any_unstorable ts ≡ true
bad-bound ts b e h q = go (any_unstorable ts) refl
  where
    at : any_unstorable ts ≡ false → (i : ℕ) → i < length ts → storable (get_or ts i nan) ≡ true
    at n i l = is_true (storable (get_or ts i nan)) (every-at (λ (x : Float). T (storable x)) ts i nan (any-not-every storable ts n) l)

    both : (p : Bool) → ltb b e ≡ p → (p && (not (storable (get_or ts b nan)) || not (storable (get_or ts (e - 1) nan)))) ≡ true → any_unstorable ts ≡ false → ⊥
    both true l r n =
        let w = ltb-true b e l in
        true≢false (sym r ∙ ap₂ (λ (x y : Bool). not x || not y) (at n b (omega arith)) (at n (e - 1) (omega arith)))
    both false l r n = true≢false (sym r)

    go : (a : Bool) → any_unstorable ts ≡ a → a ≡ true
    go true n = refl
    go false n = absurd (both (ltb b e) refl q n)

-- else, where the clip's times ascend, all of them may
part-inside : (ts : List Float) (b e : ℕ) → Every Fits ts → b ≤ e → e ≤ length ts → bad_bound ts b e ≡ false → T (ascending (take (e - b) (drop b ts))) → any_unstorable (take (e - b) (drop b ts)) ≡ false
part-inside ts b e f h k q a = elim (dec_le (suc b) e) [
  | yes l ↦ some l
  | no n ↦ let none : e - b ≡ 0 = omega arith in ap (λ (n : ℕ). any_unstorable (take n (drop b ts))) none
]
  where
    some : b < e → any_unstorable (take (e - b) (drop b ts)) ≡ false
    some l =
        let good = or-false (not (storable (get_or ts b nan))) (not (storable (get_or ts (e - 1) nan))) (sym (ap (λ (p : Bool). p && (not (storable (get_or ts b nan)) || not (storable (get_or ts (e - 1) nan)))) (lt-ltb b e l)) ∙ q) in
        let d = e - b - 1 in
        let long : length (take (e - b) (drop b ts)) ≡ suc d = length-take-le (e - b) (drop b ts) (omega (arith, length-drop b ts)) ∙ (omega arith) in
        let first : get_or (take (e - b) (drop b ts)) 0 nan ≡ get_or ts b nan =
        get_or-take (e - b) (drop b ts) 0 nan (omega arith) ∙ get_or-drop b ts 0 nan ∙ ap (λ (n : ℕ). get_or ts n nan) (omega arith) in
        let last : get_or (take (e - b) (drop b ts)) d nan ≡ get_or ts (e - 1) nan =
        get_or-take (e - b) (drop b ts) d nan (omega arith) ∙ get_or-drop b ts d nan ∙ ap (λ (n : ℕ). get_or ts n nan) (omega arith) in
        inside (take (e - b) (drop b ts)) d long (every_take Fits (e - b) (drop b ts) (every_drop Fits b ts f)) a
        (subst (λ (x : Float). T (storable x)) (sym first) (not-false (storable (get_or ts b nan)) good.0))
        (subst (λ (x : Float). T (storable x)) (sym last) (not-false (storable (get_or ts (e - 1) nan)) good.1))

-- ---- clip by clip

any_append : (xs ys : List Float) → any_unstorable (xs ++ ys) ≡ (any_unstorable xs || any_unstorable ys)
any_append [] ys = refl
any_append (x ∷ xs) ys = go (not (storable x)) (any_append xs ys)
  where
    go : (b : Bool) → any_unstorable (xs ++ ys) ≡ (any_unstorable xs || any_unstorable ys) → (b || any_unstorable (xs ++ ys)) ≡ ((b || any_unstorable xs) || any_unstorable ys)
    go true rest = refl
    go false rest = rest

none-of-both : (a b : ℕ) → (eqb a 0 && eqb b 0) ≡ eqb (a + b) 0
none-of-both a b = go (eqb a 0) refl (eqb b 0) refl
  where
    go : (p : Bool) → eqb a 0 ≡ p → (q : Bool) → eqb b 0 ≡ q → (p && q) ≡ eqb (a + b) 0
    go true e true f = sym (eq-eqb (a + b) 0 (omega (arith, eqb-true a 0 e, eqb-true b 0 f)))
    go true e false f = sym (ne_eqb (a + b) 0 (λ g. eqb-false b 0 f (omega arith)))
    go false e q f = sym (ne_eqb (a + b) 0 (λ g. eqb-false a 0 e (omega arith)))

abbrev ascends : List Float → List ℕ → ℕ → Bool
ascends ts ends i = ascending (part ts ends i)

-- The clips before i, which end at `begin`: so many times fall within them, and `between` from one to the next; and where none falls within, all may be stored.
pub record Walked (ts : List Float) (ends : List ℕ) (between begin i : ℕ) : Type 0 where
  pub within : ℕ
  pub counted : falls ts ≡ within + between + falls (drop begin ts)
  pub ascend : all (ascends ts ends) (below i) ≡ eqb within 0
  pub stored : all (ascends ts ends) (below i) ≡ true → any_unstorable (take begin ts) ≡ false

pub none-walked : (ts : List Float) (ends : List ℕ) → Walked ts ends 0 0 0
none-walked ts ends = record { within = 0; counted = omega arith; ascend = refl; stored = λ e. refl }

pub one-walked : (ts : List Float) (ends : List ℕ) (between begin i : ℕ) → Every Fits ts → begin ≡ clip_begin ends i → begin ≤ get_or ends i 0 → get_or ends i 0 ≤ length ts
    → bad_bound ts begin (get_or ends i 0) ≡ false → Walked ts ends between begin i → Walked ts ends (between + behind ts begin (get_or ends i 0)) (get_or ends i 0) (i + 1)
one-walked ts ends between begin i f q h k good w =
    let e = get_or ends i 0 in
    let l = take (e - begin) (drop begin ts) in
    let here : ascends ts ends i ≡ ascending l = ap ascending (sym (part-here ts ends begin i q)) in
    record {
      within = w.within + falls l;
      counted = omega (arith, w.counted, falls-cut ts begin e h k);
      ascend = below_next (ascends ts ends) i ∙ ap₂ ◌&&◌ w.ascend (here ∙ ascending-falls l) ∙ none-of-both w.within (falls l);
      stored = λ p.
          let both = holds _ (sym (below_next (ascends ts ends) i) ∙ p) in
          let end : e ≡ begin + (e - begin) = omega arith in
          ap (λ (n : ℕ). any_unstorable (take n ts)) end ∙ ap any_unstorable (take-add begin (e - begin) ts) ∙ any_append (take begin ts) l
          ∙ ap₂ ◌||◌ (w.stored (is_true _ (both_l (all (ascends ts ends) (below i)) (ascends ts ends i) both)))
          (part-inside ts begin e f h k good (subst T here (both_r (all (ascends ts ends) (below i)) (ascends ts ends i) both)));
    }

pub all-walked : (ts : List Float) (ends : List ℕ) (between begin : ℕ) → begin ≡ length ts → Walked ts ends between begin (length ends)
    → eqb (falls ts) between ≡ (parts_ascend ts ends && not (any_unstorable ts))
all-walked ts ends between begin q w = go (eqb w.within 0) refl
  where
    counted : falls ts ≡ w.within + between
    counted = omega (arith, w.counted, falls-end ts begin (omega arith))

    go : (p : Bool) → eqb w.within 0 ≡ p → eqb (falls ts) between ≡ (parts_ascend ts ends && not (any_unstorable ts))
    go true z =
        let up = w.ascend ∙ z in
        let whole : any_unstorable ts ≡ false = sym (ap any_unstorable (ap (λ (n : ℕ). take n ts) q ∙ take-length ts)) ∙ w.stored up in
        eq-eqb (falls ts) between (omega (arith, counted, eqb-true w.within 0 z)) ∙ sym (ap₂ (λ (a b : Bool). a && not b) up whole)
    go false z =
        ne_eqb (falls ts) between (λ g. eqb-false w.within 0 z (omega (arith, counted))) ∙ sym (ap (λ (a : Bool). a && not (any_unstorable ts)) (w.ascend ∙ z))
