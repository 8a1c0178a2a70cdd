-- The next stage sample time is one of the active window's or the next start.
-- Assumes nothing.
use Rattle.std.specs.Prelude.{Option, None, Some}
use mathlib.Core.Path.{◌≡◌, refl, sym, ◌∙◌, subst}
use mathlib.Core.Logic.{inl, inr}
use mathlib.Core.Bool.{Bool, true, false, cond}
use mathlib.Core.List.{List, [], ◌∷◌, ◌++◌}
use Prim.Native.Nat.{ℕ, ◌+◌, ◌≤◌, ◌<◌}
use native.Mathlib.Omega.{arith}
use native.Mathlib.Decide.{dec_le}
use lib.Dec.{T, ltb}
use lib.ListN.{length, get_or}
use lib.Ieee.{Float, nan, inf, lt, le}
use borrow.Author.Tests.{ltb-true, lt-ltb, ne_eqb}
use Rattle.gf.specs.Doubles.{key}
use Rattle.gf.proofs.KeyLaws.{le→key, lt→key, lt→le, le-no-nan, le-or-lt, finite-no-nan}
use Rattle.definitions.specs.Lists.{below}
use Rattle.definitions.specs.Doubles.{FiniteDouble}
use Rattle.definitions.specs.Timing.{last_at_most}
use Rattle.laws.proofs.list.Tests.{holds, is_true, both_l, both_r}
use Rattle.laws.specs.list.Every.{Every}
use Rattle.laws.proofs.list.Every.{every-at, every_map, every-zip, every_append, every-left, every-right, every-gather, every-below}
use Rattle.laws.proofs.list.Places.{at_most, at-most-is, last-is, last-later}
use Rattle.laws.specs.list.Places.{Fits}
use Rattle.window.specs.Bounds.{In, UpperIs}
use Rattle.window.proofs.BoundsLaws.{every_in}
use Rattle.window.specs.Windows.{min_of, max_of}
use Rattle.window.proofs.nearest.Beside.{climb}
use Rattle.stage.specs.Whole.{whole_times, next_start}
use Rattle.stage.specs.Times.{gathered_times, AcceptedTimes, NextTime}
use Rattle.stage.proofs.Times.{part-each, part-first, part-finite, part_in, times-finite, next-time}
use Rattle.stage.proofs.First.{FirstIs, Before, first-of-all, upper_first, first_next}
use Rattle.stage.specs.First.{zero_of, with_zero}
use Rattle.stage.specs.Zeros.{minus_gathered}
use Rattle.stage.proofs.Zeros.{minus-found, minus-listed}

module _ {starts : List Float} {clips : List ℕ} {xs ys times : List Float} {ends : List ℕ} (R : AcceptedTimes starts clips xs ys times ends) where
  abbrev part : ℕ → List Float
  part p = whole_times starts clips xs ys times ends p

  abbrev all : List Float
  all = gathered_times starts clips xs ys times ends

  abbrev at : ℕ → Float
  at i = get_or starts i nan

  finite-at : (i : ℕ) → i < length starts → FiniteDouble (at i)
  finite-at i h = every-at FiniteDouble starts i nan R.windows.rising.numbers h

  -- ---- the times of a window lie between its start and the next

  upto_next : (q : ℕ) → q + 1 < length starts → Every (λ (x : Float). key x ≤ key (at (q + 1))) (part q)
  upto_next q h =
      part-each R (λ (x : Float). key x ≤ key (at (q + 1))) q (omega arith) (climb starts R.windows.rising q (q + 1) (omega arith) h)
      (λ x f i.
      let u = subst (λ (b : Bool). T (lt x (cond b (at (q + 1)) (inf false)))) (lt-ltb (q + 1) (length starts) h) (both_r (le (min_of starts q) x) (lt x (max_of starts q)) i) in
      let g = finite-at (q + 1) h in
      let k = lt→key x (at (q + 1)) f.0.fitting g.fitting (finite-no-nan x f.0.finitely) (finite-no-nan (at (q + 1)) g.finitely) u in omega arith)

  from_start : (q : ℕ) → 0 < q → q < length starts → Every (λ (x : Float). key (at q) ≤ key x) (part q)
  from_start q l h =
      part-each R (λ (x : Float). key (at q) ≤ key x) q h (omega arith)
      (λ x f i.
      let u = subst (λ (b : Bool). T (le (cond b (inf true) (at q)) x)) (ne_eqb q 0 (λ e. absurd (omega arith))) (both_l (le (min_of starts q) x) (lt x (max_of starts q)) i) in
      let g = finite-at q h in
      le→key (at q) x g.fitting f.0.fitting (finite-no-nan (at q) g.finitely) (finite-no-nan x f.0.finitely) u)

  -- ---- around the active window

  module _ (t : Float) (ft : Fits t) (p : ℕ) (here : p ≡ last_at_most starts t) (h : p < length starts) where
    reached : 0 < p → T (le (at p) t)
    reached l = holds (le (at p) t) (at-most-is t ft nan starts R.windows.rising p h ∙ lt-ltb p (at_most starts t) (omega (arith, last-is t ft starts R.windows.rising, here)))

    -- the windows before it have nothing above t
    earlier : (q : ℕ) → q < p → Every (λ (x : Float). T (lt t x) → ⊥) (part q)
    earlier q l =
        every_map (λ (x : Float). FiniteDouble x × (key x ≤ key (at (q + 1)))) (λ (x : Float). T (lt t x) → ⊥)
        (λ x f u.
        let g = finite-at p h in
        let n = le-no-nan t x (lt→le t x u) in
        let a = lt→key t x ft f.0.fitting n.0 n.1 u in
        let b = le→key (at p) t g.fitting ft (finite-no-nan (at p) g.finitely) n.0 (reached (omega arith)) in
        absurd (omega (arith, f.1, climb starts R.windows.rising (q + 1) p (omega arith) h))) (part q)
        (every-zip FiniteDouble (λ (x : Float). key x ≤ key (at (q + 1))) (λ (x : Float). FiniteDouble x × (key x ≤ key (at (q + 1)))) (λ x f k. (f, k)) (part q) (part-finite R q (omega arith)) (upto_next q (omega arith)))

    -- the next start is above t
    next-above : p + 1 < length starts → (x : Float) → T (lt t x) → T (lt t (at (p + 1)))
    next-above l x u =
        let g = finite-at (p + 1) l in
        let n = le-no-nan t x (lt→le t x u) in
        elim (le-or-lt (at (p + 1)) t g.fitting ft (finite-no-nan (at (p + 1)) g.finitely) n.0) [
          | inl v ↦ absurd (differ (sym (is_true (le (at (p + 1)) t) v) ∙ last-later t ft starts nan R.windows.rising (p + 1) (omega (arith, here)) l))
          | inr v ↦ v
        ]
      where
        differ : true ≡ false → ⊥
        differ e = let z : ◌≡◌ {A = ℕ} 0 1 = cc in absurd (omega arith)

    -- what stands for the times of each window stands for all
    module _ (g : List Float) (own : Every (λ (x : Float). In x g) (part p)) (behind : (q : ℕ) → p < q → q < length starts → Every (λ (x : Float). T (lt t x) → Before g t x) (part q)) where
      each : (q : ℕ) → q < length starts → Every (λ (x : Float). T (lt t x) → Before g t x) (part q)
      each q l = elim (dec_le p q) [
        | no a ↦ every_map (λ (x : Float). T (lt t x) → ⊥) (λ (x : Float). T (lt t x) → Before g t x) (λ x f u. absurd (f u)) (part q) (earlier q (omega arith))
        | yes a ↦ elim (dec_le q p) [
          | yes b ↦
              let z : p ≡ q = omega arith in
              subst (λ (i : ℕ). Every (λ (x : Float). T (lt t x) → Before g t x) (part i)) z
              (every_map (λ (x : Float). In x g) (λ (x : Float). T (lt t x) → Before g t x) (λ x i u. (x, i, u, omega arith)) (part p) own)
          | no b ↦ behind q (omega arith) l
        ]
      ]

      first-around : Every (λ (x : Float). In x all) g → (b : Option Float) → FirstIs g t b → FirstIs all t b
      first-around among = first-of-all t g all among (every-gather (λ (q : ℕ). q < length starts) (λ (x : Float). T (lt t x) → Before g t x) part each (below (length starts)) (every-below (length starts)))

    -- ---- by a search in the window

    abbrev searched : List Float
    searched = part p ++ next_start starts p

    -- of the next start, if there is one
    if-next : (P : Float → Type 0) → (p + 1 < length starts → P (at (p + 1))) → Every P (next_start starts p)
    if-next P f = go (ltb (p + 1) (length starts)) refl
      where
        go : (b : Bool) → ltb (p + 1) (length starts) ≡ b → Every P (cond b (at (p + 1) ∷ []) [])
        go true e = (f (ltb-true (p + 1) (length starts) e), tt)
        go false e = tt

    searched-finite : Every FiniteDouble searched
    searched-finite = every_append FiniteDouble (part p) (next_start starts p) (part-finite R p h) (if-next FiniteDouble (finite-at (p + 1)))

    first-searched : (b : Option Float) → FirstIs searched t b → FirstIs all t b
    first-searched =
        first-around searched (every-left (λ (x : Float). In x searched) (part p) (next_start starts p) (every_in searched)) behind
        (every_append (λ (x : Float). In x all) (part p) (next_start starts p) (part_in R p h) (if-next (λ (x : Float). In x all) (λ l. part-first R (λ (x : Float). In x all) (p + 1) (part_in R (p + 1) l))))
      where
        start-in : p + 1 < length starts → In (at (p + 1)) searched
        start-in l =
            (subst (λ (b : Bool). Every (λ (x : Float). In x searched) (cond b (at (p + 1) ∷ []) [])) (lt-ltb (p + 1) (length starts) l) (every-right (λ (x : Float). In x searched) (part p) (next_start starts p) (every_in searched))).0

        behind : (q : ℕ) → p < q → q < length starts → Every (λ (x : Float). T (lt t x) → Before searched t x) (part q)
        behind q l n =
            every_map (λ (x : Float). key (at q) ≤ key x) (λ (x : Float). T (lt t x) → Before searched t x)
            (λ x k u. (at (p + 1), start-in (omega arith), next-above (omega arith) x u, omega (arith, climb starts R.windows.rising (p + 1) q (omega arith) n))) (part q) (from_start q (omega arith) n)

    pub next-searched : (b : Option Float) → UpperIs searched t b → NextTime starts clips xs ys times ends t (with_zero (zero_of (minus_gathered starts clips xs times ends)) b)
    next-searched None U = next-time R t ft None (first-searched None U)
    next-searched (Some u) U =
        let w = upper_first t ft searched searched-finite u U in
        let z = minus_gathered starts clips xs times ends in
        next-time R t ft (with_zero (zero_of z) (Some u)) (first_next t ft all (times-finite R) z (minus-listed R (omega arith)) (minus-found R) w.0 (first-searched (Some w.0) w.2) u U.fits w.1)
