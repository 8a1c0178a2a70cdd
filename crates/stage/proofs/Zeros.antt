-- Whether -0.0 is among the gathered times: a start is, or a knot, or, with no knots, a sample of the clip that is active at zero. An inverse time is -0.0
-- only where the knot that it is measured from is. Assumes nothing.
use mathlib.Core.Path.{◌≡◌, refl, sym, ap, ◌∙◌, subst}
use mathlib.Core.Logic.{◌⊎◌, inl, inr}
use mathlib.Core.Bool.{Bool, true, false, ◌&&◌, ◌||◌, cond}
use mathlib.Core.List.{List, [], ◌∷◌, ◌++◌}
use Prim.Native.Nat.{ℕ, ◌+◌, ◌-◌, ◌≤◌, ◌<◌}
use native.Mathlib.Omega.{arith}
use native.Mathlib.Decide.{dec_le}
use lib.Dec.{T, eqb, ltb, eqb→eq}
use lib.ListN.{length, get_or}
use lib.Ieee.{Float, nan, inf, binary64, lt, le}
use lib.Ieee.Fits.{eq→eqb, mul-fits}
use borrow.Author.Tests.{ltb-true, ltb-false}
use Rattle.gf.proofs.KeyLaws.{lt_not_le}
use Rattle.gf.specs.Doubles.{◌⊖◌, ◌⊗◌, ◌⊘◌, total_key}
use Rattle.definitions.specs.declared.Knot.{Knot}
use Rattle.definitions.specs.Lists.{keep, pairs, pairs_from, below}
use Rattle.definitions.specs.Doubles.{FiniteDouble}
use Rattle.definitions.specs.ClipSet.{knot_times, clip}
use Rattle.definitions.specs.Timing.{last_at_most}
use Rattle.definitions.specs.Value.{spans, inverse, on_pair, stage_times_for_clip_time}
use Rattle.laws.proofs.list.Tests.{is_true, is_false, both, both_l, both_r, or_l, or_r, or_split}
use Rattle.laws.specs.list.Every.{Every}
use Rattle.laws.proofs.list.Every.{every-at, any-with, every_map, every-zip, every_append, every-left, every-right, every-keep, every-kept, every-by, every-gather, every-below}
use Rattle.laws.proofs.list.Places.{at_most, at-most-length, beyond, up_to, last-is, last-inside}
use Rattle.laws.specs.list.Places.{Fits}
use Rattle.laws.specs.cell.Lent.{knots_of}
use Rattle.laws.proofs.cell.Lent.{knot-times}
use Rattle.window.specs.Parts.{part_of}
use Rattle.window.specs.SoundSegments.{SoundSegment}
use Rattle.window.specs.Bounds.{inside, In}
use Rattle.window.proofs.BoundsLaws.{every_in}
use Rattle.window.specs.Inverses.{inverses_of}
use Rattle.window.proofs.Inverses.{inverses-none, every-if, knots-long}
use Rattle.window.specs.Windows.{min_of, max_of, window_of, window_part}
use Rattle.stage.specs.MinusZero.{minus_zero}
use Rattle.stage.proofs.MinusZero.{minus-finite, minus-total, add-minus}
use Rattle.stage.proofs.Ordered.{total-same}
use Rattle.stage.specs.Whole.{whole_times, Windows}
use Rattle.stage.proofs.Whole.{own-from, own_below}
use Rattle.stage.specs.Times.{gathered_times, AcceptedTimes}
use Rattle.stage.proofs.Times.{part-first, part_in}
use Rattle.stage.specs.Zeros.{is_minus_zero, any_minus_zero, samples_at_zero, minus_gathered, Sampled}

pub windows-sampled : {starts : List Float} {clips : List ℕ} {xs ys times : List Float} {ends : List ℕ} → Windows starts clips xs ys times ends → 0 < length starts → Sampled starts clips times ends
windows-sampled W h = record { rising = W.rising; some = h; paired = W.paired; named = W.named; order = W.readable.from; inside = W.readable.inside }

-- ---- the test

is-minus : (x : Float) → Fits x → T (is_minus_zero x) → x ≡ minus_zero
is-minus x f h = total-same x minus_zero f minus-finite.fitting (eqb→eq (total_key x) 0x7fff_ffff_ffff_ffff h ∙ sym minus-total)

any-minus : (x : Float) (l : List Float) → In x l → x ≡ minus_zero → T (any_minus_zero l)
any-minus x [] i e = absurd i
any-minus x (y ∷ l) (inl q) e = or_l (is_minus_zero y) (any_minus_zero l) (eq→eqb (ap total_key (sym q ∙ e) ∙ minus-total))
any-minus x (y ∷ l) (inr i) e = or_r (is_minus_zero y) (any_minus_zero l) (any-minus x l i e)

-- ---- knots

pairs_first : (P : Float → Type 0) (k : Knot) (l : List Knot) → Every P (knot_times (k ∷ l)) → Every (λ (q : Knot × Knot). P q.0.x) (pairs_from k l)
pairs_first P k [] h = tt
pairs_first P k (n ∷ l) h = (h.0, pairs_first P n l h.1)

-- with no knots the inverse times are the samples
plain : (xs ys cs : List Float) → length xs ≡ 0 → inverses_of (knots_of xs ys) cs ≡ cs
plain [] ys cs e = inverses-none cs
plain (x ∷ xs) ys cs e = absurd (omega arith)

-- ---- over the lists

module _ {starts : List Float} {clips : List ℕ} {xs ys times : List Float} {ends : List ℕ} (R : AcceptedTimes starts clips xs ys times ends) where
  abbrev part : ℕ → List Float
  part p = whole_times starts clips xs ys times ends p

  abbrev all : List Float
  all = gathered_times starts clips xs ys times ends

  -- by a start, by a knot, by a sample
  abbrev minus : Bool
  minus = minus_gathered starts clips xs times ends

  abbrev by-start : Bool
  by-start = any_minus_zero starts

  abbrev by-knot : Bool
  by-knot = any_minus_zero xs

  abbrev by-sample : Bool
  by-sample = eqb (length xs) 0 && any_minus_zero (samples_at_zero starts clips times ends)

  -- the place of the start that is active at zero, and its window
  abbrev at_zero : ℕ
  at_zero = last_at_most starts minus_zero

  abbrev window : Float → Bool
  window = inside (window_of starts at_zero)

  -- no other window has zero inside
  own-window : (q : ℕ) → q < length starts → T (inside (window_of starts q) minus_zero) → q ≡ at_zero
  own-window q l i =
      let f = minus-finite.fitting in
      let a = from (eqb q 0) refl (both_l (le (min_of starts q) minus_zero) (lt minus_zero (max_of starts q)) i) in
      let b = upto (ltb (q + 1) (length starts)) refl (both_r (le (min_of starts q) minus_zero) (lt minus_zero (max_of starts q)) i) in
      place q (at_most starts minus_zero) at_zero (last-is minus_zero f starts R.windows.rising) a b
    where
      from : (b : Bool) → eqb q 0 ≡ b → T (le (cond b (inf true) (get_or starts q nan)) minus_zero) → (q ≡ 0) ⊎ (q < at_most starts minus_zero)
      from true e h = inl (eqb→eq q 0 (subst T (sym e) tt))
      from false e h = inr (beyond minus_zero minus-finite.fitting nan starts R.windows.rising q l (is_true (le (get_or starts q nan) minus_zero) h))

      upto : (b : Bool) → ltb (q + 1) (length starts) ≡ b → T (lt minus_zero (cond b (get_or starts (q + 1) nan) (inf false))) → at_most starts minus_zero ≤ q + 1
      upto true e h =
          let n = ltb-true (q + 1) (length starts) e in
          let g = every-at FiniteDouble starts (q + 1) nan R.windows.rising.numbers n in
          up_to minus_zero minus-finite.fitting nan starts R.windows.rising (q + 1) n (is_false (le (get_or starts (q + 1) nan) minus_zero) (lt_not_le minus_zero (get_or starts (q + 1) nan) minus-finite.fitting g.fitting h))
      upto false e h = let n = ltb-false (q + 1) (length starts) e in omega (arith, at-most-length starts minus_zero)

      place : (q n z : ℕ) → z ≡ n - 1 → (q ≡ 0) ⊎ (q < n) → n ≤ q + 1 → q ≡ z
      place q n z e (inl h) u = omega arith
      place q n z e (inr h) u = omega arith

  -- ---- each time that is -0.0 is found

  abbrev Found : Float → Type 0
  Found x = x ≡ minus_zero → T minus

  knot-found : (x : Float) → In x xs → Found x
  knot-found x i e = or_r by-start (by-knot || by-sample) (or_l by-knot by-sample (any-minus x xs i e))

  pair_found : (c : Float) (q : Knot × Knot) → SoundSegment q × In q.0.x xs → Every Found (on_pair c q)
  pair_found c q s = go (spans q.0.y q.1.y c)
    where
      go : (b : Bool) → Every Found (cond b (inverse q.0 q.1 c ∷ []) [])
      go true = (λ e. knot-found q.0.x s.1 (add-minus binary64 q.0.x ((c ⊖ q.0.y) ⊘ (q.1.y ⊖ q.0.y) ⊗ (q.1.x ⊖ q.0.x)) s.0.first.fx (mul-fits binary64 ((c ⊖ q.0.y) ⊘ (q.1.y ⊖ q.0.y)) (q.1.x ⊖ q.0.x)) e), tt)
      go false = tt

  inverse-found : (knots : List Knot) → 0 < length knots → Every SoundSegment (pairs knots) → Every (λ (x : Float). In x xs) (knot_times knots) → (c : Float) → Every Found (stage_times_for_clip_time knots (clip c))
  unfolding stage_times_for_clip_time
  inverse-found [] n s i c = absurd (omega arith)
  inverse-found (k ∷ l) n s i c =
      every-gather (λ (q : Knot × Knot). SoundSegment q × In q.0.x xs) Found (on_pair c) (pair_found c) (pairs (k ∷ l))
      (every-zip SoundSegment (λ (q : Knot × Knot). In q.0.x xs) (λ (q : Knot × Knot). SoundSegment q × In q.0.x xs) (λ q a b. (a, b)) (pairs (k ∷ l)) s (pairs_first (λ (x : Float). In x xs) k l i))

  module _ (q : ℕ) (l : q < length starts) where
    abbrev cs : List Float
    cs = part_of times ends (get_or clips q 0)

    abbrev within : Float → Bool
    within = inside (window_of starts q)

    sample-found : length xs ≡ 0 → (x : Float) → In x cs → T (within x) → Found x
    sample-found n x i u e =
        or_r by-start (by-knot || by-sample)
        (or_r by-knot by-sample
        (both (eqb (length xs) 0) (any_minus_zero (samples_at_zero starts clips times ends)) (eq→eqb n)
        (any-minus x (samples_at_zero starts clips times ends) (subst (λ (k : ℕ). In x (part_of times ends (get_or clips k 0))) (own-window q l (subst (λ (v : Float). T (within v)) e u)) i) e)))

    inverses-found : Every Found (keep within (inverses_of (knots_of xs ys) cs))
    inverses-found = elim (dec_le (length xs) 0) [
      | yes n ↦
          let z : length xs ≡ 0 = omega arith in
          subst (λ (k : List Float). Every Found (keep within k)) (sym (plain xs ys cs z))
          (every-if Found within cs (every_map (λ (x : Float). In x cs) (λ (x : Float). T (within x) → Found x) (sample-found z) cs (every_in cs)))
      | no n ↦
          every-keep Found within (inverses_of (knots_of xs ys) cs)
          (every-gather (λ (c : Float). In c cs) Found (λ (c : Float). stage_times_for_clip_time (knots_of xs ys) (clip c))
          (λ c i. inverse-found (knots_of xs ys) (omega (arith, knots-long xs ys R.windows.readable.paired)) R.windows.readable.segments (subst (Every (λ (x : Float). In x xs)) (sym (knot-times xs ys R.windows.readable.paired)) (every_in xs)) c) cs (every_in cs))
    ]

    part-found : Every Found (part q)
    unfolding window_part
    part-found = (
      (λ e. or_l by-start (by-knot || by-sample) (any-minus (get_or starts q nan) starts (every-at (λ (x : Float). In x starts) starts q nan (every_in starts) l) e)),
      every_append Found (keep within xs) (keep within (inverses_of (knots_of xs ys) cs)) (every-keep Found within xs (every_map (λ (x : Float). In x xs) Found knot-found xs (every_in xs))) inverses-found,
    )

  pub minus-found : Every (λ (x : Float). x ≡ minus_zero → T minus) all
  minus-found = every-gather (λ (q : ℕ). q < length starts) Found part part-found (below (length starts)) (every-below (length starts))

  -- ---- what is found is among them

  module _ (some : 0 < length starts) where
    here : at_zero < length starts
    here = last-inside minus_zero minus-finite.fitting starts R.windows.rising some

    home : T (window minus_zero)
    home = both (le (min_of starts at_zero) minus_zero) (lt minus_zero (max_of starts at_zero)) (own-from R.windows at_zero here minus_zero refl minus-finite) (own_below R.windows at_zero here minus_zero refl minus-finite)

    listed : (l : List Float) → Every FiniteDouble l → Every (λ (x : Float). T (window x) → In x all) l → T (any_minus_zero l) → In minus_zero all
    listed l f i h =
        let w = any-with is_minus_zero (λ (x : Float). FiniteDouble x × (T (window x) → In x all)) l h
        (every-zip FiniteDouble (λ (x : Float). T (window x) → In x all) (λ (x : Float). FiniteDouble x × (T (window x) → In x all)) (λ x a b. (a, b)) l f i) in
        let e = is-minus w.0 w.2.0.fitting w.1 in
        subst (λ (x : Float). In x all) e (w.2.1 (subst (λ (x : Float). T (window x)) (sym e) home))

    -- the knots and the inverse times inside the window
    inner : Every (λ (x : Float). In x all) (keep window xs ++ keep window (inverses_of (knots_of xs ys) (samples_at_zero starts clips times ends)))
    unfolding window_part
    inner = (part_in R at_zero here).1

    pub minus-listed : T minus → In minus_zero all
    minus-listed h =
        let cs = samples_at_zero starts clips times ends in
        elim (or_split by-start (by-knot || by-sample) h) [
          | inl a ↦ listed starts R.windows.rising.numbers (every-by (λ (x : Float). T (window x) → In x all) starts nan (λ i l u. part-first R (λ (x : Float). In x all) i (part_in R i l))) a
          | inr b ↦ elim (or_split by-knot by-sample b) [
            | inl a ↦ listed xs R.windows.readable.knots.numbers (every-kept (λ (x : Float). In x all) window xs (every-left (λ (x : Float). In x all) (keep window xs) (keep window (inverses_of (knots_of xs ys) cs)) inner)) a
            | inr a ↦
                let z = eqb→eq (length xs) 0 (both_l (eqb (length xs) 0) (any_minus_zero cs) a) in
                listed cs (R.windows.readable.rising (get_or clips at_zero 0) (R.windows.named at_zero here)).numbers
                (every-kept (λ (x : Float). In x all) window cs
                (subst (λ (k : List Float). Every (λ (x : Float). In x all) (keep window k)) (plain xs ys cs z) (every-right (λ (x : Float). In x all) (keep window xs) (keep window (inverses_of (knots_of xs ys) cs)) inner)))
                (both_r (eqb (length xs) 0) (any_minus_zero cs) a)
          ]
        ]
