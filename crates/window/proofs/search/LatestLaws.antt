-- How far the inverse times of the segments reach: rounding may take one past its segment's second knot. Assumes nothing.
use mathlib.Core.Path.{◌≡◌, sym, ap₂, ◌∙◌, subst}
use mathlib.Core.Logic.{inl, inr}
use mathlib.Core.Bool.{true, false, ◌&&◌}
use mathlib.Core.List.{List}
use Prim.Native.Nat.{ℕ, ◌+◌, ◌<◌}
use native.Mathlib.Omega.{arith}
use native.Mathlib.Decide.{dec_le}
use lib.Dec.{T}
use lib.ListN.{length, get_or, set, length-set}
use lib.Seq.{get_or-set_same, get_or-set_other}
use lib.Ieee.{Float, binary64, fits, nan, eq, lt, le}
use borrow.Author.Tests.{eqb-true, eqb-false}
use Rattle.gf.specs.Doubles.{key}
use Rattle.gf.proofs.KeyLaws.{lt→key, key→lt, key→le, eq_is, le_refl, le_trans, le-no-nan, finite-no-nan}
use Rattle.gf.proofs.Exactly.{within-finite}
use Rattle.definitions.specs.declared.Knot.{Knot}
use Rattle.definitions.specs.Lists.{pairs}
use Rattle.definitions.specs.ClipSet.{max_knots}
use Rattle.definitions.specs.Explicit.{knot}
use Rattle.definitions.specs.Value.{spans, inverse}
use Rattle.laws.proofs.list.Tests.{both, both_l, or_l, or_r, or_split}
use Rattle.laws.specs.list.Every.{Every}
use Rattle.laws.specs.list.Places.{Number}
use Rattle.laws.specs.cell.Lent.{knots_of}
use Rattle.lists.specs.Segments.{knot_at}
use Rattle.window.proofs.Inverses.{knots-long, knots-at}
use Rattle.window.specs.SoundSegments.{SoundSegment}
use Rattle.window.proofs.SoundSegments.{segment-at, top_of, inverse-fits, range}
use Rattle.window.specs.search.Latest.{segment_of, LatestBefore, LatestOf, LaterInverse}

pub no-latest : (xs ys latest : List Float) → length latest ≡ 0 → LatestOf xs ys latest
no-latest xs ys latest e = record { above = λ k h. absurd (omega arith) }

-- of sound knots each is a segment
pub segment-here : (xs ys : List Float) → length xs ≡ length ys → Every SoundSegment (pairs (knots_of xs ys)) → (j : ℕ) → j + 1 < length xs → SoundSegment (segment_of xs ys j)
segment-here xs ys e s j h =
    let d = knot nan nan in
    subst SoundSegment (ap₂ (λ (u v : Knot). (u, v)) (knots-at xs ys e j nan nan d (omega arith)) (knots-at xs ys e (j + 1) nan nan d h))
    (segment-at (knots_of xs ys) s j d (omega (arith, knots-long xs ys e)))

-- ---- one segment more

module _ (q : Knot × Knot) (s : SoundSegment q) (top : Float) (nt : Number top) where
  na : Number q.0.y
  na = (s.first.fy, finite-no-nan q.0.y (within-finite 40 q.0.y s.first.by))

  nb : Number q.1.y
  nb = (s.second.fy, finite-no-nan q.1.y (within-finite 40 q.1.y s.second.by))

  -- equal clip times span nothing
  spans_apart : eq q.0.y q.1.y ≡ true → (c : Float) → T (spans q.0.y q.1.y c) → ⊥
  spans_apart e c h =
      let k = eqb-true (key q.0.y) (key q.1.y) (sym (eq_is q.0.y q.1.y na.0 nb.0 na.1 nb.1) ∙ e) in
      elim (or_split (lt q.0.y q.1.y && le q.0.y c && le c q.1.y) (lt q.1.y q.0.y && le q.1.y c && le c q.0.y) h) [
        | inl u ↦
            let v = lt→key q.0.y q.1.y na.0 nb.0 na.1 nb.1 (both_l (lt q.0.y q.1.y) (le q.0.y c) (both_l (lt q.0.y q.1.y && le q.0.y c) (le c q.1.y) u)) in
            absurd (omega arith)
        | inr u ↦
            let v = lt→key q.1.y q.0.y nb.0 na.0 nb.1 na.1 (both_l (lt q.1.y q.0.y) (le q.1.y c) (both_l (lt q.1.y q.0.y && le q.1.y c) (le c q.0.y) u)) in
            absurd (omega arith)
      ]

  pub top-flat : eq q.0.y q.1.y ≡ true → LaterInverse q top top
  top-flat e = record { number = nt; over = le_refl top nt.0 nt.1; reach = λ c h. absurd (spans_apart e c h) }

  module _ (e : eq q.0.y q.1.y ≡ false) where
    -- others span their second one
    spans-second : T (spans q.0.y q.1.y q.1.y)
    spans-second =
        let k = eqb-false (key q.0.y) (key q.1.y) (sym (eq_is q.0.y q.1.y na.0 nb.0 na.1 nb.1) ∙ e) in
        let itself = le_refl q.1.y nb.0 nb.1 in
        elim (dec_le (key q.0.y) (key q.1.y)) [
          | yes l ↦
              or_l (lt q.0.y q.1.y && le q.0.y q.1.y && le q.1.y q.1.y) (lt q.1.y q.0.y && le q.1.y q.1.y && le q.1.y q.0.y)
              (both (lt q.0.y q.1.y && le q.0.y q.1.y) (le q.1.y q.1.y) (both (lt q.0.y q.1.y) (le q.0.y q.1.y) (key→lt q.0.y q.1.y na.0 nb.0 na.1 nb.1 (omega arith)) (key→le q.0.y q.1.y na.0 nb.0 na.1 nb.1 l)) itself)
          | no l ↦
              or_r (lt q.0.y q.1.y && le q.0.y q.1.y && le q.1.y q.1.y) (lt q.1.y q.0.y && le q.1.y q.1.y && le q.1.y q.0.y)
              (both (lt q.1.y q.0.y && le q.1.y q.1.y) (le q.1.y q.0.y) (both (lt q.1.y q.0.y) (le q.1.y q.1.y) (key→lt q.1.y q.0.y nb.0 na.0 nb.1 na.1 (omega arith)) itself) (key→le q.1.y q.0.y nb.0 na.0 nb.1 na.1 (omega arith)))
        ]

    pub last-number : Number (top_of q)
    last-number = (inverse-fits q q.1.y, (le-no-nan q.0.x (top_of q) (range q s q.1.y spans-second).0).1)

  -- what is below neither the top nor the last inverse time
  pub top-over : (r : Float) → T (fits binary64 r) → T (le top r) → T (le (top_of q) r) → LaterInverse q top r
  top-over r fr a b = record {
    number = (fr, (le-no-nan top r a).1);
    over = a;
    reach = λ c h. le_trans (inverse q.0 q.1 c) (top_of q) r (inverse-fits q c) (inverse-fits q q.1.y) fr (range q s c h).1 b;
  }

-- ---- segment by segment

module _ (xs ys : List Float) where
  pub reach-none : (top : Float) → Number top → LatestBefore xs ys 0 top
  reach-none top n = record { number = n; last = λ j h. absurd (omega arith) }

  pub reach-next : (top r : Float) (i : ℕ) → LatestBefore xs ys i top → LaterInverse (segment_of xs ys i) top r → LatestBefore xs ys (i + 1) r
  reach-next top r i A N = record {
    number = N.number;
    last = λ j b c s. elim (dec_le i j) [
      | yes p ↦ let z : i ≡ j = omega arith in subst (λ (n : ℕ). T (spans (get_or ys n nan) (get_or ys (n + 1) nan) c) → T (le (inverse (knot_at xs ys n) (knot_at xs ys (n + 1)) c) r)) z (N.reach c) s
      | no p ↦ le_trans (inverse (knot_at xs ys j) (knot_at xs ys (j + 1)) c) top r (inverse-fits (segment_of xs ys j) c) A.number.0 N.number.0 (A.last j (omega arith) c s) N.over
    ];
  }

  -- ---- all latest

  -- the latest of the segments before i, and the last of them
  pub record TopsTo (items : List Float) (top : Float) (i : ℕ) : Type 0 where
    pub long : length items ≡ max_knots
    pub here : LatestBefore xs ys i top
    pub above : (k : ℕ) → k < i → LatestBefore xs ys (k + 1) (get_or items k nan)

  pub latest-none : (items : List Float) (top : Float) → length items ≡ max_knots → Number top → TopsTo items top 0
  latest-none items top e n = record { long = e; here = reach-none top n; above = λ k h. absurd (omega arith) }

  pub latest-next : (items : List Float) (top r : Float) (i : ℕ) → i < length items → TopsTo items top i → LaterInverse (segment_of xs ys i) top r → TopsTo (set items i r) r (i + 1)
  latest-next items top r i h A N = record {
    long = length-set items i r ∙ A.long;
    here = reach-next top r i A.here N;
    above = λ k b. elim (dec_le i k) [
      | yes p ↦
          let z : i ≡ k = omega arith in
          subst (λ (n : ℕ). LatestBefore xs ys (n + 1) (get_or (set items i r) n nan)) z (subst (LatestBefore xs ys (i + 1)) (sym (get_or-set_same items i r nan h)) (reach-next top r i A.here N))
      | no p ↦ subst (LatestBefore xs ys (k + 1)) (sym (get_or-set_other items i k r nan (λ e. absurd (omega arith)))) (A.above k (omega arith))
    ];
  }
