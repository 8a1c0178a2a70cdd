-- The inverse times of all segments by those of the segment of t: behind it they are not below the next knot, before it they are not above the knot of t, but
-- for rounding. Assumes nothing.
use Rattle.std.specs.Prelude.{Option, None, Some}
use mathlib.Core.Path.{◌≡◌, sym, ap, ap₂, ◌∙◌, subst}
use mathlib.Core.Bool.{Bool, true, false, cond}
use mathlib.Core.List.{List, [], ◌∷◌, ◌++◌}
use Prim.Native.Nat.{ℕ, suc, ◌+◌, ◌≤◌, ◌<◌, zero-le}
use native.Mathlib.Numerals.{add-one}
use native.Mathlib.Omega.{arith}
use native.Mathlib.Decide.{dec_le}
use lib.Dec.{T}
use lib.ListN.{length, get_or}
use lib.Ieee.{Float, nan, le}
use Rattle.gf.specs.Doubles.{key}
use Rattle.gf.proofs.KeyLaws.{le→key, le-no-nan, le_trans}
use Rattle.gf.specs.declared.interval.Interval.{Interval}
use Rattle.definitions.specs.declared.Knot.{Knot}
use Rattle.definitions.specs.Lists.{keep, pairs, gather}
use Rattle.definitions.specs.Doubles.{FiniteDouble}
use Rattle.definitions.specs.Explicit.{knot}
use Rattle.definitions.specs.Timing.{last_at_most}
use Rattle.definitions.specs.Value.{spans, inverse, on_pair}
use Rattle.laws.specs.list.Every.{Every}
use Rattle.laws.proofs.list.Every.{every-at, every-by, every-kept, every_map, every_append, every-left, every-right}
use Rattle.laws.specs.list.Places.{Ascending, Number}
use Rattle.laws.proofs.set.Stored.{length_pairs, pairs-at}
use Rattle.laws.specs.cell.Lent.{knots_of}
use Rattle.window.specs.declared.Neighbours.{Neighbours}
use Rattle.window.specs.Bounds.{In, inside}
use Rattle.window.proofs.BoundsLaws.{in-every}
use Rattle.window.specs.Inverses.{on_segment, inverses_of}
use Rattle.window.proofs.Inverses.{every_of, every-each, every-if, by-samples, by-segments, knots-long, knots-at}
use Rattle.window.specs.SoundSegments.{SoundSegment}
use Rattle.window.proofs.SoundSegments.{inverse-fits, range}
use Rattle.window.specs.nearest.Nearest.{LowerMet, UpperMet, Met, LowerIn, Searched}
use Rattle.window.specs.nearest.Beside.{TimeInside}
use Rattle.window.proofs.nearest.Beside.{meet-above, number_at, climb, next-above}
use Rattle.window.specs.search.Latest.{segment_of, LatestBefore}
use Rattle.window.proofs.search.LatestLaws.{segment-here}
use Rattle.window.specs.search.Reaches.{PastAll, times_of, Reached, Around}

-- ---- what a search among segments promises

module _ (t : Float) (w : Interval) (xs ys cs : List Float) where
  -- ---- segment by segment, downward

  pub reached-one : (j k to : ℕ) {h m r : Neighbours} → suc k ≡ j → Reached t w xs ys cs j to h m → Searched t (times_of w xs ys cs k) m r → k < to → Reached t w xs ys cs k to h r
  reached-one j k to {h} {m} {r} e A B l = record {
    run = λ nt g N i s.
        let u = A.run nt g N (λ n a b. i n (omega arith) b) s in
        let v = B.run nt g N (i k (omega arith) l) u.among in
        record {
          among = v.among;
          known = λ n a b. elim (dec_le j n) [
            | yes p ↦ every_map (Met t m) (Met t r) v.kept (times_of w xs ys cs n) (u.known n p b)
            | no p ↦ let z : k ≡ n = omega arith in subst (λ (y : ℕ). Every (Met t r) (times_of w xs ys cs y)) z v.known
          ];
          kept = λ x y. v.kept x (u.kept x y);
        };
  }

  -- what a segment's inverse times are, one by one
  pub segment-times : (j : ℕ) (P : Float → Type 0) → ((c : Float) → T (spans (get_or ys j nan) (get_or ys (j + 1) nan) c) → T (inside w (inverse (segment_of xs ys j).0 (segment_of xs ys j).1 c)) → P (inverse (segment_of xs ys j).0 (segment_of xs ys j).1 c))
      → Every P (times_of w xs ys cs j)
  unfolding on_segment
  segment-times j P f =
      every-if P (inside w) (gather (λ (c : Float). on_pair c (segment_of xs ys j)) cs)
      (every_of (λ (x : Float). T (inside w x) → P x) (λ (c : Float). on_pair c (segment_of xs ys j)) cs (each cs))
    where
      one : (c : Float) → Every (λ (x : Float). T (inside w x) → P x) (on_pair c (segment_of xs ys j))
      one c = go (spans (get_or ys j nan) (get_or ys (j + 1) nan) c) (λ x. x)
        where
          go : (b : Bool) → (T b → T (spans (get_or ys j nan) (get_or ys (j + 1) nan) c)) → Every (λ (x : Float). T (inside w x) → P x) (cond b (inverse (segment_of xs ys j).0 (segment_of xs ys j).1 c ∷ []) [])
          go true x = (f c (x tt), tt)
          go false x = tt

      each : (l : List Float) → Every (λ (c : Float). Every (λ (x : Float). T (inside w x) → P x) (on_pair c (segment_of xs ys j))) l
      each [] = tt
      each (c ∷ l) = (one c, each l)

  module _ (F : TimeInside w t) (ft : FiniteDouble t) (a : Ascending xs) (e : length xs ≡ length ys) (S : Every SoundSegment (pairs (knots_of xs ys))) (i : ℕ) (at : i ≡ last_at_most xs t) (l : i < length xs) where
    abbrev inv : ℕ → Float → Float
    inv j c = inverse (segment_of xs ys j).0 (segment_of xs ys j).1 c

    -- an inverse time is a number, from the segment's first knot on
    pub inverse-number : (j : ℕ) → j + 1 < length xs → (c : Float) → T (spans (get_or ys j nan) (get_or ys (j + 1) nan) c) → Number (inv j c) × (key (get_or xs j nan) ≤ key (inv j c))
    inverse-number j h c s =
        let r = range (segment_of xs ys j) (segment-here xs ys e S j h) c s in
        let n = le-no-nan (get_or xs j nan) (inv j c) r.0 in
        let x = number_at xs a j (omega arith) in
        let f = inverse-fits (segment_of xs ys j) c in
        ((f, n.1), le→key (get_or xs j nan) (inv j c) x.0 f x.1 n.1 r.0)

    -- ---- the segments before those that were searched reach no further than the lower neighbour

    pub reached-past : (to j : ℕ) → j ≤ to → to < length xs → (top : Float) → LatestBefore xs ys j top → {h r : Neighbours} → PastAll r.lower top → Reached t w xs ys cs j to h r → Reached t w xs ys cs 0 to h r
    reached-past to j q b' top O {h} {r} d A = record {
      run = λ nt g N x s.
          let u = A.run nt g N (λ n y b. x n zero-le b) s in
          record {
            among = u.among;
            known = λ n y b. elim (dec_le j n) [
              | yes v ↦ u.known n v b
              | no v ↦ segment-times n (Met t r) (λ c z o. past r.lower g N u.among.0 d (inv n c) (inverse-number n (omega arith) c z).0 (O.last n (omega arith) c z))
            ];
            kept = u.kept;
          };
    }
      where
        past : (b : Option Float) (g : List Float) → Every Number g → LowerIn g t b → PastAll b top → (x : Float) → Number x → T (le x top) → (key x ≤ key t → LowerMet b x) × (key t < key x → UpperMet r.upper x)
        past None g N m e x n k = absurd e
        past (Some l) g N m e x n k =
            let nl = in-every Number l g N m.0 in
            let v = le→key x l n.0 nl.0 n.1 nl.1 (le_trans x top l n.0 O.number.0 nl.0 k e) in
            (λ _. v, λ y. absurd (omega (arith, m.1)))

    -- ---- those behind begin at the next knot

    module _ (r : Neighbours) (next : i + 1 < length xs → T (inside w (get_or xs (i + 1) nan)) → Met t r (get_or xs (i + 1) nan)) where
      behind : (j : ℕ) → i < j → j + 1 < length xs → Every (Met t r) (times_of w xs ys cs j)
      behind j p h =
          segment-times j (Met t r)
          (λ c z o. let y = inverse-number j h c z in
          let g : i + 1 < length xs = omega arith in
          let k = climb xs a (i + 1) j (omega arith) (omega arith) in
          meet-above w t F r (inv j c) (get_or xs (i + 1) nan) y.0 (number_at xs a (i + 1) g) (next-above xs a t ft i at g) (omega (arith, y.1)) o (next g))

    -- ---- all of them

    -- by places and as they are gathered
    module _ (P : Float → Type 0) where
      pub to-places : Every P (keep (inside w) (inverses_of (knots_of xs ys) cs)) → (j : ℕ) → j + 1 < length xs → Every P (times_of w xs ys cs j)
      to-places = go (knots_of xs ys) (knots-long xs ys e) (λ j h. knots-at xs ys e j nan nan (knot nan nan) h)
        where
          go : (k : List Knot) → length k ≡ length xs → ((j : ℕ) → j < length xs → get_or k j (knot nan nan) ≡ (segment_of xs ys j).0)
              → Every P (keep (inside w) (inverses_of k cs)) → (j : ℕ) → j + 1 < length xs → Every P (times_of w xs ys cs j)
          go [] m f h j b = absurd (omega arith)
          go (k ∷ rest) m f h j b =
              let d = knot nan nan in
              let all = every-each (λ (x : Float). T (inside w x) → P x) (on_segment cs) (pairs (k ∷ rest)) (every-kept P (inside w) (gather (on_segment cs) (pairs (k ∷ rest))) (by-segments P (inside w) cs k rest h)) in
              let here = every-at (λ (q : Knot × Knot). Every (λ (x : Float). T (inside w x) → P x) (on_segment cs q)) (pairs (k ∷ rest)) j (d, d) all (omega (arith, length_pairs k rest)) in
              let z : get_or (pairs (k ∷ rest)) j (d, d) ≡ segment_of xs ys j = pairs-at (k ∷ rest) j d (omega arith) ∙ ap₂ (λ (u v : Knot). (u, v)) (f j (omega arith)) (ap (λ (n : ℕ). get_or (k ∷ rest) n d) (sym (add-one j)) ∙ f (j + 1) b) in
              every-if P (inside w) (on_segment cs (segment_of xs ys j)) (subst (λ (q : Knot × Knot). Every (λ (x : Float). T (inside w x) → P x) (on_segment cs q)) z here)

      pub from_places : ((j : ℕ) → j + 1 < length xs → Every P (times_of w xs ys cs j)) → Every P (keep (inside w) (inverses_of (knots_of xs ys) cs))
      from_places = go (knots_of xs ys) (knots-long xs ys e) (λ j h. knots-at xs ys e j nan nan (knot nan nan) h)
        where
          go : (k : List Knot) → length k ≡ length xs → ((j : ℕ) → j < length xs → get_or k j (knot nan nan) ≡ (segment_of xs ys j).0)
              → ((j : ℕ) → j + 1 < length xs → Every P (times_of w xs ys cs j)) → Every P (keep (inside w) (inverses_of k cs))
          go [] m f h = absurd (omega arith)
          go (k ∷ rest) m f h =
              let d = knot nan nan in
              by-samples P (inside w) cs k rest
              (every-if P (inside w) (gather (on_segment cs) (pairs (k ∷ rest)))
              (every_of (λ (x : Float). T (inside w x) → P x) (on_segment cs) (pairs (k ∷ rest))
              (every-by (λ (q : Knot × Knot). Every (λ (x : Float). T (inside w x) → P x) (on_segment cs q)) (pairs (k ∷ rest)) (d, d)
              (λ j b. let c : j + 1 < length xs = omega (arith, length_pairs k rest) in
              let z : get_or (pairs (k ∷ rest)) j (d, d) ≡ segment_of xs ys j = pairs-at (k ∷ rest) j d (omega (arith, length_pairs k rest)) ∙ ap₂ (λ (u v : Knot). (u, v)) (f j (omega arith)) (ap (λ (n : ℕ). get_or (k ∷ rest) n d) (sym (add-one j)) ∙ f (j + 1) c) in
              subst (λ (q : Knot × Knot). Every (λ (x : Float). T (inside w x) → P x) (on_segment cs q)) (sym z) (every-kept P (inside w) (on_segment cs (segment_of xs ys j)) (h j c))))))

    pub inverses-number : Every Number (keep (inside w) (inverses_of (knots_of xs ys) cs))
    inverses-number = from_places Number (λ j h. segment-times j Number (λ c z o. (inverse-number j h c z).0))

    -- the knots that are known
    knot-known : (h : Neighbours) → Every (Met t h) (keep (inside w) xs) → (j : ℕ) → j < length xs → T (inside w (get_or xs j nan)) → Met t h (get_or xs j nan)
    knot-known h k j b = every-at (λ (x : Float). T (inside w x) → Met t h x) xs j nan (every-kept (Met t h) (inside w) xs k) b

    -- those before a knot, if that of t is among them, where there is one
    pub around-all : (to : ℕ) → i ≤ to → to < length xs → (i + 1 < length xs → i < to) → {h r : Neighbours} → Reached t w xs ys cs 0 to h r → Around t w xs ys cs h r
    around-all to p q b {h} {r} B = record {
      run = λ nt g N x s k.
          let v = B.run nt g N (λ j z d. to-places (λ (o : Float). In o g) x j (omega arith)) s in
          record {
            among = v.among;
            known = from_places (Met t r)
                (λ j d. elim (dec_le to j) [
                  | no o ↦ v.known j zero-le (omega arith)
                  | yes o ↦ behind r (λ y d. v.kept (get_or xs (i + 1) nan) (knot-known h k (i + 1) y d)) j (omega (arith, b (omega arith))) d
                ]);
            kept = v.kept;
          };
    }

  -- ---- after the knots

  pub around-searched : {h m r : Neighbours} → Searched t (keep (inside w) xs) h m → Around t w xs ys cs m r → Searched t (keep (inside w) xs ++ keep (inside w) (inverses_of (knots_of xs ys) cs)) h r
  around-searched {h} {m} {r} A B = record {
    run = λ nt g N x s.
        let u = A.run nt g N (every-left (λ (z : Float). In z g) (keep (inside w) xs) (keep (inside w) (inverses_of (knots_of xs ys) cs)) x) s in
        let v = B.run nt g N (every-right (λ (z : Float). In z g) (keep (inside w) xs) (keep (inside w) (inverses_of (knots_of xs ys) cs)) x) u.among u.known in
        record {
          among = v.among;
          known = every_append (Met t r) (keep (inside w) xs) (keep (inside w) (inverses_of (knots_of xs ys) cs)) (every_map (Met t m) (Met t r) v.kept (keep (inside w) xs) u.known) v.known;
          kept = λ z d. v.kept z (u.kept z d);
        };
  }
