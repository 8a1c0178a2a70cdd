-- A set's lists as they stand in plain arrays, to and from a prepared set. Assumes nothing.
use Prim.Native.Nat.{ℕ, ◌+◌, ◌-◌, ◌≤◌}
use native.Mathlib.Omega.{arith}
use mathlib.Core.Path.{◌≡◌, refl, sym, ap, ap₂, ◌∙◌, subst}
use mathlib.Core.List.{List, [], ◌∷◌, ◌++◌}
use lib.ListN.{length, take, drop, length-drop, length-append, length-map}
use lib.Seq.{length-take-le, take-append_seam}
use lib.Ieee.{Float}
use Rattle.definitions.specs.declared.Knot.{Knot}
use Rattle.definitions.specs.declared.Start.{Start}
use Rattle.definitions.specs.ClipSet.{active_times, knot_times, max_active, max_knots, max_blocks}
use Rattle.laws.specs.set.Sound.{knot_values}
use Rattle.laws.specs.cell.Lent.{active_of, knots_of, set_of}
use Rattle.clip.specs.declared.ClipSet.{ClipSet}
use Rattle.clip.specs.Holding.{Room, ArraysWhole, active_in, active_clips, knots_in, blocks_in}
use Rattle.standing.specs.declared.Counts.{Counts}
use Rattle.standing.specs.Standing.{Lengths, Unpacked}

-- ---- the entries of an array that count

pub front : {A : Type 0} {most count : ℕ} {items : List A} → Room most items count → count ≡ length (take count items)
front {count = n} {items = l} r = sym (length-take-le n l (omega (arith, r.long, r.few)))

-- a list written over the first entries of an array
module _ {A : Type 0} (new old : List A) (n most : ℕ) (long : length old ≡ most) (few : n ≤ most) (wrote : length new ≡ n) where
  front-list : take n (new ++ drop n old) ≡ new
  front-list = subst (λ (k : ℕ). take k (new ++ drop n old) ≡ new) wrote (take-append_seam new (drop n old))

  front-room : Room most (new ++ drop n old) n
  front-room = record { long = length-append new (drop n old) ∙ sums (length new) (length (drop n old)) wrote (length-drop n old); few = few }
    where
      sums : (a b : ℕ) → a ≡ n → b ≡ length old - n → a + b ≡ most
      sums a b p q = omega (arith, long)

-- ---- lists taken apart and put together again

active-back : (l : List Start) → active_of (active_times l) (active_clips l) ≡ l
active-back [] = refl
active-back (a ∷ l) = ap (λ (m : List Start). a ∷ m) (active-back l)

knots-back : (l : List Knot) → knots_of (knot_times l) (knot_values l) ≡ l
knots-back [] = refl
knots-back (k ∷ l) = ap (λ (m : List Knot). k ∷ m) (knots-back l)

-- ---- a prepared set is written over arrays

module _ (set : ClipSet) (H : ArraysWhole set) (o-starts : List Float) (o-numbers : List ℕ) (o-xs o-ys o-blocks : List Float) (P : Lengths o-starts o-numbers o-xs o-ys o-blocks)
    (starts : List Float) (numbers : List ℕ) (xs ys : List Float)
    (starts-are : starts ≡ active_times (active_in set.active)) (numbers-are : numbers ≡ active_clips (active_in set.active))
    (xs-are : xs ≡ knot_times (knots_in set.knots)) (ys-are : ys ≡ knot_values (knots_in set.knots)) where
  abbrev n : ℕ
  n = set.active.count

  abbrev k : ℕ
  k = set.knots.count

  abbrev b : ℕ
  b = set.blocks.count

  abbrev counts : Counts
  counts = record { starts = n; knots = k; blocks = b }

  active-count : length (active_in set.active) ≡ n
  active-count = sym (front H.active)

  knot-count : length (knots_in set.knots) ≡ k
  knot-count = sym (front H.knots)

  starts-count : length starts ≡ n
  starts-count = ap length starts-are ∙ length-map (active_in set.active) (λ (a : Start). a.time) ∙ active-count

  numbers-count : length numbers ≡ n
  numbers-count = ap length numbers-are ∙ length-map (active_in set.active) (λ (a : Start). a.clip) ∙ active-count

  xs-count : length xs ≡ k
  xs-count = ap length xs-are ∙ length-map (knots_in set.knots) (λ (a : Knot). a.x) ∙ knot-count

  ys-count : length ys ≡ k
  ys-count = ap length ys-are ∙ length-map (knots_in set.knots) (λ (a : Knot). a.y) ∙ knot-count

  module _ (blocks : List Float) (blocks-are : blocks ≡ blocks_in set.blocks) where
    blocks-count : length blocks ≡ b
    blocks-count = ap length blocks-are ∙ sym (front H.blocks)

    pub arrays-unpacked : Unpacked set counts (starts ++ drop n o-starts) (numbers ++ drop n o-numbers) (xs ++ drop k o-xs) (ys ++ drop k o-ys) (blocks ++ drop b o-blocks)
    arrays-unpacked = record {
      whole = record {
        in-starts = front-room starts o-starts n max_active P.of-starts H.active.few starts-count;
        in-numbers = front-room numbers o-numbers n max_active P.of-numbers H.active.few numbers-count;
        in-xs = front-room xs o-xs k max_knots P.of-xs H.knots.few xs-count;
        in_ys = front-room ys o-ys k max_knots P.of-ys H.knots.few ys-count;
        in_blocks = front-room blocks o-blocks b max_blocks P.of_blocks H.blocks.few blocks-count;
      };
      is = unfold set_of in λ i. record {
        clips = set.clips;
        active = (ap₂ active_of (front-list starts o-starts n max_active P.of-starts H.active.few starts-count ∙ starts-are) (front-list numbers o-numbers n max_active P.of-numbers H.active.few numbers-count ∙ numbers-are) ∙ active-back (active_in set.active)) i;
        knots = (ap₂ knots_of (front-list xs o-xs k max_knots P.of-xs H.knots.few xs-count ∙ xs-are) (front-list ys o-ys k max_knots P.of-ys H.knots.few ys-count ∙ ys-are) ∙ knots-back (knots_in set.knots)) i;
        blocks = (front-list blocks o-blocks b max_blocks P.of_blocks H.blocks.few blocks-count ∙ blocks-are) i;
        default = set.default;
        interpolate_missing = set.interpolate;
      };
    }
