-- The times of an ascending list on either side of a time stand for all of them. Assumes nothing.
use Rattle.std.specs.Prelude.{Option, None, Some}
use mathlib.Core.Path.{◌≡◌, refl, ◌∙◌, subst}
use mathlib.Core.Bool.{Bool, true, false, cond}
use mathlib.Core.List.{List, [], ◌∷◌}
use Prim.Native.Nat.{ℕ, ◌+◌, ◌-◌, ◌≤◌, ◌<◌}
use native.Mathlib.Omega.{arith}
use native.Mathlib.Decide.{dec_le}
use lib.Dec.{T, ltb}
use lib.ListN.{length, get_or}
use lib.Ieee.{Float, nan, lt, le}
use borrow.Author.Tests.{ltb-true, lt-ltb}
use Rattle.gf.specs.Doubles.{key}
use Rattle.gf.proofs.KeyLaws.{le→key, lt→key, key→le, key→lt, le_refl, le-no-nan, lt→le, finite-no-nan}
use Rattle.gf.specs.declared.interval.Interval.{Interval}
use Rattle.definitions.specs.Lists.{keep}
use Rattle.definitions.specs.Doubles.{FiniteDouble}
use Rattle.definitions.specs.Timing.{last_at_most}
use Rattle.laws.proofs.list.Tests.{is_true, both, both_l, both_r}
use Rattle.laws.specs.list.Every.{Every}
use Rattle.laws.proofs.list.Every.{every-at, every-by, every-kept}
use Rattle.laws.specs.list.Places.{Ascending, Number, Fits}
use Rattle.laws.proofs.list.Places.{at_most, at-most-length, beyond, last-is, key-at-most, key_above}
use Rattle.window.specs.declared.Neighbours.{Neighbours}
use Rattle.window.specs.Bounds.{In, inside}
use Rattle.window.proofs.Inverses.{every-if}
use Rattle.window.specs.nearest.Nearest.{LowerMet, UpperMet, Met, Searched, with_inside}
use Rattle.window.proofs.nearest.Nearest.{searched-none, searched-inside}
use Rattle.window.specs.nearest.Beside.{with_place, TimeInside}

pub finite_number : (x : Float) → FiniteDouble x → Number x
finite_number x f = (f.fitting, finite-no-nan x f.finitely)

-- the time at a place
abbrev pub time_at : List Float → ℕ → List Float
time_at xs i = cond (ltb i (length xs)) (get_or xs i nan ∷ []) []

-- ---- a time inside its window

pub facing : (w : Interval) (t : Float) → Fits t → Fits w.min → Fits w.max → T (le w.min t) → T (lt t w.max) → TimeInside w t
facing w t f a b h k =
    let n = le-no-nan w.min t h in
    let m = le-no-nan t w.max (lt→le t w.max k) in
    record { time = (f, n.1); min = (a, n.0); max = (b, m.1); from = le→key w.min t a f n.0 n.1 h; upto = lt→key t w.max f b m.0 m.1 k }

lower-down : (b : Option Float) (x y : Float) → key x ≤ key y → LowerMet b y → LowerMet b x
lower-down (Some l) x y h m = omega arith
lower-down None x y h m = m

upper-up : (b : Option Float) (x y : Float) → key y ≤ key x → UpperMet b y → UpperMet b x
upper-up (Some l) x y h m = omega arith
upper-up None x y h m = m

module _ (w : Interval) (t : Float) (F : TimeInside w t) (r : Neighbours) (x y : Float) (nx : Number x) (ny : Number y) where
  -- what lies up to a time that is known, on the same side of t
  pub meet_below : key x ≤ key y → key y ≤ key t → T (inside w x) → (T (inside w y) → Met t r y) → Met t r x
  meet_below h k i m =
      let a = le→key w.min x F.min.0 nx.0 F.min.1 nx.1 (both_l (le w.min x) (lt x w.max) i) in
      let p = key→le w.min y F.min.0 ny.0 F.min.1 ny.1 (omega arith) in
      let q = key→lt y w.max ny.0 F.max.0 ny.1 F.max.1 (omega (arith, F.upto)) in
      (λ _. lower-down r.lower x y h ((m (both (le w.min y) (lt y w.max) p q)).0 k), λ u. absurd (omega arith))

  pub meet-above : key t < key y → key y ≤ key x → T (inside w x) → (T (inside w y) → Met t r y) → Met t r x
  meet-above h k i m =
      let a = lt→key x w.max nx.0 F.max.0 nx.1 F.max.1 (both_r (le w.min x) (lt x w.max) i) in
      let p = key→le w.min y F.min.0 ny.0 F.min.1 ny.1 (omega (arith, F.from)) in
      let q = key→lt y w.max ny.0 F.max.0 ny.1 F.max.1 (omega arith) in
      (λ u. absurd (omega arith), λ _. upper-up r.upper x y k ((m (both (le w.min y) (lt y w.max) p q)).1 h))

-- ---- ascending times by their keys

module _ (xs : List Float) (a : Ascending xs) where
  pub number_at : (i : ℕ) → i < length xs → Number (get_or xs i nan)
  number_at i h = finite_number (get_or xs i nan) (every-at FiniteDouble xs i nan a.numbers h)

  pub climb : (i j : ℕ) → i ≤ j → j < length xs → key (get_or xs i nan) ≤ key (get_or xs j nan)
  climb i j l h =
      let x = get_or xs j nan in
      let f = every-at FiniteDouble xs j nan a.numbers h in
      let n = finite_number x f in
      let k = beyond x f.fitting nan xs a j h (is_true (le x x) (le_refl x n.0 n.1)) in
      key-at-most x f nan xs a i (omega arith) (omega arith)

  -- ---- the two beside t

  module _ (t : Float) (ft : FiniteDouble t) (i : ℕ) (at : i ≡ last_at_most xs t) where
    counted : i ≡ at_most xs t - 1
    counted = at ∙ last-is t ft.fitting xs a

    -- where there is one behind it, it is above t
    pub next-above : i + 1 < length xs → key t < key (get_or xs (i + 1) nan)
    next-above h = key_above t ft nan xs a (i + 1) h (omega (arith, counted))

    -- where there is one before it, it is at most t
    pub last-reached : 0 < i → i < length xs → key (get_or xs i nan) ≤ key t
    last-reached p h = key-at-most t ft nan xs a i h (omega (arith, counted))

    pub times-met : (w : Interval) → TimeInside w t → (r : Neighbours) → (i < length xs → T (inside w (get_or xs i nan)) → Met t r (get_or xs i nan))
        → (i + 1 < length xs → T (inside w (get_or xs (i + 1) nan)) → Met t r (get_or xs (i + 1) nan)) → Every (Met t r) (keep (inside w) xs)
    times-met w F r here next = every-if (Met t r) (inside w) xs (every-by (λ (x : Float). T (inside w x) → Met t r x) xs nan each)
      where
        each : (j : ℕ) → j < length xs → T (inside w (get_or xs j nan)) → Met t r (get_or xs j nan)
        each j h u = elim (dec_le (at_most xs t) j) [
          | no p ↦
              let l : i < length xs = omega (arith, counted, at-most-length xs t) in
              let k = key-at-most t ft nan xs a i l (omega (arith, counted)) in
              meet_below w t F r (get_or xs j nan) (get_or xs i nan) (number_at j h) (number_at i l) (climb j i (omega (arith, counted)) l) k u (here l)
          | yes p ↦ elim (dec_le (at_most xs t) i) [
            | yes q ↦
                let l : i < length xs = omega (arith, counted) in
                let k = key_above t ft nan xs a i l q in
                meet-above w t F r (get_or xs j nan) (get_or xs i nan) (number_at j h) (number_at i l) k (climb i j (omega (arith, counted)) h) u (here l)
            | no q ↦
                let l : i + 1 < length xs = omega (arith, counted) in
                let k = next-above l in
                meet-above w t F r (get_or xs j nan) (get_or xs (i + 1) nan) (number_at j h) (number_at (i + 1) l) k (climb (i + 1) j (omega (arith, counted)) h) u (next l)
          ]
        ]

-- ---- a search at those two places

module _ (t : Float) (w : Interval) (xs : List Float) where
  place-searched : (h : Neighbours) (i : ℕ) → Searched t (keep (inside w) (time_at xs i)) h (with_place w t xs h i)
  unfolding with_place
  place-searched h i = go (ltb i (length xs))
    where
      go : (b : Bool) → Searched t (keep (inside w) (cond b (get_or xs i nan ∷ []) [])) h (cond b (with_inside w t h (get_or xs i nan)) h)
      go true = searched-inside t w h (get_or xs i nan)
      go false = searched-none t h

  every-place : (P : Float → Type 0) (i : ℕ) → Every P (keep (inside w) xs) → Every P (keep (inside w) (time_at xs i))
  every-place P i h = go (ltb i (length xs)) refl
    where
      go : (b : Bool) → ltb i (length xs) ≡ b → Every P (keep (inside w) (cond b (get_or xs i nan ∷ []) []))
      go true e = every-if P (inside w) (get_or xs i nan ∷ []) (every-at (λ (x : Float). T (inside w x) → P x) xs i nan (every-kept P (inside w) xs h) (ltb-true i (length xs) e), tt)
      go false e = tt

  place-known : (P : Float → Type 0) (i : ℕ) → Every P (keep (inside w) (time_at xs i)) → i < length xs → T (inside w (get_or xs i nan)) → P (get_or xs i nan)
  place-known P i h l =
      (every-kept P (inside w) (get_or xs i nan ∷ []) (subst (λ (b : Bool). Every P (keep (inside w) (cond b (get_or xs i nan ∷ []) []))) (lt-ltb i (length xs) l) h)).0

  pub beside-searched : TimeInside w t → FiniteDouble t → Ascending xs → (i : ℕ) → i ≡ last_at_most xs t → (h : Neighbours) → Searched t (keep (inside w) xs) h (with_place w t xs (with_place w t xs h i) (i + 1))
  beside-searched F ft a i at h =
      let m = with_place w t xs h i in
      let r = with_place w t xs m (i + 1) in
      record {
        run = λ nt g N x s.
            let u = (place-searched h i).run nt g N (every-place (λ (y : Float). In y g) i x) s in
            let v = (place-searched m (i + 1)).run nt g N (every-place (λ (y : Float). In y g) (i + 1) x) u.among in
            record {
              among = v.among;
              known = times-met xs a t ft i at w F r (λ l y. v.kept (get_or xs i nan) (place-known (Met t m) i u.known l y)) (place-known (Met t r) (i + 1) v.known);
              kept = λ y z. v.kept y (u.kept y z);
            };
      }

-- the place of the last time ≤ t is a place, or 0
pub last-small : (xs : List Float) (a : Ascending xs) (t : Float) → Fits t → last_at_most xs t ≤ length xs
last-small xs a t f = omega (arith, last-is t f xs a, at-most-length xs t)
