-- A window's gathered times as the ends of the pieces on which the value goes by one rule: while none of them is passed, the active start stays, no
-- knot is passed, and the neighbours stay. Assumes nothing.
use mathlib.Core.Path.{◌≡◌, refl, ap, subst}
use mathlib.Core.Logic.{inl, inr}
use mathlib.Core.Bool.{Bool, true, false, not, ◌||◌, cond}
use mathlib.Core.List.{List, [], ◌∷◌, ◌++◌}
use mathlib.Core.Option.{Option, none, some}
use Prim.Native.Nat.{ℕ, zero, suc}
use lib.Dec.{T, T_not, not_T, eqb, eqb-suc-zero}
use lib.ListN.{get_elem?}
use lib.Ieee.{Float, nan, inf, fin, binary64, fits, is_nan, lt, le}
use lib.Ieee.Fits.{add-fits}
use lib.Ieee.Scale.{finite}
use Rattle.gf.proofs.Exactly.{within-finite}
use Rattle.gf.proofs.KeyLaws.{finite-no-nan, le_trans, le-or-lt, le_lt_trans, lt-le-trans, le-no-nan, lt→le}
use Rattle.definitions.specs.declared.Knot.{Knot}
use Rattle.definitions.specs.Lists.{any, all, keep, pairs, pairs_from, gather}
use Rattle.gf.specs.Doubles.{◌⊖◌, ◌⊗◌, ◌⊘◌}
use Rattle.definitions.specs.Doubles.{FiniteDouble, ascending}
use Rattle.definitions.specs.declared.Start.{Start}
use Rattle.definitions.specs.ClipSet.{ClipSet, active_times, knot_times, clip}
use Rattle.definitions.specs.Timing.{last_at_most}
use Rattle.definitions.specs.Samples.{Samples, clip_times}
use Rattle.definitions.specs.Value.{contains, time_or, window, spans, inverse, on_pair, stage_times_for_clip_time, start_of, window_sample_times, contributes, contributed_times, gathered, lower_neighbour, upper_neighbour, maximum, minimum}
use Rattle.laws.specs.list.Every.{Every}
use Rattle.laws.proofs.list.Tests.{holds, both, both_l, both_r, or-not, nor-l}
use Rattle.laws.proofs.list.Every.{every_map, any-every, every-zip, every_append, every-left, every-right, every-keep, every-kept, every-gather, every-to-map}
use Rattle.laws.specs.list.Places.{Fits}
use Rattle.laws.proofs.cell.Places.{Clear, not-le-lt, any-le, place_same, keep-le-same, keep-lt-same}
use Rattle.laws.specs.cell.Knots.{SoundKnot}
use Rattle.laws.proofs.cell.Knots.{knots-fit}
use Rattle.laws.proofs.cell.Direct.{SoundSet, SoundSamples, starts_fit, clip-fit}

-- how many starts at t or before
abbrev reach : Float → List Start → Bool
reach t active = any (λ (y : Float). le y t) (active_times active)

abbrev at : Float → List Start → ℕ
at t active = last_at_most (active_times active) t

-- ---- the active start and the next

-- the next start is above t
next-above : (t : Float) (active : List Start) → Every (λ (n : Float). T (not (le n t))) (start_of (get_elem? active (suc (at t active))))
unfolding last_at_most
next-above t [] = tt
next-above t (a ∷ []) = tt
next-above t (a ∷ b ∷ rest) = go (reach t (b ∷ rest)) (next-above t (b ∷ rest)) (λ n. nor-l (le b.time t) (reach t rest) n)
  where
    go : (q : Bool) → Every (λ (n : Float). T (not (le n t))) (start_of (get_elem? (b ∷ rest) (suc (at t (b ∷ rest))))) → (T (not q) → T (not (le b.time t)))
        → Every (λ (n : Float). T (not (le n t))) (start_of (get_elem? (a ∷ b ∷ rest) (suc (cond q (suc (at t (b ∷ rest))) 0))))
    go true r n = r
    go false r n = (n tt, tt)

-- a start that is reached: the active one is
active-reached : (t : Float) (active : List Start) → T (reach t active) → T (le (time_or (inf true) (get_elem? active (at t active))) t)
unfolding last_at_most
active-reached t [] h = absurd h
active-reached t (a ∷ rest) h = go (reach t rest) (active-reached t rest) (λ n. or-not (le a.time t) (reach t rest) h n)
  where
    go : (q : Bool) → (T q → T (le (time_or (inf true) (get_elem? rest (at t rest))) t)) → (T (not q) → T (le a.time t))
        → T (le (time_or (inf true) (get_elem? (a ∷ rest) (cond q (suc (at t rest)) 0))) t)
    go true r n = r tt
    go false r n = n tt

pub inf-below : (x : Float) → T (not (is_nan x)) → T (le (inf true) x)
unfolding le is_nan
inf-below nan h = absurd h
inf-below (inf true) h = tt
inf-below (inf false) h = tt
inf-below (fin s m e) h = tt

pub inf-above : (x : Float) → T (finite x) → T (lt x (inf false))
unfolding lt
inf-above nan h = absurd h
inf-above (inf s) h = absurd h
inf-above (fin s m e) h = tt

-- what holds of every start's time holds of one of them
pub every-start : (P : Float → Type 0) (active : List Start) (i : ℕ) → Every P (active_times active) → Every P (start_of (get_elem? active i))
every-start P [] i h = tt
every-start P (a ∷ rest) zero h = (h.0, tt)
every-start P (a ∷ rest) (suc i) h = every-start P rest i h.1

every-time_or : (P : Float → Type 0) (d : Float) (o : Option Start) → P d → Every P (start_of o) → P (time_or d o)
every-time_or P d none p h = p
every-time_or P d (some a) p h = h.0

inf-fits : (s : Bool) → Fits (inf s)
unfolding fits
inf-fits s = tt

-- ---- what lies from t to u lies in t's window, if the next start does not

window-min : (t x : Float) → Fits t → Fits x → T (le t x) → (active : List Start) → Every Fits (active_times active) → T (le (window active (at t active)).min x)
unfolding window last_at_most
window-min t x ft fx h [] f = inf-below x (le-no-nan t x h).1
window-min t x ft fx h (a ∷ rest) f = go (reach t rest) (active-reached t rest)
  where
    go : (q : Bool) → (T q → T (le (time_or (inf true) (get_elem? rest (at t rest))) t))
        → T (le (cond (eqb (cond q (suc (at t rest)) 0) 0) (inf true) (time_or (inf true) (get_elem? (a ∷ rest) (cond q (suc (at t rest)) 0)))) x)
    go true r =
        let b = time_or (inf true) (get_elem? rest (at t rest)) in
        let fb : Fits b = every-time_or Fits (inf true) (get_elem? rest (at t rest)) (inf-fits true) (every-start Fits rest (at t rest) f.1) in
        rw (eqb-suc-zero (at t rest)) (le_trans b t x fb ft fx (r tt) h)
    go false r = inf-below x (le-no-nan t x h).1

module _ (t u : Float) (ft : Fits t) (fu : Fits u) (h : T (le t u)) where
  -- a start that is above t and not passed is above u
  above-u : (n : Float) → FiniteDouble n → T (not (le n t)) → Clear t u n → T (lt u n)
  above-u n f p c = not-le-lt n u f.fitting fu (finite-no-nan n f.finitely) (le-no-nan t u h).1 (not_T (le n u) (λ q. T_not (le n t) p (c q)))

  window-max : (x : Float) → Fits x → T (finite x) → T (le x u) → (o : Option Start) → Every FiniteDouble (start_of o) → Every (λ (n : Float). T (not (le n t))) (start_of o) → Every (Clear t u) (start_of o)
      → T (lt x (time_or (inf false) o))
  window-max x fx gx l none f p c = inf-above x gx
  window-max x fx gx l (some a) f p c = le_lt_trans x u a.time fx fu f.0.fitting l (above-u a.time f.0 p.0 c.0)

  -- ---- the active start stays while the next is not passed

  none-reached : (b : Start) (rest : List Start) → Every Fits (active_times (b ∷ rest)) → T (ascending (active_times (b ∷ rest))) → T (not (le b.time u)) → T (not (reach u (b ∷ rest)))
  none-reached b [] f a n = not_T (le b.time u || false) (λ q. T_not (le b.time u) n (or-not (le b.time u) false q tt))
  none-reached b (c ∷ rest) f a n =
      let l = both_l (lt b.time c.time) (all (λ (p : Float × Float). lt p.0 p.1) (pairs_from c.time (active_times rest))) a in
      let r = both_r (lt b.time c.time) (all (λ (p : Float × Float). lt p.0 p.1) (pairs_from c.time (active_times rest))) a in
      let m : T (not (le c.time u)) = not_T (le c.time u) (λ q. T_not (le b.time u) n (lt→le b.time u (lt-le-trans b.time c.time u f.0 f.1.0 fu l q))) in
      let k = none-reached c rest f.1 r m in
      not_T (le b.time u || reach u (c ∷ rest)) (λ q. T_not (le b.time u) n (or-not (le b.time u) (reach u (c ∷ rest)) q k))

  stays : (active : List Start) → Every Fits (active_times active) → T (ascending (active_times active)) → Every (Clear t u) (start_of (get_elem? active (suc (at t active)))) → at t active ≡ at u active
  unfolding last_at_most
  stays [] f a c = refl
  stays (x ∷ []) f a c = refl
  stays (x ∷ b ∷ rest) f a c =
      let r = both_r (lt x.time b.time) (all (λ (p : Float × Float). lt p.0 p.1) (pairs_from b.time (active_times rest))) a in
      go (reach t (b ∷ rest)) (reach u (b ∷ rest)) c (any-le t u ft fu h (active_times (b ∷ rest)) f.1) (λ n. none-reached b rest f.1 r n) (λ n. nor-l (le b.time t) (reach t rest) n) (stays (b ∷ rest) f.1 r)
    where
      go : (p q : Bool) → Every (Clear t u) (start_of (get_elem? (x ∷ b ∷ rest) (suc (cond p (suc (at t (b ∷ rest))) 0)))) → (T p → T q) → (T (not (le b.time u)) → T (not q)) → (T (not p) → T (not (le b.time t)))
          → (Every (Clear t u) (start_of (get_elem? (b ∷ rest) (suc (at t (b ∷ rest))))) → at t (b ∷ rest) ≡ at u (b ∷ rest))
          → cond p (suc (at t (b ∷ rest))) 0 ≡ cond q (suc (at u (b ∷ rest))) 0
      go true true d m n k r = ap suc (r d)
      go true false d m n k r = absurd (m tt)
      go false true d m n k r = absurd (n (not_T (le b.time u) (λ w. T_not (le b.time t) (k tt) (d.0 w))))
      go false false d m n k r = refl

  -- ---- and if the one that is active at u is not passed

  starts-clear : (active : List Start) → Every Fits (active_times active) → T (ascending (active_times active)) → Every (Clear t u) (start_of (get_elem? active (at u active))) → Every (Clear t u) (active_times active)
  unfolding last_at_most
  starts-clear [] f a c = tt
  starts-clear (x ∷ []) f a c = c
  starts-clear (x ∷ b ∷ rest) f a c = go (reach u (b ∷ rest)) refl (starts-clear (b ∷ rest) f.1 r) c
    where
      l : T (lt x.time b.time)
      l = both_l (lt x.time b.time) (all (λ (p : Float × Float). lt p.0 p.1) (pairs_from b.time (active_times rest))) a

      r : T (ascending (active_times (b ∷ rest)))
      r = both_r (lt x.time b.time) (all (λ (p : Float × Float). lt p.0 p.1) (pairs_from b.time (active_times rest))) a

      reached : (d : Bool) → (T (not d) → ⊥) → T d
      reached true h = tt
      reached false h = absurd (h tt)

      go : (q : Bool) → reach u (b ∷ rest) ≡ q → (Every (Clear t u) (start_of (get_elem? (b ∷ rest) (at u (b ∷ rest)))) → Every (Clear t u) (active_times (b ∷ rest)))
          → Every (Clear t u) (start_of (get_elem? (x ∷ b ∷ rest) (cond q (suc (at u (b ∷ rest))) 0))) → Every (Clear t u) (active_times (x ∷ b ∷ rest))
      go true e later d =
          let k = later d in
          let m = reached (le b.time u) (λ n. T_not (reach u (b ∷ rest)) (none-reached b rest f.1 r n) (holds (reach u (b ∷ rest)) e)) in
          (λ q. lt→le x.time t (lt-le-trans x.time b.time t f.0 f.1.0 ft l (k.0 m)), k)
      go false e later d = (d.0, every_map (λ (y : Float). le y u ≡ false) (Clear t u) (λ y n q. absurd (subst T n q)) (active_times (b ∷ rest)) (any-every (λ (y : Float). le y u) (active_times (b ∷ rest)) e))

  stays-below : (active : List Start) → Every Fits (active_times active) → T (ascending (active_times active)) → Every (Clear t u) (start_of (get_elem? active (at u active))) → at t active ≡ at u active
  stays-below active f a c = place_same t u ft fu h (active_times active) f (starts-clear active f a c)

-- ---- the gathered times are doubles

pairs-fit : (knots : List Knot) (c : Float) → Every Fits (gather (on_pair c) (pairs knots))
pairs-fit knots c = every-gather (λ (p : Knot × Knot). Unit {0}) Fits (on_pair c) (λ p _. one p) (pairs knots) (trivial (pairs knots))
  where
    trivial : (l : List (Knot × Knot)) → Every (λ (p : Knot × Knot). Unit {0}) l
    trivial [] = tt
    trivial (x ∷ l) = (tt, trivial l)

    one : (p : Knot × Knot) → Every Fits (on_pair c p)
    one p = go (spans p.0.y p.1.y c)
      where
        go : (b : Bool) → Every Fits (cond b (inverse p.0 p.1 c ∷ []) [])
        go true = (add-fits binary64 p.0.x ((c ⊖ p.0.y) ⊘ (p.1.y ⊖ p.0.y) ⊗ (p.1.x ⊖ p.0.x)), tt)
        go false = tt

stage-fit : (knots : List Knot) (c : Float) → Fits c → Every Fits (stage_times_for_clip_time knots (clip c))
unfolding stage_times_for_clip_time
stage-fit [] c f = (f, tt)
stage-fit (k ∷ rest) c f = pairs-fit (k ∷ rest) c

module _ (set : ClipSet) (s : Samples) (S : SoundSet set) (A : SoundSamples s) where
  contributed-fit : (o : Option Start) → Every Fits (contributed_times set s o)
  contributed-fit none = tt
  contributed-fit (some a) = go (contributes set a)
    where
      go : (b : Bool) → Every Fits (cond b (clip_times s a.clip) [])
      go true = clip-fit s A a.clip
      go false = tt

  abbrev inside : ℕ → Float → Bool
  inside p = contains (window set.active p)

  abbrev inverses : ℕ → List Float
  inverses p = gather (λ (c : Float). stage_times_for_clip_time set.knots (clip c)) (contributed_times set s (get_elem? set.active p))

  -- the gathered times, part by part
  parts : (p : ℕ) → gathered set s p ≡ (start_of (get_elem? set.active p) ++ (keep (inside p) (knot_times set.knots) ++ keep (inside p) (inverses p))) ++ start_of (get_elem? set.active (suc p))
  unfolding gathered window_sample_times
  parts p = refl

  pub gathered-fit : (p : ℕ) → Every Fits (gathered set s p)
  gathered-fit p =
      let fs : (i : ℕ) → Every Fits (start_of (get_elem? set.active i)) = λ i. every-start Fits set.active i (starts_fit set S) in
      rw (parts p)
      (every_append Fits (start_of (get_elem? set.active p) ++ (keep (inside p) (knot_times set.knots) ++ keep (inside p) (inverses p))) (start_of (get_elem? set.active (suc p)))
      (every_append Fits (start_of (get_elem? set.active p)) (keep (inside p) (knot_times set.knots) ++ keep (inside p) (inverses p)) (fs p)
      (every_append Fits (keep (inside p) (knot_times set.knots)) (keep (inside p) (inverses p))
      (every-keep Fits (inside p) (knot_times set.knots) (knots-fit set.knots S.knots))
      (every-keep Fits (inside p) (inverses p) (every-gather Fits Fits (λ (c : Float). stage_times_for_clip_time set.knots (clip c)) (λ c f. stage-fit set.knots c f) (contributed_times set s (get_elem? set.active p)) (contributed-fit (get_elem? set.active p))))))
      (fs (suc p)))

  gathered-start : (P : Float → Type 0) (p : ℕ) → Every P (gathered set s p) → Every P (start_of (get_elem? set.active p))
  gathered-start P p h =
      let rest = keep (inside p) (knot_times set.knots) ++ keep (inside p) (inverses p) in
      every-left P (start_of (get_elem? set.active p)) rest
      (every-left P (start_of (get_elem? set.active p) ++ rest) (start_of (get_elem? set.active (suc p))) (subst (λ (l : List Float). Every P l) (parts p) h))

  -- a lower neighbour of u lies in u's window: of the gathered times none is passed from it to u
  pub window-below : (t u : Float) → Fits t → Fits u → T (le t u) → Every (Clear t u) (gathered set s (at u set.active)) → at t set.active ≡ at u set.active
  window-below t u ft fu h c = stays-below t u ft fu h set.active (starts_fit set S) S.ascends (gathered-start (Clear t u) (at u set.active) c)

  -- ---- no gathered time is passed from t to u

  module _ (t u : Float) (ft : Fits t) (fu : Fits u) (h : T (le t u)) (clear : Every (Clear t u) (gathered set s (at t set.active))) where
    abbrev p : ℕ
    p = at t set.active

    abbrev front : List Float
    front = start_of (get_elem? set.active p) ++ (keep (inside p) (knot_times set.knots) ++ keep (inside p) (inverses p))

    cleared : Every (Clear t u) (front ++ start_of (get_elem? set.active (suc p)))
    cleared = subst (λ (l : List Float). Every (Clear t u) l) (parts p) clear

    next-clear : Every (Clear t u) (start_of (get_elem? set.active (suc p)))
    next-clear = every-right (Clear t u) front (start_of (get_elem? set.active (suc p))) cleared

    inside-clear : Every (Clear t u) (keep (inside p) (knot_times set.knots))
    inside-clear =
        every-left (Clear t u) (keep (inside p) (knot_times set.knots)) (keep (inside p) (inverses p))
        (every-right (Clear t u) (start_of (get_elem? set.active p)) (keep (inside p) (knot_times set.knots) ++ keep (inside p) (inverses p))
        (every-left (Clear t u) front (start_of (get_elem? set.active (suc p))) cleared))

    -- the active start stays
    pub window-stays : at t set.active ≡ at u set.active
    window-stays = stays t u ft fu h set.active (starts_fit set S) S.ascends next-clear

    knot-clear : (x : Float) → Fits x → T (finite x) → (T (inside p x) → Clear t u x) → Clear t u x
    unfolding window
    knot-clear x fx gx c l = elim (le-or-lt x t fx ft (finite-no-nan x gx) (le-no-nan t u h).0) [
      | inl q ↦ q
      | inr q ↦ c (both (le (window set.active p).min x) (lt x (window set.active p).max) (low q) high) l
    ]
      where
        low : T (lt t x) → T (le (window set.active p).min x)
        low q = window-min t x ft fx (lt→le t x q) set.active (starts_fit set S)

        high : T (lt x (window set.active p).max)
        high = window-max t u ft fu h x fx gx l (get_elem? set.active (suc p)) (every-start FiniteDouble set.active (suc p) S.starts) (next-above t set.active) next-clear

    -- no knot is passed, of the whole set
    pub window-knots : Every (Clear t u) (knot_times set.knots)
    window-knots =
        every-zip (λ (x : Float). Fits x × T (finite x)) (λ (x : Float). T (inside p x) → Clear t u x) (Clear t u) (λ x f c. knot-clear x f.0 f.1 c) (knot_times set.knots)
        (every-to-map (λ (k : Knot). k.x) (λ (x : Float). Fits x × T (finite x)) set.knots (every_map SoundKnot (λ (k : Knot). Fits k.x × T (finite k.x)) (λ k q. (q.fx, within-finite 40 k.x q.bx)) set.knots S.knots))
        (every-kept (Clear t u) (inside p) (knot_times set.knots) inside-clear)

    pub lower-stays : lower_neighbour (gathered set s (at t set.active)) t ≡ lower_neighbour (gathered set s (at t set.active)) u
    unfolding lower_neighbour
    lower-stays = ap maximum (keep-le-same t u ft fu h (gathered set s (at t set.active)) (gathered-fit (at t set.active)) clear)

    pub upper-stays : upper_neighbour (gathered set s (at t set.active)) t ≡ upper_neighbour (gathered set s (at t set.active)) u
    unfolding upper_neighbour
    upper-stays = ap minimum (keep-lt-same t u ft fu h (gathered set s (at t set.active)) (gathered-fit (at t set.active)) clear)
