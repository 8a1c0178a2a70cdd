-- The stage sample times by the lists that decide them: they are finite, and the next one is the next of the times of all windows. Assumes nothing.
use Rattle.std.specs.Prelude.{Option, None, Some}
use mathlib.Core.Path.{◌≡◌, sym, subst}
use mathlib.Core.Bool.{Bool, true, false, cond}
use mathlib.Core.List.{List, [], ◌∷◌}
use Prim.Native.Nat.{ℕ, ◌-◌, ◌<◌}
use lib.Dec.{T}
use lib.ListN.{length, get_or, drop}
use lib.Ieee.{Float, nan, fits, lt, le}
use Rattle.gf.proofs.KeyLaws.{le_trans, lt-le-trans}
use Rattle.gf.specs.Doubles.{power}
use Rattle.gf.proofs.Exactly.{within-lo}
use Rattle.definitions.specs.declared.Knot.{Knot}
use Rattle.definitions.specs.Lists.{keep, pairs, gather, below}
use Rattle.definitions.specs.Doubles.{FiniteDouble}
use Rattle.definitions.specs.ClipSet.{clip}
use Rattle.definitions.specs.Samples.{clip_begin, clip_end}
use Rattle.definitions.specs.Value.{spans, inverse, on_pair, stage_times_for_clip_time}
use Rattle.laws.specs.list.Every.{Every}
use Rattle.laws.proofs.list.Every.{every-at, every_map, every_append, every-gather, every_take, every_drop, every-below, every-part}
use Rattle.laws.specs.set.Stored.{Stored}
use Rattle.laws.proofs.set.Stored.{stored-finite}
use Rattle.laws.specs.list.Places.{Fits}
use Rattle.laws.proofs.cell.Inverse.{inverse-spanned}
use Rattle.laws.specs.cell.Lent.{knots_of}
use Rattle.window.specs.Parts.{part_of}
use Rattle.window.specs.SoundSegments.{SoundSegment}
use Rattle.window.proofs.SoundSegments.{inverse-fits}
use Rattle.window.specs.Bounds.{inside, In}
use Rattle.window.proofs.BoundsLaws.{every_in, in-every}
use Rattle.window.specs.Inverses.{inverses_of}
use Rattle.window.proofs.Inverses.{every-if}
use Rattle.window.specs.Windows.{window_of, window_part}
use Rattle.stage.specs.Whole.{whole_times}
use Rattle.stage.proofs.Ordered.{NextIs, after-all, after_none, after_next}
use Rattle.stage.specs.Times.{gathered_times, times_of, times_after, AcceptedTimes, NextTime}

-- ---- the times are finite, and none is before -2^40

abbrev pub Timely : Float → Type 0
Timely x = FiniteDouble x × T (le (power true 40) x)

stored-timely : (x : Float) → Stored x → Timely x
stored-timely x s = (stored-finite x s, within-lo 40 x s.inside)

power-fits : Fits (power true 40)
unfolding fits
power-fits = tt

-- an inverse time is not before the knot that it is measured from
inverse-timely : (q : Knot × Knot) (c : Float) → SoundSegment q → T (spans q.0.y q.1.y c) → Timely (inverse q.0 q.1 c)
inverse-timely q c s h =
    let f = inverse-spanned q.0 q.1 s.first s.second s.wide c h in (
      record { fitting = inverse-fits q c; finitely = f.0 },
      le_trans (power true 40) q.0.x (inverse q.0 q.1 c) power-fits s.first.fx (inverse-fits q c) (within-lo 40 q.0.x s.first.bx) f.1,
    )

pair-timely : (c : Float) (q : Knot × Knot) → SoundSegment q → Every Timely (on_pair c q)
pair-timely c q s = go (spans q.0.y q.1.y c) (λ h. h)
  where
    go : (b : Bool) → (T b → T (spans q.0.y q.1.y c)) → Every Timely (cond b (inverse q.0 q.1 c ∷ []) [])
    go true h = (inverse-timely q c s (h tt), tt)
    go false h = tt

stage-timely : (knots : List Knot) → Every SoundSegment (pairs knots) → (c : Float) → Stored c → Every Timely (stage_times_for_clip_time knots (clip c))
unfolding stage_times_for_clip_time
stage-timely [] s c f = (stored-timely c f, tt)
stage-timely (k ∷ l) s c f = every-gather SoundSegment Timely (on_pair c) (λ q h. pair-timely c q h) (pairs (k ∷ l)) s

-- before all of them
abbrev pub before_all : Float
before_all = power true 41

pub before-finite : FiniteDouble before_all
unfolding fits
before-finite = record { fitting = tt; finitely = tt }

timely-behind : (x : Float) → Timely x → T (lt before_all x)
unfolding lt
timely-behind x f = lt-le-trans before_all (power true 40) x before-finite.fitting power-fits f.0.fitting tt f.1

-- ---- of accepted lists

module _ {starts : List Float} {clips : List ℕ} {xs ys times : List Float} {ends : List ℕ} (R : AcceptedTimes starts clips xs ys times ends) where
  -- the times of one window, and of all
  abbrev part : ℕ → List Float
  part p = whole_times starts clips xs ys times ends p

  abbrev all : List Float
  all = gathered_times starts clips xs ys times ends

  -- what holds of the start and of times inside the window holds of its times
  pub part-each : (P : Float → Type 0) (p : ℕ) → p < length starts → P (get_or starts p nan) → ((x : Float) → Timely x → T (inside (window_of starts p) x) → P x) → Every P (part p)
  unfolding window_part
  part-each P p h first within =
      let w = inside (window_of starts p) in
      let cs = part_of times ends (get_or clips p 0) in
      let n = clip_end ends (get_or clips p 0) - clip_begin ends (get_or clips p 0) in (
        first,
        every_append P (keep w xs) (keep w (inverses_of (knots_of xs ys) cs))
            (every-if P w xs (every_map Stored (λ (x : Float). T (w x) → P x) (λ x f. within x (stored-timely x f)) xs R.stored-xs))
            (every-if P w (inverses_of (knots_of xs ys) cs)
            (every_map Timely (λ (x : Float). T (w x) → P x) within (inverses_of (knots_of xs ys) cs)
            (every-gather Stored Timely (λ (c : Float). stage_times_for_clip_time (knots_of xs ys) (clip c)) (stage-timely (knots_of xs ys) R.windows.readable.segments) cs
            (every_take Stored n (drop (clip_begin ends (get_or clips p 0)) times) (every_drop Stored (clip_begin ends (get_or clips p 0)) times R.stored-times))))),
      )

  pub part-first : (P : Float → Type 0) (p : ℕ) → Every P (part p) → P (get_or starts p nan)
  unfolding window_part
  part-first P p h = h.0

  part-timely : (p : ℕ) → p < length starts → Every Timely (part p)
  part-timely p h = part-each Timely p h (stored-timely (get_or starts p nan) (every-at Stored starts p nan R.stored-starts h)) (λ x f i. f)

  times-timely : Every Timely all
  times-timely = every-gather (λ (p : ℕ). p < length starts) Timely part part-timely (below (length starts)) (every-below (length starts))

  pub part-finite : (p : ℕ) → p < length starts → Every FiniteDouble (part p)
  part-finite p h = every_map Timely FiniteDouble (λ x f. f.0) (part p) (part-timely p h)

  pub times-finite : Every FiniteDouble all
  times-finite = every_map Timely FiniteDouble (λ x f. f.0) all times-timely

  -- they are among all
  pub part_in : (q : ℕ) → q < length starts → Every (λ (x : Float). In x all) (part q)
  part_in q l = every-part (λ (x : Float). In x all) part (length starts) q l (every_in all)

  -- from before all of them on
  pub times-all : times_after starts clips xs ys times ends before_all ≡ times_of starts clips xs ys times ends
  unfolding times_of
  times-all = after-all all times-finite before_all (every_map Timely (λ (x : Float). T (lt before_all x)) timely-behind all times-timely)

  -- by the next of the times of all windows
  pub next-time : (t : Float) → Fits t → (b : Option Float) → NextIs all t b → NextTime starts clips xs ys times ends t b
  next-time t ft None n = after_none all times-finite t ft n
  next-time t ft (Some h) n = (in-every FiniteDouble h all times-finite n.0, after_next all times-finite t ft h n)

  -- without starts there is none
  pub next-none : (t : Float) → Fits t → length starts ≡ 0 → NextTime starts clips xs ys times ends t None
  next-none t ft e = next-time t ft None (subst (λ (n : ℕ). NextIs (gather part (below n)) t None) (sym e) tt)
