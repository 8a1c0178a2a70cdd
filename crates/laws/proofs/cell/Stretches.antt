-- The value on a stretch that passes no boundary: held from the lower neighbour, or direct. Assumes nothing.
use mathlib.Core.Path.{◌≡◌, refl, sym, ap, ap₂, ◌∙◌, subst}
use mathlib.Core.Bool.{Bool, true, false, ◌||◌, cond}
use mathlib.Core.List.{List, [], ◌∷◌}
use mathlib.Core.Option.{Option, none, some}
use Prim.Native.Nat.{ℕ, suc, ◌≤◌}
use native.Mathlib.Omega.{arith}
use lib.Dec.{T, ltb, nltb→le}
use lib.ListN.{length}
use lib.Ieee.{Float, eq, lt, le}
use Rattle.gf.proofs.KeyLaws.{le_refl, le-no-nan}
use Rattle.gf.proofs.LerpLaws.{Inside}
use Rattle.definitions.specs.declared.StageTime.{StageTime}
use Rattle.definitions.specs.Lists.{keep}
use Rattle.definitions.specs.declared.Start.{Start}
use Rattle.definitions.specs.ClipSet.{ClipSet, active_times, knot_times, stage}
use Rattle.definitions.specs.Timing.{last_at_most, active_position}
use Rattle.definitions.specs.Samples.{Samples}
use Rattle.definitions.specs.Value.{direct_source, gathered, lower_neighbour, upper_neighbour, maximum, greatest, jump, between, reading_time, value_source}
use Rattle.laws.specs.list.Every.{Every}
use Rattle.laws.proofs.list.Every.{every_map, every-keep}
use Rattle.laws.specs.list.Places.{Fits}
use Rattle.laws.proofs.cell.Places.{Clear}
use Rattle.laws.proofs.cell.Knots.{Alike, alike-eq, knots-fit, clear-parts, clear-alike}
use Rattle.laws.proofs.cell.Direct.{SoundSet, SoundSamples, SameStart, direct-alike}
use Rattle.laws.proofs.cell.Window.{gathered-fit, window-stays, window-knots, lower-stays, upper-stays}
use Rattle.laws.specs.cell.Stretches.{several_starts, boundaries, held_between, held_from}

-- ---- the rule at t, and where it may end

-- the time that is read directly at u
abbrev pub read_as : Option Float → Float → Float
read_as none u = u
read_as (some lower) u = lower

-- from t to u no boundary of t's rule is passed
pub record Stretch (set : ClipSet) (s : Samples) (t u : Float) : Type 0 where
  pub ft : Fits t
  pub fu : Fits u
  pub order : T (le t u)
  pub clear : Every (Clear t u) (boundaries set s (stage t))

-- ---- the neighbours are among the times

abbrev IfAny : (Float → Type 0) → Option Float → Type 0
IfAny P none = Unit {0}
IfAny P (some x) = P x

greatest-one : (P : Float → Type 0) (x : Float) (l : List Float) → P x → Every P l → P (greatest x l)
greatest-one P x [] p h = p
greatest-one P x (y ∷ l) p h = greatest-one P (cond (lt x y) y x) l (go (lt x y)) h.1
  where
    go : (b : Bool) → P (cond b y x)
    go true = h.0
    go false = p

maximum-one : (P : Float → Type 0) (l : List Float) → Every P l → IfAny P (maximum l)
maximum-one P [] h = tt
maximum-one P (x ∷ l) h = greatest-one P x l h.0 h.1

lower-fits : (times : List Float) (t : Float) → Every Fits times → IfAny Fits (lower_neighbour times t)
unfolding lower_neighbour
lower-fits times t h = maximum-one Fits (keep (λ (x : Float). le x t) times) (every-keep Fits (λ (x : Float). le x t) times h)

-- ---- the rule

few-first : (active : List Start) (t : Float) → ltb 1 (length active) ≡ false → last_at_most (active_times active) t ≡ 0
unfolding last_at_most
few-first [] t e = refl
few-first (a ∷ []) t e = refl
few-first (a ∷ b ∷ rest) t e = let h : suc (suc (length rest)) ≤ 1 = nltb→le 1 (suc (suc (length rest))) (rw e tt) in absurd (omega arith)

module _ (set : ClipSet) (s : Samples) where
  many : (t : StageTime) → several_starts set ≡ true → boundaries set s t ≡ gathered set s (active_position set.active t)
  unfolding boundaries
  many t e = rw e

  few : (t : StageTime) → several_starts set ≡ false → boundaries set s t ≡ knot_times set.knots
  unfolding boundaries
  few t e = rw e

  pub held-many : (t : StageTime) → several_starts set ≡ true
      → held_from set s t ≡ held_between set.knots (lower_neighbour (gathered set s (active_position set.active t)) t.0) (upper_neighbour (gathered set s (active_position set.active t)) t.0)
  unfolding held_from
  held-many t e = rw e

  pub held-few : (t : StageTime) → several_starts set ≡ false → held_from set s t ≡ none
  unfolding held_from
  held-few t e = rw e

  value-many : (t : StageTime) → several_starts set ≡ true → value_source set s t ≡ direct_source set s (stage (reading_time set s t))
  unfolding value_source
  value-many t e = rw e

  -- "One start: direct." A set without starts too.
  value-few : (t : StageTime) → several_starts set ≡ false → value_source set s t ≡ direct_source set s t
  unfolding value_source
  value-few t e = rw e

  reading-is : (u : Float) (p : ℕ) → active_position set.active (stage u) ≡ p → reading_time set s (stage u) ≡ between set.knots u (lower_neighbour (gathered set s p) u) (upper_neighbour (gathered set s p) u)
  unfolding reading_time
  reading-is u p e = ap (λ (q : ℕ). between set.knots u (lower_neighbour (gathered set s q) u) (upper_neighbour (gathered set s q) u)) e

module _ (set : ClipSet) (s : Samples) (S : SoundSet set) (A : SoundSamples s) where
  pub boundaries-fit : (t : StageTime) → Every Fits (boundaries set s t)
  boundaries-fit t = go (several_starts set) refl
    where
      go : (b : Bool) → several_starts set ≡ b → Every Fits (boundaries set s t)
      go true e = rw (many set s t e) (gathered-fit set s S A (active_position set.active t))
      go false e = rw (few set s t e) (knots-fit set.knots S.knots)

  -- "or equal to one: direct" says the same as the lower neighbour's direct value
  between-reads : (u : Float) → Fits u → (lower upper : Option Float) → IfAny Fits lower
      → direct_source set s (stage (between set.knots u lower upper)) ≡ direct_source set s (stage (read_as (held_between set.knots lower upper) u))
  between-reads u fu none upper f = refl
  between-reads u fu (some l) none f = refl
  between-reads u fu (some l) (some h) f = go (eq l u) (jump set.knots l h) (λ e. direct-alike set s S A u l fu f (turn (alike-eq l u f fu e)))
    where
      turn : Alike l u → Alike u l
      turn a = (a.1, a.0)

      go : (a b : Bool) → (T a → direct_source set s (stage u) ≡ direct_source set s (stage l))
          → direct_source set s (stage (cond (a || b) u l)) ≡ direct_source set s (stage (read_as (cond b none (some l)) u))
      go true true e = refl
      go true false e = e tt
      go false true e = refl
      go false false e = refl

  module _ (t u : Float) (W : Stretch set s t u) where
    window-clear : several_starts set ≡ true → Every (Clear t u) (gathered set s (last_at_most (active_times set.active) t))
    unfolding active_position
    window-clear e = subst (λ (l : List Float). Every (Clear t u) l) (many set s (stage t) e) W.clear

    -- the active start is the same at both ends
    pub stretch-start : active_position set.active (stage t) ≡ active_position set.active (stage u)
    unfolding active_position
    stretch-start = go (several_starts set) refl
      where
        go : (b : Bool) → several_starts set ≡ b → last_at_most (active_times set.active) t ≡ last_at_most (active_times set.active) u
        go true e = window-stays set s S A t u W.ft W.fu W.order (window-clear e)
        go false e = few-first set.active t e ∙ sym (few-first set.active u e)

    -- no knot is passed
    pub stretch-knots : Every (Clear t u) (knot_times set.knots)
    stretch-knots = go (several_starts set) refl
      where
        go : (b : Bool) → several_starts set ≡ b → Every (Clear t u) (knot_times set.knots)
        go true e = window-knots set s S A t u W.ft W.fu W.order (window-clear e)
        go false e = subst (λ (l : List Float). Every (Clear t u) l) (few set s (stage t) e) W.clear

    -- The value at u: the direct value at the time that t's rule holds, or at u
    pub value-by : value_source set s (stage u) ≡ direct_source set s (stage (read_as (held_from set s (stage t)) u))
    unfolding active_position
    value-by = go (several_starts set) refl
      where
        p : ℕ
        p = last_at_most (active_times set.active) t

        reading : several_starts set ≡ true → reading_time set s (stage u) ≡ between set.knots u (lower_neighbour (gathered set s p) t) (upper_neighbour (gathered set s p) t)
        reading e =
            reading-is set s u p (sym stretch-start)
            ∙ ap₂ (between set.knots u) (sym (lower-stays set s S A t u W.ft W.fu W.order (window-clear e))) (sym (upper-stays set s S A t u W.ft W.fu W.order (window-clear e)))

        go : (b : Bool) → several_starts set ≡ b → value_source set s (stage u) ≡ direct_source set s (stage (read_as (held_from set s (stage t)) u))
        go true e =
            value-many set s (stage u) e
            ∙ ap (λ (x : Float). direct_source set s (stage x)) (reading e)
            ∙ between-reads u W.fu (lower_neighbour (gathered set s p) t) (upper_neighbour (gathered set s p) t) (lower-fits (gathered set s p) t (gathered-fit set s S A p))
            ∙ ap (λ (o : Option Float). direct_source set s (stage (read_as o u))) (sym (held-many set s (stage t) e))
        go false e = value-few set s (stage u) e ∙ ap (λ (o : Option Float). direct_source set s (stage (read_as o u))) (sym (held-few set s (stage t) e))

    -- a part of a stretch that begins where it does
    pub stretch-part : (j : Float) → Inside t u j → Stretch set s t j
    stretch-part j I = record {
      ft = W.ft;
      fu = I.ft;
      order = I.from;
      clear = clear-parts t u W.ft W.fu j I (boundaries set s (stage t)) (boundaries-fit (stage t)) W.clear;
    }

  -- ---- the laws of a stretch

  module _ (t u : Float) (W : Stretch set s t u) where
    pub stretch-same : SameStart set t u
    stretch-same j I = sym (stretch-start t j (stretch-part t u W j I))

  -- ---- of one number, as the two zeros, the value is one

  pub value-alike : (t u : Float) → Fits t → Fits u → Alike t u → value_source set s (stage t) ≡ value_source set s (stage u)
  value-alike t u ft fu a =
      value-by t t here ∙ same (held_from set s (stage t)) ∙ sym (value-by t u there)
    where
      here : Stretch set s t t
      here = record { ft = ft; fu = ft; order = le_refl t ft (le-no-nan t u a.0).0; clear = every_map Fits (Clear t t) (λ x f q. q) (boundaries set s (stage t)) (boundaries-fit (stage t)) }

      there : Stretch set s t u
      there = record { ft = ft; fu = fu; order = a.0; clear = clear-alike t u ft fu a (boundaries set s (stage t)) (boundaries-fit (stage t)) }

      same : (o : Option Float) → direct_source set s (stage (read_as o t)) ≡ direct_source set s (stage (read_as o u))
      same none = direct-alike set s S A t u ft fu a
      same (some l) = refl
