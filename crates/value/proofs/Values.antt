-- The value by the neighbours that a program found, what it says, and that a sample that is read lies in its list. Assumes nothing.
use Rattle.std.specs.Prelude.{Option, None, Some}
use mathlib.Core.Path.{◌≡◌, refl, sym, ap, ap₂, ◌∙◌, subst}
use mathlib.Core.Bool.{Bool, true, false, cond}
use mathlib.Core.List.{List, [], ◌∷◌}
use mathlib.Core.Option.{Option as MathOption, none, some}
use Prim.Native.Nat.{ℕ, ◌≤◌, ◌<◌}
use native.Mathlib.Omega.{arith}
use lib.Dec.{T}
use lib.ListN.{length}
use lib.Ieee.{Float, lt, le}
use lib.Ieee.Scale.{finite}
use borrow.Author.Tests.{lt-ltb, le-ltb}
use Rattle.gf.proofs.KeyLaws.{le_refl, finite-no-nan}
use Rattle.definitions.specs.declared.Missing.{Missing}
use Rattle.definitions.specs.declared.Source.{Source}
use Rattle.definitions.specs.Lists.{keep}
use Rattle.definitions.specs.ClipSet.{ClipSet, stage}
use Rattle.definitions.specs.Timing.{last_at_most, active_position}
use Rattle.definitions.specs.Samples.{Samples}
use Rattle.definitions.specs.Value.{direct_source, gathered, greatest, maximum, lower_neighbour, upper_neighbour, jump, value_source}
use Rattle.laws.specs.list.Every.{Every}
use Rattle.laws.proofs.list.Every.{every_map, every-keep}
use Rattle.laws.specs.list.Places.{Fits}
use Rattle.laws.proofs.cell.Places.{Clear}
use Rattle.laws.proofs.cell.Knots.{Alike}
use Rattle.laws.proofs.cell.Direct.{SoundSet, SoundSamples, direct-alike}
use Rattle.laws.proofs.cell.Ends.{minimum-one}
use Rattle.laws.proofs.cell.Window.{gathered-fit}
use Rattle.laws.specs.cell.Stretches.{boundaries, held_between, held_from}
use Rattle.laws.proofs.cell.Stretches.{read_as, boundaries-fit, value-by, held-many, held-few}
use Rattle.laws.specs.cell.Neighbours.{IsLower, IsUpper}
use Rattle.laws.proofs.cell.Neighbours.{lower-found, lower-none, upper-found, upper-none, jump-alike}
use Rattle.laws.specs.cell.Lent.{active_of, knots_of, set_of, samples_of, AcceptedLists}
use Rattle.laws.proofs.cell.Lent.{sound-set, sound-samples}
use Rattle.window.specs.declared.Neighbours.{Neighbours}
use Rattle.window.specs.Bounds.{LowerIs, UpperIs, NeighboursAre}
use Rattle.window.proofs.Parts.{ready-active, ready-position, ready-readable}
use Rattle.window.specs.declared.search.Window.{Window}
use Rattle.window.specs.search.Windowed.{samples_in, window_times, window_source}
use Rattle.value.specs.WindowOf.{WindowIs}
use Rattle.value.specs.Jumps.{jump_in}
use Rattle.value.proofs.Jumps.{jump-by-x}
use Rattle.value.proofs.WindowOf.{window-gathered, window-lent, window-nears, window-held}
use Rattle.value.specs.Values.{held_at, Valued, ValueIn}

-- ---- the value in a window

-- the cases of the program
module _ (xs ys times : List Float) (w : Window) (t : Float) (n : Neighbours) (N : NeighboursAre (window_times xs ys (samples_in times w) w) t n) (r : Source) where
  read_at : (x : Float) → held_at xs t n.lower n.upper ≡ x → r ≡ window_source xs ys times w x → ValueIn xs ys times w t r
  read_at x e q = record { bounds = n; near = N; reads = q ∙ ap (window_source xs ys times w) (sym e) }

  pub read_below : n.lower ≡ None → r ≡ window_source xs ys times w t → ValueIn xs ys times w t r
  read_below e q = read_at t (ap (λ (b : Option Float). held_at xs t b n.upper) e) q

  module _ (l : Float) (e : n.lower ≡ Some l) where
    pub read-last : n.upper ≡ None → r ≡ window_source xs ys times w t → ValueIn xs ys times w t r
    read-last f q = read_at t (ap₂ (held_at xs t) e f) q

    pub read-jump : (h : Float) → n.upper ≡ Some h → jump_in xs l h ≡ true → r ≡ window_source xs ys times w t → ValueIn xs ys times w t r
    read-jump h f j q = read_at t (ap₂ (held_at xs t) e f ∙ ap (λ (b : Bool). cond b t l) j) q

    pub read_held : (h : Float) → n.upper ≡ Some h → jump_in xs l h ≡ false → r ≡ window_source xs ys times w l → ValueIn xs ys times w t r
    read_held h f j q = read_at l (ap₂ (held_at xs t) e f ∙ ap (λ (b : Bool). cond b t l) j) q

-- ---- a neighbour is a double

greatest-one : (P : Float → Type 0) (x : Float) (l : List Float) → P x → Every P l → P (greatest x l)
greatest-one P x [] p h = p
greatest-one P x (y ∷ l) p h = greatest-one P (cond (lt x y) y x) l (go (lt x y)) h.1
  where
    go : (b : Bool) → P (cond b y x)
    go true = h.0
    go false = p

maximum-one : (P : Float → Type 0) (e : Float) (l : List Float) → Every P l → maximum l ≡ some e → P e
maximum-one P e [] h q = let z : ◌≡◌ {A = ℕ} 0 1 = cc in absurd (omega arith)
maximum-one P e (x ∷ l) h q = let r : greatest x l ≡ e = cc in subst P r (greatest-one P x l h.0 h.1)

module _ (times : List Float) (fit : Every Fits times) (t x : Float) where
  lower-fits : lower_neighbour times t ≡ some x → Fits x
  unfolding lower_neighbour
  lower-fits q = maximum-one Fits x (keep (λ (y : Float). le y t) times) (every-keep Fits (λ (y : Float). le y t) times fit) q

  upper_fits : upper_neighbour times t ≡ some x → Fits x
  unfolding upper_neighbour
  upper_fits q = minimum-one Fits x (keep (λ (y : Float). lt t y) times) (every-keep Fits (λ (y : Float). lt t y) times fit) q

-- ---- the value by its neighbours

module _ {starts : List Float} {clips : List ℕ} {xs ys blocks : List Float} {m : Missing} {times values : List Float} {marks ends : List ℕ} (R : AcceptedLists starts clips xs ys blocks m times values marks ends) (t : Float) (ft : Fits t) (nt : T (finite t)) where
  abbrev set : ClipSet
  set = set_of (length ends) starts clips xs ys blocks m

  abbrev s : Samples
  s = samples_of times values marks ends

  S : SoundSet set
  S = sound-set set R.sound

  A : SoundSamples s
  A = sound-samples set s R.accepted

  by : value_source set s (stage t) ≡ direct_source set s (stage (read_as (held_from set s (stage t)) t))
  by = value-by set s S A t t record {
    ft = ft;
    fu = ft;
    order = le_refl t ft (finite-no-nan t nt);
    clear = every_map Fits (Clear t t) (λ x f q. q) (boundaries set s (stage t)) (boundaries-fit set s S A (stage t));
  }

  direct-by : held_from set s (stage t) ≡ none → direct_source set s (stage t) ≡ value_source set s (stage t)
  direct-by e = sym (by ∙ ap (λ (o : MathOption Float). direct_source set s (stage (read_as o t))) e)

  -- "One start: direct"
  pub value-few : length starts < 2 → direct_source set s (stage t) ≡ value_source set s (stage t)
  unfolding set_of
  value-few h = direct-by (held-few set s (stage t) (le-ltb 1 (length (active_of starts clips)) (omega (arith, ready-active R))))

  module _ (several : 2 ≤ length starts) (p : ℕ) (at : p ≡ last_at_most starts t) where
    times-at : gathered set s (active_position (active_of starts clips) (stage t)) ≡ gathered set s p
    times-at = ap (gathered set s) (ready-position R t p at)

    held : held_from set s (stage t) ≡ held_between (knots_of xs ys) (lower_neighbour (gathered set s p) t) (upper_neighbour (gathered set s p) t)
    unfolding set_of
    held =
        held-many set s (stage t) (lt-ltb 1 (length (active_of starts clips)) (omega (arith, ready-active R)))
        ∙ ap (λ (l : List Float). held_between (knots_of xs ys) (lower_neighbour l t) (upper_neighbour l t)) times-at

    fit : Every Fits (gathered set s p)
    fit = gathered-fit set s S A p

    -- "If t is below all": direct
    pub value-below : LowerIs (gathered set s p) t None → direct_source set s (stage t) ≡ value_source set s (stage t)
    value-below h = direct-by (held ∙ ap (λ (o : MathOption Float). held_between (knots_of xs ys) o (upper_neighbour (gathered set s p) t)) (lower-none (gathered set s p) fit t ft h))

    -- "from the last on": direct
    pub value-last : UpperIs (gathered set s p) t None → direct_source set s (stage t) ≡ value_source set s (stage t)
    value-last h =
        direct-by
        (held ∙ ap (λ (o : MathOption Float). held_between (knots_of xs ys) (lower_neighbour (gathered set s p) t) o) (upper-none (gathered set s p) fit t ft h) ∙ go (lower_neighbour (gathered set s p) t))
      where
        go : (o : MathOption Float) → held_between (knots_of xs ys) o none ≡ none
        go none = refl
        go (some l) = refl

    module _ (l h : Float) (L : IsLower (gathered set s p) t l) (U : IsUpper (gathered set s p) t h) where
      between : (b : Bool) → jump (knots_of xs ys) l h ≡ b → (l' : Float) × (held_from set s (stage t) ≡ cond b none (some l')) × Fits l' × Alike l l'
      unfolding set_of
      between b e =
          let m = lower-found (gathered set s p) fit t ft l L in
          let k = upper-found (gathered set s p) fit t ft h U in
          let fm = lower-fits (gathered set s p) fit t m.0 m.1 in
          let fk = upper_fits (gathered set s p) fit t k.0 k.1 in (
            m.0,
            held ∙ ap₂ (held_between (knots_of xs ys)) m.1 k.1
                ∙ ap (λ (c : Bool). cond c none (some m.0)) (sym (jump-alike l m.0 h k.0 L.fits fm U.fits fk m.2 k.2 (knots_of xs ys) S.knots) ∙ e),
            fm,
            m.2,
          )

      -- "If two knots share an x above the lower neighbour and at most the upper: direct"
      pub value-jump : jump (knots_of xs ys) l h ≡ true → direct_source set s (stage t) ≡ value_source set s (stage t)
      value-jump e = direct-by (between true e).1

      -- "Otherwise the direct value at the lower neighbour"
      pub value-held : jump (knots_of xs ys) l h ≡ false → direct_source set s (stage l) ≡ value_source set s (stage t)
      value-held e =
          let b = between false e in
          direct-alike set s S A l b.0 L.fits b.2 b.3 ∙ sym (by ∙ ap (λ (o : MathOption Float). direct_source set s (stage (read_as o t))) b.1)

    -- ---- in the window that is handed on

    module _ (w : Window) (W : WindowIs starts clips xs ys blocks m times values marks ends p w) where
      pub value-asks : Valued xs ys times w t
      value-asks = record {
        knots = (ready-readable R).knots;
        paired = R.knots-paired;
        lent = window-lent R p w W;
        nears = window-nears R p w W t at record { fitting = ft; finitely = nt };
      }

      pub value_in : (r : Source) → ValueIn xs ys times w t r → r ≡ value_source set s (stage t)
      value_in r N = N.reads ∙ go N.bounds.lower N.bounds.upper near.lower near.upper
        where
          near : NeighboursAre (gathered set s p) t N.bounds
          near = subst (λ (l : List Float). NeighboursAre l t N.bounds) (sym (window-gathered R p w W)) N.near

          here : window_source xs ys times w t ≡ direct_source set s (stage t)
          here = sym (W.direct t (sym at))

          go : (b d : Option Float) → LowerIs (gathered set s p) t b → UpperIs (gathered set s p) t d → window_source xs ys times w (held_at xs t b d) ≡ value_source set s (stage t)
          go None d L U = here ∙ value-below L
          go (Some l) None L U = here ∙ value-last U
          go (Some l) (Some h) L U = by_jump (jump_in xs l h) (jump-by-x l h xs ys R.knots-paired)
            where
              by_jump : (j : Bool) → jump (knots_of xs ys) l h ≡ j → window_source xs ys times w (cond j t l) ≡ value_source set s (stage t)
              by_jump true e = here ∙ value-jump l h L U e
              by_jump false e = sym (window-held R p w W t at ft l L) ∙ value-held l h L U e
