-- A set with several starts and no knots: in a window the value at each time is the direct one, so that one cell reads it up to the next start. Assumes nothing.
use Rattle.std.specs.Prelude.{Option, None, Some}
use mathlib.Core.Path.{◌≡◌, refl, sym, ap, ap₂, ◌∙◌, subst}
use mathlib.Core.Logic.{inl}
use mathlib.Core.Bool.{Bool, true, false, not, ◌&&◌, cond}
use mathlib.Core.List.{List, [], ◌∷◌}
use Prim.Native.Nat.{ℕ, ◌+◌, ◌-◌, ◌≤◌, ◌<◌, min}
use native.Mathlib.Nat.{le_of_eq}
use native.Mathlib.Decide.{dec_le}
use native.Mathlib.Omega.{arith}
use lib.Dec.{T, eqb, ltb}
use lib.ListN.{length, get_or, drop, length-drop}
use lib.Seq.{length-take-le}
use lib.Ieee.{Float, nan, inf, eq, lt, le, is_nan, fits}
use borrow.Author.Tests.{ltb-true, lt-ltb}
use Rattle.gf.specs.Doubles.{key, of_key}
use Rattle.gf.proofs.KeyLaws.{key-of_key, of_key-fits, of_key-finite, of_key-mono, le_trans, le_lt_trans, lt→le, le-no-nan, finite-no-nan}
use Rattle.definitions.specs.declared.Missing.{Missing}
use Rattle.definitions.specs.declared.Source.TheVariants.{Sample as sample}
use Rattle.definitions.specs.Lists.{any, keep}
use Rattle.definitions.specs.Doubles.{FiniteDouble}
use Rattle.definitions.specs.ClipSet.{ClipSet, stage}
use Rattle.definitions.specs.Timing.{last_at_most, map_time}
use Rattle.definitions.specs.Samples.{Samples, clip_times}
use Rattle.definitions.specs.Value.{value_source}
use Rattle.laws.proofs.list.Tests.{holds, both}
use Rattle.laws.specs.list.Every.{Every}
use Rattle.laws.proofs.list.Every.{every-at, every-kept, every-left, every-zip}
use Rattle.laws.specs.list.Places.{Ascending, Fits}
use Rattle.laws.proofs.list.Places.{fitting, last-inside}
use Rattle.laws.proofs.cell.Places.{Clear, not-le-lt, place_mono, place_same}
use Rattle.laws.proofs.cell.Window.{inf-below}
use Rattle.laws.specs.cell.Knots as Knots
use Rattle.laws.specs.cell.Neighbours.{IsLower}
use Rattle.laws.specs.cell.Keys.{Keys}
use Rattle.laws.specs.cell.Lent.{knots_of, set_of, samples_of, AcceptedLists}
use Rattle.window.specs.declared.Neighbours.{Neighbours}
use Rattle.window.specs.Bounds.{inside, nothing, LowerIs, NeighboursAre}
use Rattle.window.specs.Inverses.{inverses_of}
use Rattle.window.proofs.Inverses.{inverses-none}
use Rattle.window.specs.Parts.{part_of}
use Rattle.window.proofs.Parts.{ready-starts, ready-clip, ready-readable}
use Rattle.window.specs.Windows.{if_own}
use Rattle.window.specs.nearest.Nearest.{with_near, Searched}
use Rattle.window.proofs.nearest.Nearest.{searched-none, searched-one, searched-then}
use Rattle.window.specs.nearest.Beside.{TimeInside}
use Rattle.window.proofs.nearest.Beside.{climb, last-reached}
use Rattle.cell.specs.declared.step.line.Line.TheVariants.{Identity}
use Rattle.cell.specs.step.Lines.{place_on}
use Rattle.window.specs.declared.search.Window.{Window}
use Rattle.window.proofs.search.LatestLaws.{no-latest}
use Rattle.window.specs.search.Windowed.{interval_of, samples_in, next_of, starts_of, window_times, window_source, Nearing}
use Rattle.window.proofs.search.Windowed.{near-faces, near-plain}
use Rattle.value.specs.WindowOf.{WindowIs}
use Rattle.value.proofs.WindowOf.{window-lent, window-nears}
use Rattle.value.specs.Jumps.{jump_in}
use Rattle.value.specs.Values.{held_at}
use Rattle.value.proofs.Values.{value_in}
use Rattle.cell.specs.declared.Cell.TheVariants.{Constant, Reading}
use Rattle.cell.proofs.CellsRead.{Sampled}
use Rattle.track.specs.span.Runs.{part, read_on}
use Rattle.track.specs.span.Knotless.{knotless_cell}
use Rattle.track.proofs.span.Spans.{TurnsOn, Told}

-- ---- the lower neighbour of t reads the sample that t reads

module _ (w : Window) (cs ys : List Float) (a : Ascending cs) (t l : Float) (F : TimeInside (interval_of w) t) (upto : T (lt t w.max)) (low : T (le w.min l)) (L : IsLower (window_times [] ys cs w) t l) where
  -- a sample of the window is gathered
  gathered-clear : Every (λ (c : Float). T (inside (interval_of w) c) → Clear l t c) cs
  unfolding window_times
  gathered-clear =
      every-kept (Clear l t) (inside (interval_of w)) cs
      (subst (λ (k : List Float). Every (Clear l t) (keep (inside (interval_of w)) k)) (inverses-none cs)
      (every-left (Clear l t) (keep (inside (interval_of w)) (inverses_of [] cs)) (next_of w) L.last.1))

  -- one before it is before l too
  sample-clear : (c : Float) → FiniteDouble c → (T (inside (interval_of w) c) → Clear l t c) → Clear l t c
  sample-clear c f h u = go (le w.min c) refl
    where
      go : (b : Bool) → le w.min c ≡ b → T (le c l)
      go true e = h (both (le w.min c) (lt c w.max) (holds (le w.min c) e) (le_lt_trans c t w.max f.fitting F.time.0 F.max.0 u upto)) u
      go false e =
          let b = not-le-lt w.min c F.min.0 f.fitting F.min.1 (finite-no-nan c f.finitely) (subst (λ (x : Bool). T (not x)) (sym e) tt) in
          le_trans c w.min l f.fitting F.min.0 L.fits (lt→le c w.min b) low

  lower-place : last_at_most cs l ≡ last_at_most cs t
  lower-place =
      place_same l t L.fits F.time.0 L.upto cs (fitting cs a.numbers)
      (every-zip FiniteDouble (λ (c : Float). T (inside (interval_of w) c) → Clear l t c) (Clear l t) sample-clear cs a.numbers gathered-clear)

-- ---- there are neighbours

search-all : (t : Float) (l : List Float) (h : Neighbours) → (r : Neighbours) × Searched t l h r
search-all t [] h = (h, searched-none t h)
search-all t (x ∷ l) h = let u = search-all t l (with_near t h x) in (u.0, searched-then t {a = x ∷ []} {b = l} (searched-one t h x) u.1)

empty : (l : List Float) → length l ≡ 0 → l ≡ []
empty [] q = refl
empty (x ∷ l) q = absurd (omega arith)

-- ---- the value in the window

module _ {starts : List Float} {clips : List ℕ} {xs ys blocks : List Float} {m : Missing} {times values : List Float} {marks ends : List ℕ} (R : AcceptedLists starts clips xs ys blocks m times values marks ends) (none : length xs ≡ 0) (several : 1 < length starts) (p : ℕ) (w : Window) (W : WindowIs starts clips xs ys blocks m times values marks ends p w) where
  abbrev set : ClipSet
  set = set_of (length ends) starts clips xs ys blocks m

  abbrev s : Samples
  s = samples_of times values marks ends

  start_fits : (i : ℕ) → i < length starts → Fits (get_or starts i nan)
  start_fits i h = (every-at FiniteDouble starts i nan (ready-starts R).numbers h).fitting

  inf-fits : (b : Bool) → Fits (inf b)
  unfolding fits
  inf-fits b = tt

  fits-min : Fits w.min
  fits-min = subst Fits (sym W.min) (go (eqb p 0))
    where
      go : (b : Bool) → Fits (cond b (inf true) (get_or starts p nan))
      go true = inf-fits true
      go false = start_fits p W.place

  fits-max : Fits w.max
  fits-max = subst Fits (sym W.max) (go (ltb (p + 1) (length starts)) refl)
    where
      go : (b : Bool) → ltb (p + 1) (length starts) ≡ b → Fits (cond b (get_or starts (p + 1) nan) (inf false))
      go true e = start_fits (p + 1) (ltb-true (p + 1) (length starts) e)
      go false e = inf-fits false

  module _ (t : Float) (ft : FiniteDouble t) (at : p ≡ last_at_most starts t) where
    nears : Nearing xs ys [] (samples_in times w) w t
    nears = window-nears R p w W t at ft [] (no-latest xs ys [] refl)

    pub plain-faces : TimeInside (interval_of w) t
    plain-faces = near-faces xs ys [] (samples_in times w) w t nears fits-min fits-max

    found : (r : Neighbours) × NeighboursAre (window_times xs ys (samples_in times w) w) t r
    found =
        let h = search-all t (starts_of w) nothing in
        let r = search-all t (keep (inside (interval_of w)) (samples_in times w)) h.0 in
        (r.0, near-plain xs ys [] (samples_in times w) w t nears fits-min fits-max none h.1 r.1)

    -- the window begins at most at its lower neighbour
    low : (l : Float) → IsLower (window_times xs ys (samples_in times w) w) t l → T (le w.min l)
    unfolding window_times
    low l L = go (eqb p 0) W.min
      where
        go : (b : Bool) → w.min ≡ cond b (inf true) (get_or starts p nan) → T (le w.min l)
        go true e = subst (λ (x : Float). T (le x l)) (sym e) (inf-below l (le-no-nan l t L.upto).0)
        go false e = subst (λ (x : Float). T (le x t) → T (le x l)) (W.start ∙ sym e) L.last.0 nears.from

    held-source : (l h : Float) → IsLower (window_times xs ys (samples_in times w) w) t l → window_source xs ys times w t ≡ window_source xs ys times w (cond (jump_in xs l h) t l)
    unfolding window_source map_time
    held-source l h L =
        subst (λ (k : List Float). window_source k ys times w t ≡ window_source k ys times w (cond (jump_in k l h) t l)) (sym (empty xs none))
        (ap (λ (i : ℕ). cond (ltb w.begin w.end) (sample w.clip i) w.gap) (sym place))
      where
        place : last_at_most (samples_in times w) l ≡ last_at_most (samples_in times w) t
        place = lower-place w (samples_in times w) ys (window-lent R p w W).rising t l plain-faces nears.upto (low l L) (subst (λ (k : List Float). IsLower (window_times k ys (samples_in times w) w) t l) (empty xs none) L)

    held : (b d : Option Float) → LowerIs (window_times xs ys (samples_in times w) w) t b → window_source xs ys times w t ≡ window_source xs ys times w (held_at xs t b d)
    held None d L = refl
    held (Some l) None L = refl
    held (Some l) (Some h) L = held-source l h L

    -- The value is the direct one
    pub plain_value : window_source xs ys times w t ≡ value_source (set_of (length ends) starts clips xs ys blocks m) (samples_of times values marks ends) (stage t)
    plain_value =
        value_in R t ft.fitting ft.finitely several p at w W (window_source xs ys times w t)
        record { bounds = found.0; near = found.1; reads = held found.0.lower found.0.upper found.1.lower }

  -- ---- the cell that reads it

  -- where there are samples they are the clip's
  module _ (l : w.begin < w.end) where
    own-part : samples_in times w ≡ part times ends w.clip
    own-part = W.part ∙ go (not (m.interpolate && any (λ (b : Float). eq b (get_or starts p nan)) blocks)) W.part ∙ ap (part_of times ends) (sym W.clip)
      where
        size : length (samples_in times w) ≡ w.end - w.begin
        size = length-take-le (w.end - w.begin) (drop w.begin times) (rw (length-drop w.begin times) (omega (arith, W.upto)))

        go : (b : Bool) → samples_in times w ≡ if_own b (part_of times ends (get_or clips p 0)) → if_own b (part_of times ends (get_or clips p 0)) ≡ part_of times ends (get_or clips p 0)
        go true e = refl
        go false e = let z : length (samples_in times w) ≡ 0 = ap length e in absurd (omega (arith, size))

    own-some : 0 < length (part times ends w.clip)
    own-some = subst (λ (k : List Float). 0 < length k) own-part (omega (arith, length-take-le (w.end - w.begin) (drop w.begin times) (rw (length-drop w.begin times) (omega (arith, W.upto)))))

  plain-reads : (j : ℕ) → window_source xs ys times w (of_key j) ≡ read_on times ends (knotless_cell w) j
  unfolding window_source map_time place_on Knots.along
  plain-reads j = go (ltb w.begin w.end) refl
    where
      time : map_time (knots_of xs ys) (of_key j) ≡ of_key j
      time = subst (λ (k : List Float). map_time (knots_of k ys) (of_key j) ≡ of_key j) (sym (empty xs none)) refl

      go : (b : Bool) → ltb w.begin w.end ≡ b
          → cond b (sample w.clip (last_at_most (samples_in times w) (map_time (knots_of xs ys) (of_key j)))) w.gap ≡ read_on times ends (cond b (Reading w.clip Identity) (Constant w.gap)) j
      go true e = ap₂ (λ (k : List Float) (x : Float). sample w.clip (last_at_most k x)) (own-part (ltb-true w.begin w.end e)) time
      go false e = refl

  plain-sampled : Sampled set s (knotless_cell w)
  unfolding set_of clip_times
  plain-sampled = go (ltb w.begin w.end) refl
    where
      go : (b : Bool) → ltb w.begin w.end ≡ b → Sampled set s (cond b (Reading w.clip Identity) (Constant w.gap))
      go true e = (subst (λ (c : ℕ). c < length ends) (sym W.clip) (ready-clip R p W.place), own-some (ltb-true w.begin w.end e))
      go false e = tt

  -- ---- up to the next start

  module _ (k hi : ℕ) (K : Keys k hi) (below : hi < key w.max) (at : p ≡ last_at_most starts (of_key k)) where
    finite-key : (j : ℕ) → k ≤ j → j ≤ hi → FiniteDouble (of_key j)
    finite-key j a b = record { fitting = of_key-fits j; finitely = of_key-finite j (omega (arith, K.low)) (omega (arith, K.high)) }

    ordered : (i j : ℕ) → k ≤ i → i ≤ j → j ≤ hi → T (le (of_key i) (of_key j))
    ordered i j a b c = of_key-mono i j (omega (arith, K.low)) b (omega (arith, K.high))

    -- the same start is active
    stays : (j : ℕ) → k ≤ j → j ≤ hi → p ≡ last_at_most starts (of_key j)
    stays j a b =
        let l = place_mono (of_key k) (of_key j) (of_key-fits k) (of_key-fits j) (ordered k j (le_of_eq refl) a b) starts (fitting starts (ready-starts R).numbers) in
        go (last_at_most starts (of_key j)) refl l (dec_le (last_at_most starts (of_key j)) p)
      where
        passed : (q : ℕ) → q ≡ last_at_most starts (of_key j) → p < q → ⊥
        passed q r h =
            let A = ready-starts R in
            let f = finite-key j a b in
            let i : q < length starts = omega (arith, r, last-inside (of_key j) f.fitting starts A (omega arith)) in
            let u = last-reached starts A (of_key j) f q r (omega arith) i in
            let c = climb starts A (p + 1) q (omega arith) i in
            let e = key-of_key j (omega (arith, K.low)) (omega (arith, K.high)) in
            let n : key w.max ≡ key (get_or starts (p + 1) nan) = ap key (W.max ∙ ap (λ (x : Bool). cond x (get_or starts (p + 1) nan) (inf false)) (lt-ltb (p + 1) (length starts) (omega arith))) in
            omega arith

        go : (q : ℕ) → q ≡ last_at_most starts (of_key j) → last_at_most starts (of_key k) ≤ q → Dec (q ≤ p) → p ≡ q
        go q r l (yes u) = omega (arith, at)
        go q r l (no u) = absurd (passed q r (omega arith))

    rises : (i j : ℕ) → k ≤ i → i ≤ j → j ≤ hi → place_on (part times ends w.clip) Identity i ≤ place_on (part times ends w.clip) Identity j
    unfolding place_on Knots.along
    rises i j a b d =
        place_mono (of_key i) (of_key j) (of_key-fits i) (of_key-fits j) (ordered i j a b d) (part times ends w.clip)
        (fitting (part times ends w.clip) ((ready-readable R).rising w.clip (subst (λ (c : ℕ). c < length ends) (sym W.clip) (ready-clip R p W.place))).numbers)

    turns : TurnsOn times ends (knotless_cell w) k hi
    turns = go (ltb w.begin w.end)
      where
        go : (b : Bool) → TurnsOn times ends (cond b (Reading w.clip Identity) (Constant w.gap)) k hi
        go true = inl rises
        go false = tt

    told : Told set s k hi (knotless_cell w)
    told = record {
      keys = K;
      reads = λ j a b. sym (plain_value (of_key j) (finite-key j a b) (stays j a b)) ∙ plain-reads j;
      clip = plain-sampled;
      turns = turns;
    }

  module _ (k top : ℕ) (K : Keys k top) (at : p ≡ last_at_most starts (of_key k)) where
    here : FiniteDouble (of_key k)
    here = record { fitting = of_key-fits k; finitely = of_key-finite k K.low (omega (arith, K.order, K.high)) }

    pub plain-number : T (not (is_nan w.max))
    plain-number = (plain-faces (of_key k) here at).max.1

    pub plain-later : k < key w.max
    plain-later = omega (arith, (plain-faces (of_key k) here at).upto, key-of_key k K.low (omega (arith, K.order, K.high)))

    -- From k on the window's cell reads the value up to the next start
    pub plain-told : Told (set_of (length ends) starts clips xs ys blocks m) (samples_of times values marks ends) k (min top (key w.max - 1)) (knotless_cell w)
    plain-told =
        let l = plain-later in
        told k (min top (key w.max - 1)) record { low = K.low; order = omega (arith, K.order); high = omega (arith, K.high) } (omega arith) at
