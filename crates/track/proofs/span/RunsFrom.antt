-- The law of a run: up to its end the value is that of the sample at the inverse time that was passed last. Assumes nothing.
use Rattle.std.specs.Prelude.{None, Some}
use mathlib.Core.Path.{◌≡◌, refl, sym, ap, ap₂, ◌∙◌, subst}
use mathlib.Core.Logic.{◌⊎◌, inl, inr}
use mathlib.Core.Bool.{Bool, true, false, not, ◌&&◌, cond}
use mathlib.Core.List.{List}
use Prim.Native.Nat.{ℕ, ◌+◌, ◌-◌, ◌≤◌, ◌<◌, min}
use native.Mathlib.Nat.{le_of_eq}
use native.Mathlib.Omega.{arith}
use lib.Dec.{T, eqb, ltb}
use lib.ListN.{length, get_or, drop, length-drop}
use lib.Seq.{length-take-le}
use lib.Ieee.{Float, nan, inf, fits, eq, lt, le}
use borrow.Author.Tests.{ltb-true, ltb-false, lt-ltb}
use Rattle.gf.specs.Doubles.{0·0, key, of_key, least, most}
use Rattle.gf.proofs.KeyLaws.{of_key-fits, of_key-no-nan, of_key-finite, key-of_key, le→key, lt→key, key→le, key→lt, finite→key, key→finite, finite-no-nan, le-no-nan, lt→le, lt_not_le}
use Rattle.definitions.specs.declared.Missing.{Missing}
use Rattle.definitions.specs.declared.Source.{Source}
use Rattle.definitions.specs.declared.Source.TheVariants.{Sample as sample}
use Rattle.definitions.specs.Lists.{any}
use Rattle.definitions.specs.Doubles.{FiniteDouble}
use Rattle.definitions.specs.ClipSet.{ClipSet, stage}
use Rattle.definitions.specs.Timing.{last_at_most}
use Rattle.definitions.specs.Samples.{Samples}
use Rattle.definitions.specs.Value.{marked, says, value_in_set, direct_source, gathered}
use Rattle.definitions.specs.Track.{Entry, written_entry}
use Rattle.laws.proofs.list.Tests.{is_true, is_false, holds}
use Rattle.laws.specs.list.Every.{Every}
use Rattle.laws.proofs.list.Every.{every-at}
use Rattle.laws.specs.list.Places.{Fits, Number}
use Rattle.laws.proofs.list.Places.{at_most, at-most-length, beyond, up_to, last-is}
use Rattle.laws.specs.cell.Keys.{Keys, entry_at_key}
use Rattle.laws.proofs.cell.Keys.{source_at_key}
use Rattle.laws.specs.cell.Knots as Knots
use Rattle.laws.proofs.cell.Window.{gathered-fit}
use Rattle.laws.proofs.cell.Zeros.{zero-direct}
use Rattle.laws.specs.cell.Lent.{AcceptedLists, set_of, samples_of}
use Rattle.window.specs.Bounds.{NeighboursAre}
use Rattle.window.specs.SoundSegments.{SoundSegment}
use Rattle.window.specs.Parts.{part_of}
use Rattle.laws.proofs.cell.Places.{last-short}
use Rattle.window.proofs.Parts.{ready-clip, ready-readable, ready-starts}
use Rattle.window.specs.Windows.{if_own}
use Rattle.window.proofs.nearest.Beside.{finite_number}
use Rattle.cell.specs.declared.step.line.Line.{Line}
use Rattle.cell.specs.step.Lines.{line_is, place_on}
use Rattle.window.specs.declared.search.Window.{Window}
use Rattle.window.specs.search.Latest.{segment_of}
use Rattle.window.proofs.search.LatestLaws.{segment-here}
use Rattle.window.specs.search.Windowed.{samples_in, window_times, window_source}
use Rattle.run.specs.Readings.{Reads, reading_at}
use Rattle.run.specs.Runs.{line_on, passed_by, passing_at, Passing}
use Rattle.run.proofs.RunLaws.{passing-lower}
use Rattle.value.specs.ClipTimes.{OnSegment}
use Rattle.value.proofs.ClipTimes.{on-segment}
use Rattle.value.specs.WindowOf.{WindowIs}
use Rattle.value.proofs.WindowOf.{window-gathered}
use Rattle.value.specs.RunsFrom.{RunFrom}
use Rattle.value.proofs.RunsFrom.{HeldAt, nh, knot-low, run-held, run-first}
use Rattle.cell.specs.declared.Cell.TheVariants.{Constant}
use Rattle.cell.specs.CellAndEnd.{held_of}
use Rattle.cell.proofs.Lent.{sound, samples}
use Rattle.cell.proofs.CellsRead.{CellAndEndIs, piece-constant}
use Rattle.track.specs.span.Runs.{part}
use Rattle.track.proofs.span.Spans.{clip-lengths, clip-says, clip-reads, source-on}

inf-fits : (s : Bool) → Fits (inf s)
unfolding fits
inf-fits s = tt

pub place_short : (ts : List Float) (line : Line) (k : ℕ) → 0 < length ts → place_on ts line k < length ts
unfolding place_on
place_short ts line k h = last-short ts (Knots.along (line_is line) (of_key k)) h

-- ---- a window

module _ {starts : List Float} {clips : List ℕ} {xs ys blocks : List Float} {m : Missing} {times values : List Float} {marks ends : List ℕ} (R : AcceptedLists starts clips xs ys blocks m times values marks ends) (p : ℕ) (w : Window)
    (W : WindowIs starts clips xs ys blocks m times values marks ends p w) where
  abbrev set : ClipSet
  set = set_of (length ends) starts clips xs ys blocks m

  abbrev s : Samples
  s = samples_of times values marks ends

  -- ---- the window's ends and its samples

  pub window-least : (w.min ≡ inf true) ⊎ (w.min ≡ w.start)
  window-least = go (eqb p 0) W.min
    where
      go : (b : Bool) → w.min ≡ cond b (inf true) (get_or starts p nan) → (w.min ≡ inf true) ⊎ (w.min ≡ w.start)
      go true e = inl e
      go false e = inr (e ∙ sym W.start)

  finite-start : (i : ℕ) → i < length starts → FiniteDouble (get_or starts i nan)
  finite-start i h = every-at FiniteDouble starts i nan (ready-starts R).numbers h

  pub window-most : Fits w.max
  window-most = go (ltb (p + 1) (length starts)) refl W.max
    where
      go : (b : Bool) → ltb (p + 1) (length starts) ≡ b → w.max ≡ cond b (get_or starts (p + 1) nan) (inf false) → Fits w.max
      go true q e = subst Fits (sym e) (finite-start (p + 1) (ltb-true (p + 1) (length starts) q)).fitting
      go false q e = subst Fits (sym e) (inf-fits false)

  -- the start of the window is active up to its end
  active : (u : Float) → Number u → key w.start ≤ key u → T (lt u w.max) → last_at_most starts u ≡ p
  active u n a b = go (ltb (p + 1) (length starts)) refl W.max
    where
      x : FiniteDouble (get_or starts p nan)
      x = finite-start p W.place

      reached : p < at_most starts u
      reached =
          beyond u n.0 nan starts (ready-starts R) p W.place
          (is_true (le (get_or starts p nan) u)
          (key→le (get_or starts p nan) u x.fitting n.0 (finite-no-nan (get_or starts p nan) x.finitely) n.1 (subst (λ (z : Float). key z ≤ key u) W.start a)))

      go : (b : Bool) → ltb (p + 1) (length starts) ≡ b → w.max ≡ cond b (get_or starts (p + 1) nan) (inf false) → last_at_most starts u ≡ p
      go true q e =
          let l = ltb-true (p + 1) (length starts) q in
          let f = finite-start (p + 1) l in
          let o = is_false (le (get_or starts (p + 1) nan) u) (λ h. lt_not_le u (get_or starts (p + 1) nan) n.0 f.fitting (subst (λ (z : Float). T (lt u z)) e b) h) in
          let k = up_to u n.0 nan starts (ready-starts R) (p + 1) l o in
          omega (arith, reached, last-is u n.0 starts (ready-starts R))
      go false q e = omega (arith, reached, last-is u n.0 starts (ready-starts R), at-most-length starts u, ltb-false (p + 1) (length starts) q)

  module _ (full : w.begin < w.end) where
    long : 0 < length (samples_in times w)
    long = let u = W.upto in let e = length-take-le (w.end - w.begin) (drop w.begin times) (rw (length-drop w.begin times) (omega arith)) in omega arith

    pub its-part : samples_in times w ≡ part times ends w.clip
    its-part = go (not (m.interpolate && any (λ (b : Float). eq b (get_or starts p nan)) blocks)) W.part
      where
        go : (b : Bool) → samples_in times w ≡ if_own b (part_of times ends (get_or clips p 0)) → samples_in times w ≡ part times ends w.clip
        go true e = e ∙ ap (part_of times ends) (sym W.clip)
        go false e = let q = ap length e in absurd (omega (arith, long))

    pub clip-named : w.clip < length ends
    clip-named = subst (λ (d : ℕ). d < length ends) (sym W.clip) (ready-clip R p W.place)

    some-part : 0 < length (part times ends w.clip)
    some-part = subst (λ (l : List Float). 0 < length l) its-part long

    pub part-reads : Reads (part times ends w.clip) (part values ends w.clip) (part marks ends w.clip)
    part-reads = clip-reads R w.clip clip-named some-part

    -- what a sample of the window says
    sample-says : (i : ℕ) → i < length (part times ends w.clip) → written_entry (says set s (sample w.clip i)) ≡ written_entry (marked (get_or (part marks ends w.clip) i 0) (get_or (part values ends w.clip) i 0·0))
    unfolding says
    sample-says i h = let l = (clip-lengths R w.clip clip-named).0 in ap written_entry (clip-says R w.clip clip-named i (omega arith))

    -- ---- the run

    module _ (many : 1 < length starts) (latest : List Float) (k : ℕ) (K : Keys k k) (i : ℕ) (l h : Float) (O : RunFrom xs ys latest (samples_in times w) w (of_key k) i l h) where
      fit : Every Fits (window_times xs ys (samples_in times w) w)
      fit = subst (Every Fits) (window-gathered R p w W) (gathered-fit set s (sound R) (samples R) p)

      finite-knot : (j : ℕ) → j < length xs → FiniteDouble (get_or xs j nan)
      finite-knot j b = every-at FiniteDouble xs j nan O.nears.knots.numbers b

      low : (least ≤ k) × (k ≤ most)
      low = (K.low, K.high)

      kk : key (of_key k) ≡ k
      kk = key-of_key k low.0 low.1

      ntk : Number (of_key k)
      ntk = finite_number (of_key k) O.nears.time

      -- it ends above k
      pub run-above : k < key h
      run-above =
          let n = nh xs ys latest (samples_in times w) w (of_key k) i l h O in
          let a = lt→key (of_key k) h ntk.0 n.0 ntk.1 n.1 O.above in
          omega (arith, kk)

      knot-keys : (j : ℕ) → j < length xs → (least ≤ key (get_or xs j nan)) × (key (get_or xs j nan) ≤ most)
      knot-keys j b = let f = finite-knot j b in finite→key (get_or xs j nan) f.fitting f.finitely

      -- a time from the first knot on and below the second is a finite double
      finite-by : (x : Float) → Number x → key (get_or xs i nan) ≤ key x → key x < key (get_or xs (i + 1) nan) → FiniteDouble x
      finite-by x n a b = record {
        fitting = n.0;
        finitely = key→finite x n.1 (omega (arith, (knot-keys i (omega (arith, O.here.place))).0)) (omega (arith, (knot-keys (i + 1) O.here.place).1));
      }

      pub run-floor : FiniteDouble l
      run-floor =
          let f = (le-no-nan l (of_key k) O.lower.upto).0 in
          let n : Number l = (O.lower.fits, f) in
          let a = le→key l (of_key k) n.0 ntk.0 n.1 ntk.1 O.lower.upto in
          let x = finite-knot (i + 1) O.here.place in
          let b = lt→key (of_key k) (get_or xs (i + 1) nan) ntk.0 x.fitting ntk.1 (finite-no-nan (get_or xs (i + 1) nan) x.finitely) (holds (lt (of_key k) (get_or xs (i + 1) nan)) O.here.upto) in
          finite-by l n (knot-low xs ys latest (samples_in times w) w (of_key k) i l h O i (le_of_eq refl)) (omega arith)

      segment-is : SoundSegment (segment_of xs ys i)
      segment-is = segment-here xs ys R.knots-paired (ready-readable R).segments i O.here.place

      -- ---- a key of the run

      module _ (j : ℕ) (a : k ≤ j) (b : j < key h) (g : j ≤ most) where
        jl : least ≤ j
        jl = omega (arith, low.0)

        kj : key (of_key j) ≡ j
        kj = key-of_key j jl g

        nj : Number (of_key j)
        nj = (of_key-fits j, of_key-no-nan j jl g)

        H : HeldAt xs ys (samples_in times w) w i l (of_key j)
        H = run-held xs ys latest (samples_in times w) w (of_key k) i l h O (of_key j) nj (omega (arith, kj, kk)) (omega (arith, kj)) fit

        nm : Number H.m
        nm = (H.lower.fits, (le-no-nan H.m (of_key j) H.lower.upto).0)

        mu : key H.m ≤ j
        mu = let e = le→key H.m (of_key j) nm.0 nj.0 nm.1 nj.1 H.lower.upto in omega (arith, kj)

        max-number : Number w.max
        max-number = (window-most, (le-no-nan h w.max (lt→le h w.max O.within)).1)

        in_window : (x : Float) → Number x → key w.start ≤ key x → key x ≤ j → last_at_most starts x ≡ p
        in_window x n c d =
            let y = nh xs ys latest (samples_in times w) w (of_key k) i l h O in
            let e = lt→key h w.max y.0 max-number.0 y.1 max-number.1 O.within in
            active x n c (key→lt x w.max n.0 max-number.0 n.1 max-number.1 (omega arith))

        at : p ≡ last_at_most starts (of_key j)
        at = sym (in_window (of_key j) nj (omega (arith, H.begun, mu, kj)) (omega (arith, kj)))

        finite-j : FiniteDouble (of_key j)
        finite-j = record { fitting = of_key-fits j; finitely = of_key-finite j jl g }

        source-held : source_at_key set s j ≡ direct_source set s (stage H.m)
        source-held = source-on R j j (record { low = jl; order = le_of_eq refl; high = g }) (Constant (direct_source set s (stage H.m))) (Some H.n) piece j (le_of_eq refl) (short-end)
          where
            around : NeighboursAre (gathered set s p) (of_key j) (record { lower = Some H.m; upper = Some H.n })
            around = subst (λ (x : List Float). NeighboursAre x (of_key j) (record { lower = Some H.m; upper = Some H.n })) (sym (window-gathered R p w W)) (record { lower = H.lower; upper = H.upper })

            is_held : held_of xs (Some H.m) (Some H.n) ≡ Some H.m
            is_held = ap (λ (x : Bool). cond x None (Some H.m)) H.level

            piece : CellAndEndIs set s (of_key j) (Constant (direct_source set s (stage H.m))) (Some H.n)
            piece = piece-constant R (of_key j) finite-j many p at (record { lower = Some H.m; upper = Some H.n }) around H.m (direct_source set s (stage H.m)) is_held refl

            short-end : j ≤ min j (key H.n - 1)
            short-end =
                let n : Number H.n = (H.upper.fits, (le-no-nan (of_key j) H.n (lt→le (of_key j) H.n H.upper.above)).1) in
                let e = lt→key (of_key j) H.n nj.0 n.0 nj.1 n.1 H.upper.above in
                omega (arith, kj)

        -- which is read along the line
        m-finite : FiniteDouble H.m
        m-finite = finite-by H.m nm H.from H.upto

        m-keys : (least ≤ key H.m) × (key H.m ≤ most)
        m-keys = finite→key H.m m-finite.fitting m-finite.finitely

        abbrev z : Float
        z = of_key (key H.m)

        kz : key (of_key (key H.m)) ≡ key H.m
        kz = key-of_key (key H.m) m-keys.0 m-keys.1

        nz : Number (of_key (key H.m))
        nz = (of_key-fits (key H.m), of_key-no-nan (key H.m) m-keys.0 m-keys.1)

        z-on : OnSegment xs (of_key (key H.m)) i
        z-on =
            let x = finite_number (get_or xs i nan) (finite-knot i (omega (arith, O.here.place))) in
            let y = finite_number (get_or xs (i + 1) nan) (finite-knot (i + 1) O.here.place) in
            record {
              place = O.here.place;
              from = is_true (le (get_or xs i nan) z) (key→le (get_or xs i nan) z x.0 nz.0 x.1 nz.1 (omega (arith, kz, H.from)));
              upto = is_true (lt z (get_or xs (i + 1) nan)) (key→lt z (get_or xs (i + 1) nan) nz.0 y.0 nz.1 y.1 (omega (arith, kz, H.upto)));
            }

        read : direct_source set s (stage H.m) ≡ sample w.clip (place_on (part times ends w.clip) (line_on (segment_of xs ys i)) (key H.m))
        unfolding window_source place_on Knots.along
        read =
            zero-direct set s (sound R) (samples R) H.m z m-finite (record { fitting = of_key-fits (key H.m); finitely = of_key-finite (key H.m) m-keys.0 m-keys.1 }) (sym kz)
            ∙ W.direct z (in_window z nz (omega (arith, kz, H.begun)) (omega (arith, kz, mu)))
            ∙ rw (lt-ltb w.begin w.end full)
            (ap₂ (λ (x : List Float) (y : Float). sample w.clip (last_at_most x y)) its-part (sym (on-segment xs ys O.nears.knots O.nears.paired z nz.0 i z-on)))

        passed : key (passed_by (part times ends w.clip) (segment_of xs ys i) l (of_key j)) ≡ key H.m
        passed =
            ap (λ (x : List Float). key (passed_by x (segment_of xs ys i) l (of_key j))) (sym its-part)
            ∙ passing-lower (samples_in times w) (segment_of xs ys i) l run-floor j under H.m H.run
          where
            under : T (le l (of_key j))
            under =
                let f = finite_number l run-floor in
                let e = le→key l (of_key k) f.0 ntk.0 f.1 ntk.1 O.lower.upto in
                key→le l (of_key j) f.0 nj.0 f.1 nj.1 (omega (arith, kj, kk))

        place_inside : place_on (part times ends w.clip) (line_on (segment_of xs ys i)) (key H.m) < length (part times ends w.clip)
        unfolding place_on
        place_inside = last-short (part times ends w.clip) (Knots.along (line_is (line_on (segment_of xs ys i))) (of_key (key H.m))) some-part

        pub run-says : entry_at_key set s j ≡ passing_at (part times ends w.clip) (part values ends w.clip) (part marks ends w.clip) (segment_of xs ys i) l j
        unfolding value_in_set
        run-says =
            ap (λ (r : Source). written_entry (says set s r)) (source-held ∙ read)
            ∙ sample-says (place_on (part times ends w.clip) (line_on (segment_of xs ys i)) (key H.m)) place_inside
            ∙ ap (reading_at (part times ends w.clip) (part values ends w.clip) (part marks ends w.clip) (line_on (segment_of xs ys i))) (sym passed)

      -- where it begins, the floor itself is read
      pub run-begins : passing_at (part times ends w.clip) (part values ends w.clip) (part marks ends w.clip) (segment_of xs ys i) l k ≡ reading_at (part times ends w.clip) (part values ends w.clip) (part marks ends w.clip) (line_on (segment_of xs ys i)) (key l)
      run-begins =
          ap (reading_at (part times ends w.clip) (part values ends w.clip) (part marks ends w.clip) (line_on (segment_of xs ys i)))
          (ap (λ (x : List Float). key (passed_by x (segment_of xs ys i) l (of_key k))) (sym its-part)
          ∙ passing-lower (samples_in times w) (segment_of xs ys i) l run-floor k O.lower.upto l (run-first xs ys latest (samples_in times w) w (of_key k) i l h O fit))

      pub run-passing : (e : Entry) (hi : ℕ) → Keys k hi → e ≡ reading_at (part times ends w.clip) (part values ends w.clip) (part marks ends w.clip) (line_on (segment_of xs ys i)) (key l)
          → Passing (part times ends w.clip) (part values ends w.clip) (part marks ends w.clip) (segment_of xs ys i) l e k hi
      run-passing e hi A q = record {
        reads = part-reads;
        keys = A;
        segment = segment-is;
        ground = run-floor;
        under = O.lower.upto;
        last = q ∙ sym run-begins;
      }
