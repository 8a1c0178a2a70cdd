-- What is handed on of a window: its times are the gathered ones, and what is read in it is the direct value. Assumes nothing.
use mathlib.Core.Path.{◌≡◌, refl, sym, ap, ap₂, ◌∙◌, subst}
use mathlib.Core.Bool.{Bool, true, false, not, ◌&&◌, cond}
use mathlib.Core.List.{List, [], ◌∷◌, ◌++◌}
use Prim.Native.Nat.{ℕ, suc, ◌+◌, ◌-◌, ◌<◌}
use native.Mathlib.Omega.{arith}
use lib.Dec.{T, eqb, ltb}
use lib.ListN.{length, get_or, get_elem?, take, drop}
use lib.Ieee.{Float, nan, inf, eq, lt, le}
use borrow.Author.Tests.{ltb-true, ltb-false, lt-ltb, le-ltb, eqb-false}
use Rattle.gf.proofs.KeyLaws.{key→le, key→lt, finite-no-nan}
use Rattle.gf.specs.declared.interval.Interval.{Interval}
use Rattle.definitions.specs.declared.Missing.{Missing}
use Rattle.definitions.specs.declared.Source.TheVariants.{Sample as sample}
use Rattle.definitions.specs.Lists.{any, keep}
use Rattle.definitions.specs.Doubles.{FiniteDouble}
use Rattle.definitions.specs.ClipSet.{ClipSet, stage}
use Rattle.definitions.specs.Timing.{last_at_most, active_position, map_time, map_stage_to_clip}
use Rattle.definitions.specs.Samples.{Samples, clip_begin, clip_end}
use Rattle.definitions.specs.Value.{start_of, gathered, direct_source}
use Rattle.laws.proofs.list.Tests.{is_true}
use Rattle.laws.specs.list.Every.{Every}
use Rattle.laws.proofs.list.Every.{every-at}
use Rattle.laws.specs.list.Places.{Ascending, Fits}
use Rattle.laws.proofs.cell.Places.{Clear}
use Rattle.laws.proofs.cell.Window.{inf-below, inf-above, window-below}
use Rattle.laws.specs.cell.Neighbours.{IsLower}
use Rattle.laws.proofs.cell.Lent.{sound-set, sound-samples}
use Rattle.laws.specs.cell.Lent.{active_of, knots_of, set_of, samples_of, AcceptedLists}
use Rattle.window.specs.Bounds.{inside}
use Rattle.window.specs.Inverses.{inverses_of}
use Rattle.window.specs.Parts.{part_of}
use Rattle.window.proofs.Parts.{ready-starts, ready-clip, ready-readable, ready-position}
use Rattle.window.specs.Windows.{min_of, max_of, window_of, window_part, if_own}
use Rattle.window.proofs.Windows.{next-is, next-none, gathered-is}
use Rattle.window.proofs.nearest.Beside.{finite_number, number_at, next-above, last-reached}
use Rattle.value.proofs.direct.ReadsLaws.{read_none, read_some}
use Rattle.value.specs.direct.Sources.{stand_in}
use Rattle.value.proofs.direct.Sources.{reads-own, reads-empty, reads-out}
use Rattle.window.specs.declared.search.Window.{Window}
use Rattle.window.specs.search.Latest.{LatestOf}
use Rattle.window.specs.search.Windowed.{interval_of, samples_in, next_of, window_times, window_source, Lent, Nearing}
use Rattle.value.specs.WindowOf.{WindowIs}

no_more : lt (inf false) (inf false) ≡ false
unfolding lt
no_more = refl

module _ {starts : List Float} {clips : List ℕ} {xs ys blocks : List Float} {m : Missing} {times values : List Float} {marks ends : List ℕ} (R : AcceptedLists starts clips xs ys blocks m times values marks ends) where
  abbrev set : ClipSet
  set = set_of (length ends) starts clips xs ys blocks m

  abbrev s : Samples
  s = samples_of times values marks ends

  -- ---- how a window is made

  module _ (p : ℕ) (h : p < length starts) (w : Window) (start : w.start ≡ get_or starts p nan) (clip : w.clip ≡ get_or clips p 0) (min : w.min ≡ min_of starts p) (max : w.max ≡ max_of starts p) (begin : w.begin ≡ clip_begin ends (get_or clips p 0)) where
    abbrev own : Bool
    own = not (m.interpolate && any (λ (b : Float). eq b (get_or starts p nan)) blocks)

    abbrev c : ℕ
    c = get_or clips p 0

    named : c < length ends
    named = ready-clip R p h

    -- with samples that contribute
    pub window-samples : w.end ≡ clip_end ends c → w.begin < w.end → own ≡ true → WindowIs starts clips xs ys blocks m times values marks ends p w
    unfolding window_source map_stage_to_clip
    window-samples end l o = record {
      place = h;
      start = start;
      clip = clip;
      min = min;
      max = max;
      order = omega arith;
      upto = omega (arith, (ready-readable R).inside c named);
      part = part ∙ ap (λ (b : Bool). if_own b (part_of times ends c)) (sym o);
      direct = λ t at.
          sym (reads-own R t p (sym at) h o (sample c (last_at_most (part_of times ends c) (map_time (knots_of xs ys) t))) (read_some xs ys times ends c (stage t) (ready-readable R) named (λ e. absurd (omega arith))))
          ∙ rw (lt-ltb w.begin w.end l) (ap₂ (λ (d : ℕ) (k : List Float). sample d (last_at_most k (map_time (knots_of xs ys) t))) (sym clip) (sym part));
    }
      where
        part : samples_in times w ≡ part_of times ends c
        part = ap₂ (λ (e b : ℕ). take (e - b) (drop b times)) end begin

    -- without
    pub window-gap : w.end ≡ w.begin → w.gap ≡ stand_in set s p → (ltb (clip_begin ends c) (clip_end ends c) && own) ≡ false → WindowIs starts clips xs ys blocks m times values marks ends p w
    unfolding window_source
    window-gap end gap o = record {
      place = h;
      start = start;
      clip = clip;
      min = min;
      max = max;
      order = omega arith;
      upto = omega (arith, (ready-readable R).from c named, (ready-readable R).inside c named);
      part = none_left w.end w.begin end ∙ sym (nothing own refl);
      direct = λ t at. sym (reads own refl t at) ∙ sym gap ∙ rw (le-ltb w.begin w.end (omega arith)) refl;
    }
      where
        none_left : (e b : ℕ) → e ≡ b → take (e - b) (drop b times) ≡ []
        none_left e b q = let z : e - b ≡ 0 = omega arith in rw z

        empty : own ≡ true → clip_begin ends c ≡ clip_end ends c
        empty q =
            let r : ltb (clip_begin ends c) (clip_end ends c) ≡ false = go (ltb (clip_begin ends c) (clip_end ends c)) own q o in
            omega (arith, ltb-false (clip_begin ends c) (clip_end ends c) r, (ready-readable R).from c named)
          where
            go : (a b : Bool) → b ≡ true → (a && b) ≡ false → a ≡ false
            go true b q r = absurd (differ (sym r ∙ q))
              where
                differ : false ≡ true → ⊥
                differ e = let z : ◌≡◌ {A = ℕ} 0 1 = cc in absurd (omega arith)
            go false b q r = refl

        nothing : (b : Bool) → own ≡ b → if_own b (part_of times ends c) ≡ []
        nothing true q = none_left (clip_end ends c) (clip_begin ends c) (sym (empty q))
        nothing false q = refl

        reads : (b : Bool) → own ≡ b → (t : Float) → last_at_most starts t ≡ p → stand_in set s p ≡ direct_source set s (stage t)
        reads true q t at = reads-empty R t p (sym at) h q (read_none xs ys times ends c (stage t) (empty q))
        reads false q t at = reads-out R t p (sym at) h q

  -- ---- what is known of one

  module _ (p : ℕ) (w : Window) (W : WindowIs starts clips xs ys blocks m times values marks ends p w) where
    interval-is : interval_of w ≡ window_of starts p
    interval-is = ap₂ mk W.min W.max
      where
        mk : Float → Float → Interval
        mk a b = record { min = a; max = b }

    finite-start : (i : ℕ) → i < length starts → FiniteDouble (get_or starts i nan)
    finite-start i h = every-at FiniteDouble starts i nan (ready-starts R).numbers h

    next_start : start_of (get_elem? (active_of starts clips) (suc p)) ≡ next_of w
    next_start = go (ltb (p + 1) (length starts)) refl W.max
      where
        go : (b : Bool) → ltb (p + 1) (length starts) ≡ b → w.max ≡ cond b (get_or starts (p + 1) nan) (inf false) → start_of (get_elem? (active_of starts clips) (suc p)) ≡ next_of w
        go true q e =
            let l = ltb-true (p + 1) (length starts) q in
            let f = is_true (lt (get_or starts (p + 1) nan) (inf false)) (inf-above (get_or starts (p + 1) nan) (finite-start (p + 1) l).finitely) in
            ap start_of (next-is starts clips R.starts-paired p l) ∙ rw (e, f) refl
        go false q e = ap start_of (next-none starts clips R.starts-paired p (ltb-false (p + 1) (length starts) q)) ∙ rw (e, no_more) refl

    -- its times are those that are gathered
    pub window-gathered : gathered set s p ≡ window_times xs ys (samples_in times w) w
    unfolding window_part window_times
    window-gathered =
        gathered-is R p W.place (not (m.interpolate && any (λ (b : Float). eq b (get_or starts p nan)) blocks)) refl
        ∙ ap₂ (λ (k : List Float) (n : List Float). window_part starts xs ys p k ++ n) (sym W.part) next_start
        ∙ ap₂ (λ (x : Float) (v : Interval). x ∷ ((keep (inside v) xs ++ keep (inside v) (inverses_of (knots_of xs ys) (samples_in times w))) ++ next_of w)) (sym W.start) (sym interval-is)

    pub window-lent : Lent times w
    window-lent = record { order = W.order; upto = W.upto; rising = subst Ascending (sym W.part) (go (not (m.interpolate && any (λ (b : Float). eq b (get_or starts p nan)) blocks))) }
      where
        go : (b : Bool) → Ascending (if_own b (part_of times ends (get_or clips p 0)))
        go true = (ready-readable R).rising (get_or clips p 0) (ready-clip R p W.place)
        go false = record { numbers = tt; order = tt }

    module _ (t : Float) (at : p ≡ last_at_most starts t) where
      module _ (ft : FiniteDouble t) where
        window-from : T (le w.min t)
        window-from = go (eqb p 0) refl W.min
          where
            go : (b : Bool) → eqb p 0 ≡ b → w.min ≡ cond b (inf true) (get_or starts p nan) → T (le w.min t)
            go true q e = subst (λ (x : Float). T (le x t)) (sym e) (inf-below t (finite-no-nan t ft.finitely))
            go false q e =
                let n = eqb-false p 0 q in
                let x = number_at starts (ready-starts R) p W.place in
                let y = finite_number t ft in
                subst (λ (v : Float). T (le v t)) (sym e) (key→le (get_or starts p nan) t x.0 y.0 x.1 y.1 (last-reached starts (ready-starts R) t ft p at (omega arith) W.place))

        window-upto : T (lt t w.max)
        window-upto = go (ltb (p + 1) (length starts)) refl W.max
          where
            go : (b : Bool) → ltb (p + 1) (length starts) ≡ b → w.max ≡ cond b (get_or starts (p + 1) nan) (inf false) → T (lt t w.max)
            go true q e =
                let l = ltb-true (p + 1) (length starts) q in
                let x = number_at starts (ready-starts R) (p + 1) l in
                let y = finite_number t ft in
                subst (λ (v : Float). T (lt t v)) (sym e) (key→lt t (get_or starts (p + 1) nan) y.0 x.0 y.1 x.1 (next-above starts (ready-starts R) t ft p at l))
            go false q e = subst (λ (v : Float). T (lt t v)) (sym e) (inf-above t ft.finitely)

        -- the premises of a search in it
        pub window-nears : (latest : List Float) → LatestOf xs ys latest → Nearing xs ys latest (samples_in times w) w t
        window-nears latest O = record {
          knots = (ready-readable R).knots;
          paired = R.knots-paired;
          segments = (ready-readable R).segments;
          reach = O;
          samples = window-lent.rising;
          time = ft;
          start = subst FiniteDouble (sym W.start) (finite-start p W.place);
          from = window-from;
          upto = window-upto;
        }

      -- a lower neighbour is read in the same window
      lower-place : Fits t → (l : Float) → IsLower (gathered set s p) t l → last_at_most starts l ≡ p
      unfolding set_of active_position
      lower-place ft l L =
          let q = ready-position R t p at in
          sym (ready-position R l (last_at_most starts l) refl)
          ∙ window-below set s (sound-set set R.sound) (sound-samples set s R.accepted) l t L.fits ft L.upto (subst (λ (i : ℕ). Every (Clear l t) (gathered set s i)) (sym q) L.last)
          ∙ q

      pub window-held : Fits t → (l : Float) → IsLower (gathered set s p) t l → direct_source set s (stage l) ≡ window_source xs ys times w l
      window-held ft l L = W.direct l (lower-place ft l L)
