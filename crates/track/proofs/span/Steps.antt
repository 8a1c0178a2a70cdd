-- The steps of a walk lead on by the value of the set: what each reads is what the set says there. Assumes nothing.
use Rattle.std.specs.Prelude.{Option, Some}
use mathlib.Core.Path.{◌≡◌, refl, sym, ◌∙◌, subst}
use mathlib.Core.List.{List}
use Prim.Native.Nat.{ℕ, ◌-◌, ◌<◌, min}
use native.Mathlib.Nat.{le_of_eq}
use native.Mathlib.Omega.{arith}
use lib.ListN.{length}
use lib.Ieee.{Float}
use Rattle.gf.specs.Doubles.{key, of_key}
use Rattle.gf.proofs.KeyLaws.{of_key-fits, of_key-finite}
use Rattle.definitions.specs.declared.Missing.{Missing}
use Rattle.definitions.specs.Doubles.{FiniteDouble}
use Rattle.definitions.specs.ClipSet.{ClipSet}
use Rattle.definitions.specs.Samples.{Samples}
use Rattle.definitions.specs.Timing.{last_at_most}
use Rattle.laws.specs.track.Steps.{Agree}
use Rattle.laws.specs.cell.Keys.{Keys, entry_at_key}
use Rattle.laws.specs.cell.Lent.{AcceptedLists, set_of, samples_of}
use Rattle.window.specs.declared.search.Window.{Window}
use Rattle.window.specs.search.Latest.{LatestOf}
use Rattle.window.specs.search.Windowed.{samples_in}
use Rattle.window.proofs.Parts.{ready-readable}
use Rattle.value.specs.WindowOf.{WindowIs}
use Rattle.value.specs.RunsFrom.{RunFrom}
use Rattle.value.proofs.Answers.{ready-marks}
use Rattle.value.proofs.RunsFrom.{nh}
use Rattle.cell.specs.declared.Cell.{Cell}
use Rattle.cell.specs.declared.Cell.TheVariants.{Constant, Reading}
use Rattle.cell.specs.declared.place.WindowPlace.{WindowPlace}
use Rattle.cell.specs.step.Entries.{entry_is}
use Rattle.cell.specs.CellAndEnd.{CellIn}
use Rattle.cell.specs.EndKeys.{Numbered, end_key}
use Rattle.cell.specs.WindowPlaces.{PlaceIs, PlaceAt}
use Rattle.cell.proofs.Lent.{sound, samples, place-window}
use Rattle.cell.proofs.LastKeys.{end-numbered, end_later}
use Rattle.cell.proofs.CellsRead.{CellAndEndIs, cell-asks, cell-is}
use Rattle.track.specs.declared.span.ReadBy.{ReadBy}
use Rattle.track.specs.declared.span.Step.{Step}
use Rattle.track.specs.span.Runs.{Runs, SpanIs, entry_by, StepIs}
use Rattle.track.specs.span.Knotless.{knotless_cell}
use Rattle.track.specs.span.Steps.{Readable, ReadsAt, CellStep, CellStepAsks, FoundStep, RunAsks, RunStep}
use Rattle.track.proofs.span.Spans.{Told, told-sayable, told_here, told-runs, told-says, piece-told}
use Rattle.track.proofs.span.KnotlessLaws.{plain-number, plain-later, plain-told}
use Rattle.track.proofs.span.RunsFrom.{clip-named, part-reads, run-above, run-floor, run-says, run-begins, run-passing}

-- what can be run along can be read
readable : (times values : List Float) (marks ends : List ℕ) (c : Cell) (k hi : ℕ) → Runs times values marks ends c k hi → Readable times ends c
readable times values marks ends (Constant r) k hi R = tt
readable times values marks ends (Reading c line) k hi R = record { clip = R.clip; from = R.from; inside = R.inside; rising = R.reads.ascending }

module _ {starts : List Float} {clips : List ℕ} {xs ys blocks : List Float} {m : Missing} {times values : List Float} {marks ends : List ℕ} (R : AcceptedLists starts clips xs ys blocks m times values marks ends) (k top : ℕ) (K : Keys k top) (at : WindowPlace)
    (A : PlaceAt starts clips xs ys blocks m times values marks ends (of_key k) at.start at.window) where
  abbrev set : ClipSet
  set = set_of (length ends) starts clips xs ys blocks m

  abbrev s : Samples
  s = samples_of times values marks ends

  abbrev w : Window
  w = at.window

  point : Keys k k
  point = record { low = K.low; order = le_of_eq refl; high = omega (arith, K.order, K.high) }

  finite-key : FiniteDouble (of_key k)
  finite-key = record { fitting = of_key-fits k; finitely = of_key-finite k point.low point.high }

  -- ---- in a cell that reads the value up to its end

  module _ (c : Cell) (e : Option Float) (D : Told set s k (min top (end_key e - 1)) c) where
    reads_at : Numbered e → k < end_key e → ReadsAt times values marks ends c e k
    reads_at n l = record {
      point = point;
      read = readable times values marks ends c k (min top (end_key e - 1)) (told-runs R k (min top (end_key e - 1)) c D);
      said = told-sayable R k (min top (end_key e - 1)) c D;
      flagged = ready-marks R;
      number = n;
      later = l;
    }

    told-step : (r : Step) → CellStep m times values marks ends c e at k top r → StepIs starts clips xs ys blocks m times values marks ends k top r
    told-step r S = record {
      span = record {
        keys = subst (Keys k) (sym S.upto) D.keys;
        within = omega (arith, S.upto);
        here = here;
        runs = subst (λ (y : ReadBy). SpanIs times values marks ends y (entry_is r.span.here) k r.span.hi) (sym S.way) (subst (Runs times values marks ends c k) (sym S.upto) (told-runs R k (min top (end_key e - 1)) c D));
        says = subst (λ (y : ReadBy). Agree k r.span.hi (entry_at_key set s) (entry_by times values marks ends y (entry_is r.span.here))) (sym S.way)
            (λ j x y. told-says R k (min top (end_key e - 1)) c D (entry_is r.span.here) here j x (omega (arith, S.upto)));
      };
      place = subst (λ (p : ℕ). PlaceIs starts clips xs ys blocks m times values marks ends p r.place.window) (sym S.start) (subst (PlaceIs starts clips xs ys blocks m times values marks ends at.start) (sym S.window) A.is);
    }
      where
        here : entry_is r.span.here ≡ entry_at_key set s k
        here = S.here ∙ told_here R k (min top (end_key e - 1)) c D

  -- ---- in the cell that is found

  module _ (c : Cell) (e : Option Float) (F : CellIn starts xs ys times w (of_key k) c e) where
    piece : CellAndEndIs set s (of_key k) c e
    piece = cell-is R (of_key k) finite-key at.start w A c e F

    found-reads : ReadsAt times values marks ends c e k
    found-reads =
        reads_at c e (piece-told R k top K c e piece) (end-numbered set s (sound R) (samples R) k top K e piece.ends) (end_later set s (sound R) (samples R) k top K e piece.ends)

  pub cell-step-asks : (latest : List Float) → LatestOf xs ys latest → CellStepAsks starts xs ys times values latest marks ends at.window k
  cell-step-asks latest L = record { point = point; search = cell-asks R (of_key k) finite-key at.start w A latest L; reads = found-reads }

  pub found-step : (r : Step) → FoundStep starts xs ys m times values marks ends at k top r → StepIs starts clips xs ys blocks m times values marks ends k top r
  found-step r S = told-step S.cell S.end (piece-told R k top K S.cell S.end (piece S.cell S.end S.found)) r S.step

  -- ---- with several starts

  module _ (many : 1 < length starts) where
    window : WindowIs starts clips xs ys blocks m times values marks ends at.start at.window
    window = place-window R (of_key k) finite-key at.start w A (omega arith)

    placed : at.start ≡ last_at_most starts (of_key k)
    placed = A.place (omega arith)

    -- without knots
    module _ (none : length xs ≡ 0) where
      told : Told set s k (min top (end_key (Some at.window.max) - 1)) (knotless_cell at.window)
      told = plain-told R none many at.start w window k top K placed

      pub knotless-asks : ReadsAt times values marks ends (knotless_cell at.window) (Some at.window.max) k
      knotless-asks = reads_at (knotless_cell w) (Some w.max) told (plain-number R none many at.start w window k top K placed) (plain-later R none many at.start w window k top K placed)

      pub knotless-steps : (r : Step) → CellStep m times values marks ends (knotless_cell at.window) (Some at.window.max) at k top r → StepIs starts clips xs ys blocks m times values marks ends k top r
      knotless-steps r S = told-step (knotless_cell w) (Some w.max) told r S

    -- past a run
    module _ (full : at.window.begin < at.window.end) (latest : List Float) (i : ℕ) (l h : Float) (O : RunFrom xs ys latest (samples_in times at.window) at.window (of_key k) i l h) where
      clip-there : w.clip < length ends
      clip-there = clip-named R at.start w window full

      above : k < key h
      above = run-above R at.start w window full many latest k point i l h O

      pub run-asks : RunAsks xs ys times values marks ends at.window.clip i l h
      run-asks = record {
        paired = R.knots-paired;
        place = O.here.place;
        clip = clip-there;
        from = (ready-readable R).from w.clip clip-there;
        inside = (ready-readable R).inside w.clip clip-there;
        valued = R.accepted.values;
        flagged = R.accepted.marks;
        reads = part-reads R at.start w window full;
        ground = run-floor R at.start w window full many latest k point i l h O;
        number = (nh xs ys latest (samples_in times w) w (of_key k) i l h O).1;
        later = omega (arith, above);
      }

      pub run-steps : (n : ℕ) (r : Step) → RunStep xs ys times values marks ends at i l h n top r → StepIs starts clips xs ys blocks m times values marks ends k top r
      run-steps n r S = record {
        span = record {
          keys = keys;
          within = omega (arith, S.upto);
          here = S.here ∙ sym (run-begins R at.start w window full many latest k point i l h O) ∙ sym (run-says R at.start w window full many latest k point i l h O k (le_of_eq refl) above point.high);
          runs = subst (λ (y : ReadBy). SpanIs times values marks ends y (entry_is r.span.here) k r.span.hi) (sym S.way) record {
            clip = clip-there;
            from = run-asks.from;
            inside = run-asks.inside;
            valued = run-asks.valued;
            flagged = run-asks.flagged;
            passing = run-passing R at.start w window full many latest k point i l h O (entry_is r.span.here) r.span.hi keys S.here;
          };
          says = subst (λ (y : ReadBy). Agree k r.span.hi (entry_at_key set s) (entry_by times values marks ends y (entry_is r.span.here))) (sym S.way)
              (λ j x y. run-says R at.start w window full many latest k point i l h O j x (omega (arith, above, S.upto)) (omega (arith, keys.high)));
        };
        place = subst (λ (p : ℕ). PlaceIs starts clips xs ys blocks m times values marks ends p r.place.window) (sym S.start) (subst (PlaceIs starts clips xs ys blocks m times values marks ends at.start) (sym S.window) A.is);
      }
        where
          keys : Keys k r.span.hi
          keys = record { low = K.low; order = omega (arith, K.order, above, S.upto); high = omega (arith, K.high, S.upto) }
