-- The cell that is found in the window of a time is the one that the laws of cells name. Assumes nothing.
use Rattle.std.specs.Prelude.{Option, None, Some}
use mathlib.Core.Path.{◌≡◌, refl, sym, ap, ◌∙◌, subst}
use mathlib.Core.Bool.{Bool, true, false, not, ◌&&◌, cond}
use mathlib.Core.List.{List, [], ◌∷◌}
use mathlib.Core.Option.{none, some}
use Prim.Native.Nat.{ℕ, ◌-◌, ◌≤◌, ◌<◌}
use native.Mathlib.Omega.{arith}
use native.Mathlib.Decide.{dec_le}
use lib.Dec.{eqb, ltb}
use lib.ListN.{length, get_or, get_elem?, drop, length-drop}
use lib.Seq.{length-take-le}
use lib.Ieee.{Float, nan, eq}
use borrow.Author.Tests.{lt-ltb, le-ltb, ltb-true, ltb-false, eqb-true, eqb-false}
use Rattle.definitions.specs.declared.Start.{Start}
use Rattle.definitions.specs.declared.Missing.{Missing}
use Rattle.definitions.specs.declared.Source.{Source}
use Rattle.definitions.specs.declared.Source.TheVariants.{Absent}
use Rattle.definitions.specs.Lists.{any}
use Rattle.definitions.specs.Doubles.{FiniteDouble}
use Rattle.definitions.specs.ClipSet.{ClipSet, knot_times, stage}
use Rattle.definitions.specs.Timing.{last_at_most, active_position}
use Rattle.definitions.specs.Samples.{Samples, clip_times}
use Rattle.definitions.specs.Value.{contributes, blocked_at, manifest_default, gap_source, ◌or_else◌, direct_source, gathered, jump}
use Rattle.laws.specs.cell.Knots.{line_of}
use Rattle.laws.specs.cell.Stretches.{several_starts, boundaries}
use Rattle.laws.specs.cell.Cells as Cells
use Rattle.laws.proofs.cell.Cells as Cells-laws
use Rattle.laws.specs.cell.Neighbours.{IsLower, IsUpper}
use Rattle.laws.proofs.cell.Neighbours.{cell-held, cell-jump, cell_below, cell-last, cell-few}
use Rattle.laws.specs.cell.Lent.{AcceptedLists, set_of, samples_of, knots_of, start}
use Rattle.laws.proofs.cell.Lent.{knot-times}
use Rattle.window.specs.declared.Neighbours.{Neighbours}
use Rattle.window.specs.Bounds.{LowerIs, UpperIs, NeighboursAre}
use Rattle.window.specs.Parts.{part_of}
use Rattle.window.proofs.Parts.{ready-clip, ready-readable}
use Rattle.window.specs.Windows.{if_own}
use Rattle.cell.specs.declared.step.line.Line.{Line}
use Rattle.cell.specs.step.Lines.{line_is}
use Rattle.window.specs.declared.search.Window.{Window}
use Rattle.window.specs.search.Latest.{LatestOf}
use Rattle.window.specs.search.Windowed.{samples_in, window_times, window_source}
use Rattle.value.specs.Jumps.{jump_in}
use Rattle.value.proofs.Jumps.{jump-by-x}
use Rattle.value.specs.WindowOf.{WindowIs}
use Rattle.value.proofs.WindowOf.{window-gathered, window-lent, window-nears, window-held}
use Rattle.cell.specs.declared.Cell.{Cell}
use Rattle.cell.specs.declared.Cell.TheVariants.{Constant, Reading}
use Rattle.cell.specs.CellAndEnd.{cell_is, held_of, direct_in, cell_by, CellAsks, CellBetween, CellIn}
use Rattle.cell.specs.WindowPlaces.{PlaceAt}
use Rattle.cell.proofs.Lent.{sound, samples, several, position, start-at, place-window}

-- ---- a cell of the set

-- the clip that is read is one of the set's, and it has samples
abbrev pub Sampled : ClipSet → Samples → Cell → Type 0
Sampled set s (Constant r) = Unit {0}
Sampled set s (Reading c line) = (c < set.clips) × (0 < length (clip_times s c))

-- the cell of the direct reading at t
pub record DirectIs (set : ClipSet) (s : Samples) (t : Float) (c : Cell) : Type 0 where
  pub is : cell_is c ≡ Cells.direct_cell set s (stage t)
  pub clip : Sampled set s c

-- the cell of t, and its end
pub record CellAndEndIs (set : ClipSet) (s : Samples) (t : Float) (c : Cell) (e : Option Float) : Type 0 where
  pub is : cell_is c ≡ Cells.cell_of set s (stage t)
  pub clip : Sampled set s c
  pub ends : UpperIs (boundaries set s (stage t)) t e

constant-is : (c : Cell) (r : Source) → cell_is c ≡ Cells.constant r → Constant r ≡ c
constant-is (Constant q) r e = let z : q ≡ r = cc in ap Constant (sym z)
constant-is (Reading k line) r e = let z : ◌≡◌ {A = ℕ} 0 1 = cc in absurd (omega arith)

-- ---- the cell of the direct reading

module _ (set : ClipSet) (s : Samples) (t : Float) (p : ℕ) (at : active_position set.active (stage t) ≡ p) where
  no_start : get_elem? set.active p ≡ none → Cells.direct_cell set s (stage t) ≡ Cells.constant Absent
  unfolding Cells.direct_cell
  no_start e = rw (at, e)

  module _ (a : Start) (e : get_elem? set.active p ≡ some a) where
    reads : contributes set a ≡ true → (x : Float) (l : List Float) → clip_times s a.clip ≡ x ∷ l → Cells.direct_cell set s (stage t) ≡ Cells.reading a.clip (line_of set.knots t)
    unfolding Cells.direct_cell
    reads f x l g = rw (at, e, f, g)

    blocked : contributes set a ≡ false → Cells.direct_cell set s (stage t) ≡ Cells.constant (manifest_default set or_else gap_source set s p)
    unfolding Cells.direct_cell
    blocked f = rw (at, e, f)

    empty : contributes set a ≡ true → clip_times s a.clip ≡ [] → Cells.direct_cell set s (stage t) ≡ Cells.constant (manifest_default set or_else gap_source set s p)
    unfolding Cells.direct_cell
    empty f g = rw (at, e, f, g)

module _ {starts : List Float} {clips : List ℕ} {xs ys blocks : List Float} {m : Missing} {times values : List Float} {marks ends : List ℕ} (R : AcceptedLists starts clips xs ys blocks m times values marks ends) (t : Float) where
  abbrev ready : ClipSet
  ready = set_of (length ends) starts clips xs ys blocks m

  abbrev lent : Samples
  lent = samples_of times values marks ends

  -- ---- directly

  direct-absent : length starts ≡ 0 → DirectIs (set_of (length ends) starts clips xs ys blocks m) (samples_of times values marks ends) t (Constant Absent)
  direct-absent h = record { is = sym (no_start ready lent t (last_at_most starts t) (position R t) (none-at starts clips h)); clip = tt }
    where
      none-at : (l : List Float) (k : List ℕ) → length l ≡ 0 → get_elem? (set_of (length ends) l k xs ys blocks m).active (last_at_most starts t) ≡ none
      none-at [] k h = unfold set_of in refl
      none-at (x ∷ l) k h = absurd (omega arith)

  -- by the window
  module _ (p : ℕ) (w : Window) (W : WindowIs starts clips xs ys blocks m times values marks ends p w) (at : p ≡ last_at_most starts t) where
    -- the active start and its clip
    abbrev active : Start
    active = start (get_or starts p nan) (get_or clips p 0)

    abbrev test : Bool
    test = not (m.interpolate && any (λ (b : Float). eq b (get_or starts p nan)) blocks)

    contributing : contributes ready active ≡ test
    unfolding contributes blocked_at set_of
    contributing = refl

    place : active_position ready.active (stage t) ≡ p
    place = position R t ∙ sym at

    its-part : (b : Bool) → test ≡ b → samples_in times w ≡ if_own b (clip_times lent (get_or clips p 0))
    unfolding clip_times
    its-part b e = W.part ∙ ap (λ (q : Bool). if_own q (part_of times ends (get_or clips p 0))) e

    its-length : length (samples_in times w) ≡ w.end - w.begin
    its-length = let u = W.upto in length-take-le (w.end - w.begin) (drop w.begin times) (rw (length-drop w.begin times) (omega arith))

    direct-reads : (line : Line) → line_is line ≡ line_of (knots_of xs ys) t → w.begin < w.end
        → DirectIs (set_of (length ends) starts clips xs ys blocks m) (samples_of times values marks ends) t (Reading w.clip line)
    direct-reads line l h = subst (λ (c : ℕ). DirectIs ready lent t (Reading c line)) (sym W.clip) (go test refl)
      where
        knots-are : line_of (knots_of xs ys) t ≡ line_of ready.knots t
        knots-are = unfold set_of in refl

        below : get_or clips p 0 < ready.clips
        below = unfold set_of in ready-clip R p W.place

        reading-part : test ≡ true → (k : List Float) → clip_times lent (get_or clips p 0) ≡ k → 0 < length k → DirectIs ready lent t (Reading (get_or clips p 0) line)
        reading-part f [] g n = absurd (omega arith)
        reading-part f (x ∷ k) g n = record {
          is = ap (Cells.reading (get_or clips p 0)) (l ∙ knots-are) ∙ sym (reads ready lent t p place active (start-at R p W.place) (contributing ∙ f) x k g);
          clip = (below, rw g (omega arith));
        }

        go : (b : Bool) → test ≡ b → DirectIs ready lent t (Reading (get_or clips p 0) line)
        go true f = reading-part f (clip_times lent (get_or clips p 0)) refl (let n = its-length in let e = ap length (its-part true f) in omega arith)
        go false f = let n = its-length in let e = ap length (its-part false f) in absurd (omega arith)

    -- without samples its gap is what stands in for them
    module _ (h : w.end ≤ w.begin) where
      abbrev rest : Source
      rest = manifest_default ready or_else gap_source ready lent p

      gap-cell : Cells.direct_cell ready lent (stage t) ≡ Cells.constant (manifest_default ready or_else gap_source ready lent p)
      gap-cell = go test refl
        where
          none-there : (k : List Float) → length k ≡ 0 → k ≡ []
          none-there [] e = refl
          none-there (x ∷ k) e = absurd (omega arith)

          go : (b : Bool) → test ≡ b → Cells.direct_cell ready lent (stage t) ≡ Cells.constant rest
          go true f = empty ready lent t p place active (start-at R p W.place) (contributing ∙ f)
              (none-there (clip_times lent (get_or clips p 0)) (let n = its-length in let e = ap length (its-part true f) in omega arith))
          go false f = blocked ready lent t p place active (start-at R p W.place) (contributing ∙ f)

      pub gap-stands : w.gap ≡ (manifest_default (set_of (length ends) starts clips xs ys blocks m) or_else gap_source (set_of (length ends) starts clips xs ys blocks m) (samples_of times values marks ends) p)
      unfolding window_source Cells-laws.read_cell
      gap-stands = sym (sym read ∙ sym (Cells-laws.direct-reads ready lent t) ∙ W.direct t (sym at) ∙ gap-read)
        where
          gap-read : window_source xs ys times w t ≡ w.gap
          gap-read = rw (le-ltb w.begin w.end h)

          read : Cells-laws.read_cell lent (Cells.direct_cell ready lent (stage t)) t ≡ rest
          read = ap (λ (c : Cells.Cell). Cells-laws.read_cell lent c t) gap-cell

      direct-gap : DirectIs (set_of (length ends) starts clips xs ys blocks m) (samples_of times values marks ends) t (Constant w.gap)
      direct-gap = record { is = ap Cells.constant gap-stands ∙ sym gap-cell; clip = tt }

    direct-window : (c : Cell) → cell_is c ≡ cond (ltb w.begin w.end) (Cells.reading w.clip (line_of (knots_of xs ys) t)) (Cells.constant w.gap) → DirectIs ready lent t c
    direct-window c e = go (ltb w.begin w.end) refl c e
      where
        go : (b : Bool) → ltb w.begin w.end ≡ b → (c : Cell) → cell_is c ≡ cond b (Cells.reading w.clip (line_of (knots_of xs ys) t)) (Cells.constant w.gap) → DirectIs ready lent t c
        go true h (Constant r) q = let z : ◌≡◌ {A = ℕ} 0 1 = cc in absurd (omega arith)
        go true h (Reading k line) q =
            let z : w.clip ≡ k = cc in
            let l : line_is line ≡ line_of (knots_of xs ys) t = cc in
            subst (λ (d : ℕ). DirectIs ready lent t (Reading d line)) z (direct-reads line l (ltb-true w.begin w.end h))
        go false h d q = subst (DirectIs ready lent t) (constant-is d w.gap q) (direct-gap (let l = ltb-false w.begin w.end h in omega arith))

  -- ---- up to its end

  piece-few : (c : Cell) (e : Option Float) → length starts < 2 → DirectIs (set_of (length ends) starts clips xs ys blocks m) (samples_of times values marks ends) t c → UpperIs xs t e
      → CellAndEndIs (set_of (length ends) starts clips xs ys blocks m) (samples_of times values marks ends) t c e
  piece-few c e h d u = record { is = d.is ∙ sym (cell-few ready lent one t); clip = d.clip; ends = subst (λ (l : List Float). UpperIs l t e) (sym knots-only) u }
    where
      one : several_starts ready ≡ false
      one = several R ∙ le-ltb 1 (length starts) (omega arith)

      knots-only : boundaries ready lent (stage t) ≡ xs
      knots-only = few ∙ (unfold set_of in knot-times xs ys R.knots-paired)
        where
          few : boundaries ready lent (stage t) ≡ knot_times ready.knots
          few = unfold boundaries in rw one

  module _ (ft : FiniteDouble t) (many : 1 < length starts) (p : ℕ) (at : p ≡ last_at_most starts t) where
    two : several_starts ready ≡ true
    two = several R ∙ lt-ltb 1 (length starts) many

    placed : p ≡ active_position ready.active (stage t)
    placed = at ∙ sym (position R t)

    bounds : gathered ready lent p ≡ boundaries ready lent (stage t)
    unfolding boundaries
    bounds = rw two (ap (gathered ready lent) placed)

    window : gathered ready lent p ≡ gathered ready lent (active_position ready.active (stage t))
    window = ap (gathered ready lent) placed

    upper : (e : Option Float) → UpperIs (gathered ready lent p) t e → UpperIs (boundaries ready lent (stage t)) t e
    upper e u = subst (λ (l : List Float). UpperIs l t e) bounds u

    piece-last : (c : Cell) → DirectIs (set_of (length ends) starts clips xs ys blocks m) (samples_of times values marks ends) t c
        → UpperIs (gathered (set_of (length ends) starts clips xs ys blocks m) (samples_of times values marks ends) p) t None
        → CellAndEndIs (set_of (length ends) starts clips xs ys blocks m) (samples_of times values marks ends) t c None
    piece-last c d u = record {
      is = d.is ∙ sym (cell-last ready lent (sound R) (samples R) two t ft.fitting (subst (λ (l : List Float). UpperIs l t None) window u));
      clip = d.clip;
      ends = upper None u;
    }

    module _ (h : Float) (u : UpperIs (gathered (set_of (length ends) starts clips xs ys blocks m) (samples_of times values marks ends) p) t (Some h)) where
      piece-below : (c : Cell) → DirectIs (set_of (length ends) starts clips xs ys blocks m) (samples_of times values marks ends) t c
          → LowerIs (gathered (set_of (length ends) starts clips xs ys blocks m) (samples_of times values marks ends) p) t None
          → CellAndEndIs (set_of (length ends) starts clips xs ys blocks m) (samples_of times values marks ends) t c (Some h)
      piece-below c d n = record {
        is = d.is ∙ sym (cell_below ready lent (sound R) (samples R) two t ft.fitting (subst (λ (l : List Float). LowerIs l t None) window n));
        clip = d.clip;
        ends = upper (Some h) u;
      }

      module _ (l : Float) (w : LowerIs (gathered (set_of (length ends) starts clips xs ys blocks m) (samples_of times values marks ends) p) t (Some l)) where
        L : IsLower (gathered ready lent (active_position ready.active (stage t))) t l
        L = subst (λ (k : List Float). IsLower k t l) window w

        U : IsUpper (gathered ready lent (active_position ready.active (stage t))) t h
        U = subst (λ (k : List Float). IsUpper k t h) window u

        jumping : (b : Bool) → jump_in xs l h ≡ b → jump ready.knots l h ≡ b
        unfolding set_of
        jumping b e = jump-by-x l h xs ys R.knots-paired ∙ e

        piece-jump : (c : Cell) → DirectIs (set_of (length ends) starts clips xs ys blocks m) (samples_of times values marks ends) t c
            → jump_in xs l h ≡ true
            → CellAndEndIs (set_of (length ends) starts clips xs ys blocks m) (samples_of times values marks ends) t c (Some h)
        piece-jump c d j = record {
          is = d.is ∙ sym (cell-jump ready lent (sound R) (samples R) two t ft.fitting l h L U (jumping true j));
          clip = d.clip;
          ends = upper (Some h) u;
        }

        piece-held : (r : Source) → r ≡ direct_source (set_of (length ends) starts clips xs ys blocks m) (samples_of times values marks ends) (stage l)
            → jump_in xs l h ≡ false
            → CellAndEndIs (set_of (length ends) starts clips xs ys blocks m) (samples_of times values marks ends) t (Constant r) (Some h)
        piece-held r e j = record {
          is = ap Cells.constant e ∙ sym (cell-held ready lent (sound R) (samples R) two t ft.fitting l h L U (jumping false j));
          clip = tt;
          ends = upper (Some h) u;
        }

    -- by the neighbours

    module _ (n : Neighbours) (N : NeighboursAre (gathered (set_of (length ends) starts clips xs ys blocks m) (samples_of times values marks ends) p) t n) where
      piece-direct : (c : Cell) → held_of xs n.lower n.upper ≡ None → DirectIs (set_of (length ends) starts clips xs ys blocks m) (samples_of times values marks ends) t c
          → CellAndEndIs (set_of (length ends) starts clips xs ys blocks m) (samples_of times values marks ends) t c n.upper
      piece-direct c e d = go n.lower n.upper N.lower N.upper e
        where
          go : (l h : Option Float) → LowerIs (gathered ready lent p) t l → UpperIs (gathered ready lent p) t h → held_of xs l h ≡ None → CellAndEndIs ready lent t c h
          go None None w u q = piece-last c d u
          go None (Some h) w u q = piece-below h u c d w
          go (Some l) None w u q = piece-last c d u
          go (Some l) (Some h) w u q = piece-jump h u l w c d (jumped (jump_in xs l h) q)
            where
              jumped : (b : Bool) → cond b None (Some l) ≡ None → b ≡ true
              jumped true q = refl
              jumped false q = let z : ◌≡◌ {A = ℕ} 0 1 = cc in absurd (omega arith)

      pub piece-constant : (f : Float) (r : Source) → held_of xs n.lower n.upper ≡ Some f → r ≡ direct_source (set_of (length ends) starts clips xs ys blocks m) (samples_of times values marks ends) (stage f)
          → CellAndEndIs (set_of (length ends) starts clips xs ys blocks m) (samples_of times values marks ends) t (Constant r) n.upper
      piece-constant f r e d = go n.lower n.upper N.lower N.upper e
        where
          none-held : None ≡ Some f → ⊥
          none-held q = let z : ◌≡◌ {A = ℕ} 0 1 = cc in absurd (omega arith)

          go : (l h : Option Float) → LowerIs (gathered ready lent p) t l → UpperIs (gathered ready lent p) t h → held_of xs l h ≡ Some f → CellAndEndIs ready lent t (Constant r) h
          go None h w u q = absurd (none-held q)
          go (Some l) None w u q = absurd (none-held q)
          go (Some l) (Some h) w u q = let k = held (jump_in xs l h) q in piece-held h u l w r (d ∙ ap (λ (x : Float). direct_source ready lent (stage x)) (sym k.1)) k.0
            where
              held : (b : Bool) → cond b None (Some l) ≡ Some f → (b ≡ false) × (l ≡ f)
              held true q = absurd (none-held q)
              held false q = (refl, cc)

    -- by the neighbours in the window

    module _ (w : Window) (W : WindowIs starts clips xs ys blocks m times values marks ends p w) (n : Neighbours) (N : NeighboursAre (window_times xs ys (samples_in times w) w) t n) where
      among : NeighboursAre (gathered ready lent p) t n
      among = subst (λ (l : List Float). NeighboursAre l t n) (sym (window-gathered R p w W)) N

      near-direct : (c : Cell) → held_of xs n.lower n.upper ≡ None → DirectIs (set_of (length ends) starts clips xs ys blocks m) (samples_of times values marks ends) t c
          → CellAndEndIs (set_of (length ends) starts clips xs ys blocks m) (samples_of times values marks ends) t c n.upper
      near-direct c e d = piece-direct n among c e d

      near-held : (f : Float) (r : Source) → held_of xs n.lower n.upper ≡ Some f → r ≡ window_source xs ys times w f
          → CellAndEndIs (set_of (length ends) starts clips xs ys blocks m) (samples_of times values marks ends) t (Constant r) n.upper
      near-held f r e q = piece-constant n among f r e (q ∙ sym (window-held R p w W t at ft.fitting f (lower n.lower n.upper e among.lower)))
        where
          differ : {B : Type 0} → None ≡ Some f → B
          differ z = let y : ◌≡◌ {A = ℕ} 0 1 = cc in absurd (omega arith)

          picked : (b : Bool) (l : Float) → cond b None (Some l) ≡ Some f → l ≡ f
          picked true l z = differ z
          picked false l z = cc

          lower : (l h : Option Float) → held_of xs l h ≡ Some f → LowerIs (gathered ready lent p) t l → IsLower (gathered ready lent p) t f
          lower None h z L = differ z
          lower (Some l) None z L = differ z
          lower (Some l) (Some h) z L = subst (IsLower (gathered ready lent p) t) (picked (jump_in xs l h) l z) L

-- ---- in the window of t

module _ {starts : List Float} {clips : List ℕ} {xs ys blocks : List Float} {m : Missing} {times values : List Float} {marks ends : List ℕ} (R : AcceptedLists starts clips xs ys blocks m times values marks ends) (t : Float) (ft : FiniteDouble t) (p : ℕ) (w : Window) (A : PlaceAt starts clips xs ys blocks m times values marks ends t p w) where
  abbrev whole : ClipSet
  whole = set_of (length ends) starts clips xs ys blocks m

  abbrev all : Samples
  all = samples_of times values marks ends

  its-window : 0 < length starts → WindowIs starts clips xs ys blocks m times values marks ends p w
  its-window h = place-window R t ft p w A h

  -- the search may begin
  pub cell-asks : (latest : List Float) → LatestOf xs ys latest → CellAsks starts xs ys times latest w t
  cell-asks latest L = record {
    knots = (ready-readable R).knots;
    paired = R.knots-paired;
    time = ft;
    lent = λ h. window-lent R p w (its-window (omega arith));
    nears = λ h. window-nears R p w (its-window (omega arith)) t (A.place (omega arith)) ft latest L;
  }

  direct_is : (c : Cell) → cell_is c ≡ direct_in starts xs ys w t → DirectIs whole all t c
  direct_is c e = go (eqb (length starts) 0) refl e
    where
      go : (b : Bool) → eqb (length starts) 0 ≡ b
          → cell_is c ≡ cond b (Cells.constant Absent) (cond (ltb w.begin w.end) (Cells.reading w.clip (line_of (knots_of xs ys) t)) (Cells.constant w.gap))
          → DirectIs whole all t c
      go true h q = subst (DirectIs whole all t) (constant-is c Absent q) (direct-absent R t (eqb-true (length starts) 0 h))
      go false h q = let n : 0 < length starts = (let z = eqb-false (length starts) 0 h in omega arith) in direct-window R t p w (its-window n) (A.place n) c q

  -- what it finds is the cell of t
  pub cell-is : (c : Cell) (e : Option Float) → CellIn starts xs ys times w t c e → CellAndEndIs (set_of (length ends) starts clips xs ys blocks m) (samples_of times values marks ends) t c e
  cell-is c e N = elim (dec_le 2 (length starts)) [
    | yes h ↦ between h (N.many h)
    | no h ↦ let D = N.few (omega arith) in piece-few R t c e (omega arith) (direct_is c D.is) D.ends
  ]
    where
      between : 1 < length starts → CellBetween starts xs ys times w t c e → CellAndEndIs whole all t c e
      between h B = subst (CellAndEndIs whole all t c) (sym B.ends) (go (held_of xs B.bounds.lower B.bounds.upper) refl B.is)
        where
          W : WindowIs starts clips xs ys blocks m times values marks ends p w
          W = its-window (omega arith)

          at : p ≡ last_at_most starts t
          at = A.place (omega arith)

          go : (o : Option Float) → held_of xs B.bounds.lower B.bounds.upper ≡ o → cell_is c ≡ cell_by starts xs ys times w t o → CellAndEndIs whole all t c B.bounds.upper
          go None q i = near-direct R t ft h p at w W B.bounds B.near c q (direct_is c i)
          go (Some f) q i =
              subst (λ (d : Cell). CellAndEndIs whole all t d B.bounds.upper) (constant-is c (window_source xs ys times w f) i)
              (near-held R t ft h p at w W B.bounds B.near f (window_source xs ys times w f) q refl)
