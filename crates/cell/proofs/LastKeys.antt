-- The cell of a key by the piece there: its last key, and the place that it reads. Assumes nothing.
use Rattle.std.specs.Prelude.{Option, None, Some}
use mathlib.Core.Path.{◌≡◌, refl, sym, ap, ◌∙◌, subst}
use mathlib.Core.Bool.{not}
use mathlib.Core.List.{List}
use mathlib.Core.Option.{Option as MathOption, none, some}
use Prim.Native.Nat.{ℕ, ◌-◌, ◌<◌, min}
use native.Mathlib.Omega.{arith}
use lib.Dec.{T}
use lib.Ieee.{Float, is_nan}
use Rattle.gf.specs.Doubles.{key, of_key}
use Rattle.gf.proofs.KeyLaws.{of_key-fits, of_key-no-nan, le→key, le-no-nan}
use Rattle.definitions.specs.ClipSet.{ClipSet, stage}
use Rattle.definitions.specs.Samples.{Samples, clip_times}
use Rattle.definitions.specs.Timing.{last_at_most}
use Rattle.laws.specs.list.Every.{Every}
use Rattle.laws.specs.list.Places.{Fits}
use Rattle.laws.specs.cell.Knots as Knots
use Rattle.laws.proofs.cell.Direct.{SoundSet, SoundSamples}
use Rattle.laws.specs.cell.Stretches.{boundaries}
use Rattle.laws.proofs.cell.Stretches.{boundaries-fit}
use Rattle.laws.specs.cell.Cells.{Cell, reading, cell_of}
use Rattle.laws.proofs.cell.Cells.{cell_place}
use Rattle.laws.proofs.cell.Ends.{end-above}
use Rattle.laws.proofs.cell.Neighbours.{upper-found, upper-none}
use Rattle.laws.specs.cell.Keys.{Keys}
use Rattle.laws.proofs.cell.Keys.{NonePassed, cell_place_at, last_in, end_at, end-key, last-keys, end-clear}
use Rattle.window.specs.Bounds.{UpperIs}
use Rattle.cell.specs.declared.step.line.Line.{Line}
use Rattle.cell.specs.step.Lines.{line_is, place_on}
use Rattle.cell.specs.EndKeys.{Numbered, end_key}

module _ (set : ClipSet) (s : Samples) (S : SoundSet set) (A : SoundSamples s) (k top : ℕ) (K : Keys k top) (b : Option Float) (U : UpperIs (boundaries set s (stage (of_key k))) (of_key k) b) where
  abbrev times : List Float
  times = boundaries set s (stage (of_key k))

  fit : Every Fits times
  fit = boundaries-fit set s S A (stage (of_key k))

  number : T (not (is_nan (of_key k)))
  number = of_key-no-nan k K.low (let a = K.order in let c = K.high in omega arith)

  -- ---- the end by its key

  -- what an end is by the laws, with the same key
  abbrev SameEnd : Option Float → MathOption Float → Type 0
  SameEnd (Some h) o = (e : Float) × (o ≡ some e) × (key h ≡ key e) × T (not (is_nan h))
  SameEnd None o = o ≡ none

  same_end : (c : Option Float) → UpperIs times (of_key k) c → SameEnd c (end_at set s k)
  same_end (Some h) u =
      let m = upper-found times fit (of_key k) (of_key-fits k) h u in
      let f = (end-above times fit (of_key k) (of_key-fits k) number m.0 m.1).0 in
      let n = le-no-nan h m.0 m.2.0 in
      let p = le→key h m.0 u.fits f n.0 n.1 m.2.0 in
      let q = le→key m.0 h f u.fits n.1 n.0 m.2.1 in
      (m.0, m.1, omega arith, n.0)
  same_end None u = upper-none times fit (of_key k) (of_key-fits k) u

  pub end-numbered : Numbered b
  end-numbered = go b (same_end b U)
    where
      go : (c : Option Float) → SameEnd c (end_at set s k) → Numbered c
      go (Some h) e = e.3
      go None e = tt

  pub end_later : k < end_key b
  end_later = go b (same_end b U)
    where
      go : (c : Option Float) → SameEnd c (end_at set s k) → k < end_key c
      go (Some h) e = let a = end-key set s S A k top K e.0 e.1 in let q = e.2 in omega arith
      go None e = let a = K.order in let c = K.high in omega arith

  last_end : last_in top (end_at set s k) ≡ min top (end_key b - 1)
  last_end = go b (end_at set s k) (same_end b U)
    where
      go : (c : Option Float) (o : MathOption Float) → SameEnd c o → last_in top o ≡ min top (end_key c - 1)
      go (Some h) o e = ap (last_in top) e.1 ∙ ap (λ (j : ℕ). min top (j - 1)) (sym e.2)
      go None o e = ap (last_in top) e ∙ (let c = K.high in omega arith)

  pub hi-keys : Keys k (min top (end_key b - 1))
  hi-keys = subst (λ (h : ℕ). Keys k h) last_end (last-keys set s S A k top K (end_at set s k) refl)

  pub hi-clear : NonePassed k (min top (end_key b - 1)) times
  hi-clear = subst (λ (h : ℕ). NonePassed k h times) last_end (end-clear set s S A k top K (end_at set s k) refl)

  -- ---- a clip along a line

  module _ (c : ℕ) (line : Line) (e : reading c (line_is line) ≡ cell_of set s (stage (of_key k))) (part : List Float) (its : clip_times s c ≡ part) where
    pub same_place : (j : ℕ) → cell_place_at set s k j ≡ place_on part line j
    unfolding place_on cell_place
    same_place j =
        ap (λ (d : Cell). cell_place s d (of_key j)) (sym e)
        ∙ ap (λ (l : List Float). last_at_most l (Knots.along (line_is line) (of_key j))) its
