-- A clip's part as the slices that a program cuts out of the lent lists. Assumes nothing.
use mathlib.Core.Path.{◌≡◌, sym, subst}
use mathlib.Core.List.{List}
use Prim.Native.Nat.{ℕ, ◌-◌, ◌≤◌}
use native.Mathlib.Omega.{arith}
use lib.ListN.{length, take, drop}
use lib.Ieee.{Float}
use Rattle.definitions.specs.Samples.{clip_begin, clip_end}
use Rattle.cell.specs.declared.step.line.Line.{Line}
use Rattle.cell.specs.step.Lines.{place_on}
use Rattle.run.specs.Readings.{LeftOnce, Reads}
use Rattle.track.specs.span.Runs.{part, Run}

-- what is cut out from b to e
abbrev pub cut : {A : Type 0} → List A → ℕ → ℕ → List A
cut l b e = take (e - b) (drop b l)

module _ (times values : List Float) (marks ends : List ℕ) (c b e : ℕ) (p : b ≡ clip_begin ends c) (q : e ≡ clip_end ends c) where
  abbrev bounds : ℕ × ℕ → ℕ × ℕ → Type 0
  bounds x y = x ≡ y

  same : bounds (b, e) (clip_begin ends c, clip_end ends c)
  same = λ i. (p i, q i)

  -- what holds of the slices holds of the clip's part
  pub uncut : (P : List Float → List Float → List ℕ → Type 0) → P (cut times b e) (cut values b e) (cut marks b e) → P (part times ends c) (part values ends c) (part marks ends c)
  uncut P x = subst (λ (d : ℕ × ℕ). P (cut times d.0 d.1) (cut values d.0 d.1) (cut marks d.0 d.1)) same x

  pub recut : (P : List Float → List Float → List ℕ → Type 0) → P (part times ends c) (part values ends c) (part marks ends c) → P (cut times b e) (cut values b e) (cut marks b e)
  recut P x = subst (λ (d : ℕ × ℕ). P (cut times d.0 d.1) (cut values d.0 d.1) (cut marks d.0 d.1)) (sym same) x

  module _ (line : Line) (k hi : ℕ) (R : Run times values marks ends c line k hi) where
    pub cut-reads : Reads (cut times b e) (cut values b e) (cut marks b e)
    cut-reads = recut Reads R.reads

    pub cut-turns : LeftOnce (place_on (cut times b e) line) k hi
    cut-turns = recut (λ (ts vs : List Float) (ms : List ℕ). LeftOnce (place_on ts line) k hi) R.turns

    pub cut_inside : (b ≤ e) × (e ≤ length times) × (e ≤ length values) × (e ≤ length marks)
    cut_inside =
        let f = R.from in
        let i = R.inside in
        let v = R.valued in
        let m = R.flagged in
        (omega arith, omega arith, omega arith, omega arith)
