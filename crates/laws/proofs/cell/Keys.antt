-- The value as a function of the key, and the cell of a key: up to the key before its end what is read is what the cell reads. Assumes nothing.
use mathlib.Core.Path.{◌≡◌, refl, sym, ap}
use mathlib.Core.Bool.{not}
use mathlib.Core.List.{List}
use mathlib.Core.Option.{Option, none, some}
use Prim.Native.Nat.{ℕ, ◌-◌, ◌≤◌, ◌<◌, min}
use native.Mathlib.Nat.{le_of_eq}
use native.Mathlib.Omega.{arith}
use lib.Dec.{T}
use lib.Ieee.{Float, is_nan, lt, le}
use Rattle.gf.specs.Doubles.{key, of_key, least, most}
use Rattle.gf.proofs.KeyLaws.{key-of_key, of_key-fits, of_key-no-nan, of_key-mono, of_key-key, le→key, key→le, key→lt, lt→key, le-no-nan, lt→le}
use Rattle.gf.proofs.LerpLaws.{Inside}
use Rattle.definitions.specs.Doubles.{FiniteDouble}
use Rattle.definitions.specs.ClipSet.{ClipSet, stage}
use Rattle.definitions.specs.Samples.{Samples}
use Rattle.definitions.specs.declared.Source.{Source}
use Rattle.definitions.specs.Value.{says, upper_neighbour, value_source, value_in_set}
use Rattle.definitions.specs.Track.{written_entry}
use Rattle.laws.specs.list.Every.{Every}
use Rattle.laws.proofs.list.Every.{every-zip}
use Rattle.laws.specs.list.Places.{Fits}
use Rattle.laws.proofs.cell.Places.{Clear}
use Rattle.laws.proofs.cell.Knots.{alike-eq}
use Rattle.laws.proofs.cell.Direct.{SoundSet, SoundSamples}
use Rattle.laws.specs.cell.Stretches.{boundaries}
use Rattle.laws.proofs.cell.Stretches.{boundaries-fit, Stretch, value-alike}
use Rattle.laws.specs.cell.Cells.{cell_of}
use Rattle.laws.proofs.cell.Cells.{cell_place, read_cell, cell-reads}
use Rattle.laws.proofs.cell.Ends.{end-above, clear-below, clear-on}
use Rattle.laws.specs.cell.Keys.{entry_at_key, Keys}

-- ---- by the key

-- at the double with the key k: what is read, and what it says
abbrev pub source_at_key : ClipSet → Samples → ℕ → Source
source_at_key set s k = value_source set s (stage (of_key k))

-- the last key of the cell, up to top
abbrev pub last_in : ℕ → Option Float → ℕ
last_in top none = top
last_in top (some e) = min top (key e - 1)

-- the place that the cell of the key lo reads at the key k
abbrev pub cell_place_at : ClipSet → Samples → ℕ → ℕ → ℕ
cell_place_at set s lo k = cell_place s (cell_of set s (stage (of_key lo))) (of_key k)

-- the end of the cell of the key k: the least boundary above it
abbrev pub end_at : ClipSet → Samples → ℕ → Option Float
end_at set s k = upper_neighbour (boundaries set s (stage (of_key k))) (of_key k)

-- none of the times lies above lo and up to hi
abbrev pub NonePassed : ℕ → ℕ → List Float → Type 0
NonePassed lo hi times = Every (Clear (of_key lo) (of_key hi)) times

inside : (lo hi : ℕ) → Keys lo hi → (k : ℕ) → lo ≤ k → k ≤ hi → Inside (of_key lo) (of_key hi) (of_key k)
inside lo hi K k a b =
    let l : least ≤ k = omega (arith, K.low) in
    let h : k ≤ most = omega (arith, K.high) in
    record { ft = of_key-fits k; from = of_key-mono lo k K.low a h; upto = of_key-mono k hi l b K.high }

ordered : (lo hi : ℕ) → Keys lo hi → (j k : ℕ) → lo ≤ j → j ≤ k → k ≤ hi → T (le (of_key j) (of_key k))
ordered lo hi K j k a b d = of_key-mono j k (omega (arith, K.low)) b (omega (arith, K.high))

-- the same by the keys of the times
pub none_passed : (lo hi : ℕ) → Keys lo hi → (times : List Float) → Every Fits times → Every (λ (x : Float). key x ≤ hi → key x ≤ lo) times → NonePassed lo hi times
none_passed lo hi K times f c = every-zip Fits (λ (x : Float). key x ≤ hi → key x ≤ lo) (Clear (of_key lo) (of_key hi)) clear-key times f c
  where
    lo-high : lo ≤ most
    lo-high = let a = K.order in let b = K.high in omega arith

    hi-low : least ≤ hi
    hi-low = let a = K.order in let b = K.low in omega arith

    clear-key : (x : Float) → Fits x → (key x ≤ hi → key x ≤ lo) → Clear (of_key lo) (of_key hi) x
    clear-key x f c l =
        let n = (le-no-nan x (of_key hi) l).0 in
        let a = le→key x (of_key hi) f (of_key-fits hi) n (of_key-no-nan hi hi-low K.high) l in
        let e = key-of_key hi hi-low K.high in
        let d = key-of_key lo K.low lo-high in
        let b = c (omega arith) in
        key→le x (of_key lo) f (of_key-fits lo) n (of_key-no-nan lo K.low lo-high) (omega arith)

module _ (set : ClipSet) (s : Samples) (S : SoundSet set) (A : SoundSamples s) where
  -- ---- the value is a function of the key

  pub source-of-key : (t : Float) → FiniteDouble t → value_source set s (stage t) ≡ source_at_key set s (key t)
  source-of-key t f =
      let k = of_key (key t) in
      sym (value-alike set s S A k t (of_key-fits (key t)) f.fitting (alike-eq k t (of_key-fits (key t)) f.fitting (of_key-key t f.fitting f.finitely)))

  pub entry-of-key : (t : Float) → FiniteDouble t → written_entry (value_in_set set s (stage t)) ≡ entry_at_key set s (key t)
  unfolding value_in_set
  entry-of-key t f = ap (λ (r : Source). written_entry (says set s r)) (source-of-key t f)

  -- ---- the value, where no boundary is passed

  module _ (lo hi : ℕ) (K : Keys lo hi) (clear : NonePassed lo hi (boundaries set s (stage (of_key lo)))) where
    stretch : Stretch set s (of_key lo) (of_key hi)
    stretch = record { ft = of_key-fits lo; fu = of_key-fits hi; order = ordered lo hi K lo hi (le_of_eq refl) K.order (le_of_eq refl); clear = clear }

    -- what is read is what lo's cell reads
    pub cell-source : (k : ℕ) → lo ≤ k → k ≤ hi → source_at_key set s k ≡ read_cell s (cell_of set s (stage (of_key lo))) (of_key k)
    cell-source k a b = cell-reads set s S A (of_key lo) (of_key hi) stretch (of_key k) (inside lo hi K k a b)

  -- ---- the end of a key's cell

  module _ (k top : ℕ) (K : Keys k top) where
    abbrev times : List Float
    times = boundaries set s (stage (of_key k))

    fit : Every Fits times
    fit = boundaries-fit set s S A (stage (of_key k))

    number : T (not (is_nan (of_key k)))
    number = of_key-no-nan k K.low (let a = K.order in let b = K.high in omega arith)

    module _ (e : Float) (q : end_at set s k ≡ some e) where
      above-k : Fits e × T (lt (of_key k) e)
      above-k = end-above times fit (of_key k) (of_key-fits k) number e q

      end-no-nan : T (not (is_nan e))
      end-no-nan = (le-no-nan (of_key k) e (lt→le (of_key k) e above-k.1)).1

      pub end-key : k < key e
      end-key =
          let a = K.order in
          let b = K.high in
          let w = key-of_key k K.low (omega arith) in
          let g = lt→key (of_key k) e (of_key-fits k) above-k.0 number end-no-nan above-k.1 in
          omega arith

    pub last-keys : (o : Option Float) → end_at set s k ≡ o → Keys k (last_in top o)
    last-keys none q = K
    last-keys (some e) q = let a = end-key e q in let b = K.order in let c = K.high in record { low = K.low; order = omega arith; high = omega arith }

    -- Up to the key before the end, or up to top, no boundary is passed
    pub end-clear : (o : Option Float) → end_at set s k ≡ o → NonePassed k (last_in top o) times
    end-clear none q = clear-on times fit (of_key k) (of_key-fits k) number (of_key top) q
    end-clear (some e) q =
        let a = end-key e q in
        let b = last-keys (some e) q in
        let hi = min top (key e - 1) in
        let l : least ≤ hi = omega (arith, b.low, b.order) in
        let w = key-of_key hi l b.high in
        clear-below times fit (of_key k) (of_key-fits k) number e (of_key hi) q (of_key-fits hi)
        (key→lt (of_key hi) e (of_key-fits hi) (above-k e q).0 (of_key-no-nan hi l b.high) (end-no-nan e q) (omega arith))
