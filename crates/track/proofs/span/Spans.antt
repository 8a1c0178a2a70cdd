-- The span of a piece: up to its last key its cell reads and says the value, and the place that it reads turns one way. Assumes nothing.
use Rattle.std.specs.Prelude.{Option}
use mathlib.Core.Path.{◌≡◌, refl, sym, ap, ap₂, ◌∙◌, subst}
use mathlib.Core.Logic.{inl, inr}
use mathlib.Core.Bool.{false}
use mathlib.Core.List.{List}
use Prim.Native.Nat.{ℕ, ◌+◌, ◌-◌, ◌≤◌, ◌<◌, min}
use native.Mathlib.Nat.{le_of_eq}
use native.Mathlib.Omega.{arith}
use lib.Dec.{T}
use lib.ListN.{length, get_or, drop, length-drop}
use lib.Seq.{get_or-take, get_or-drop, length-take-le}
use lib.Ieee.{Float, is_nan, le}
use Rattle.gf.specs.Doubles.{0·0, of_key}
use Rattle.gf.proofs.KeyLaws.{of_key-fits, of_key-mono}
use Rattle.gf.proofs.LerpLaws.{Inside}
use Rattle.definitions.specs.declared.Missing.{Missing}
use Rattle.definitions.specs.declared.Source.{Source}
use Rattle.definitions.specs.ClipSet.{ClipSet, mark_value, stage}
use Rattle.definitions.specs.Samples.{Samples, clip_begin, clip_end, clip_times}
use Rattle.definitions.specs.Value.{marked, says, value_in_set}
use Rattle.definitions.specs.Track.{Entry, written_entry}
use Rattle.laws.proofs.list.Every.{every_take, every_drop}
use Rattle.laws.specs.list.Places.{Fits}
use Rattle.laws.specs.track.Steps.{Agree}
use Rattle.laws.proofs.cell.Direct.{SoundSet, SoundSamples}
use Rattle.laws.proofs.cell.Stretches.{Stretch}
use Rattle.laws.specs.cell.Stretches.{boundaries}
use Rattle.laws.specs.cell.Knots as Knots
use Rattle.laws.specs.cell.Cells as Cells
use Rattle.laws.proofs.cell.Cells as Cells-laws
use Rattle.laws.specs.cell.Keys.{Keys, entry_at_key}
use Rattle.laws.proofs.cell.Keys.{NonePassed, cell_place_at, source_at_key, cell-source}
use Rattle.laws.specs.cell.Lent.{AcceptedLists, set_of, samples_of}
use Rattle.laws.proofs.cell.Places.{last-short}
use Rattle.window.proofs.Parts.{ready-readable}
use Rattle.cell.specs.declared.step.line.Line.{Line}
use Rattle.cell.specs.step.Lines.{line_is, place_on}
use Rattle.run.specs.Readings.{LeftOnce, Reads, reading_at}
use Rattle.value.specs.Answers.{answer_in, Answerable}
use Rattle.value.proofs.Answers.{says-ready, value_in}
use Rattle.cell.specs.declared.Cell.{Cell}
use Rattle.cell.specs.declared.Cell.TheVariants.{Constant, Reading}
use Rattle.cell.specs.CellAndEnd.{cell_is}
use Rattle.cell.specs.EndKeys.{end_key}
use Rattle.cell.proofs.CellsRead.{Sampled, CellAndEndIs}
use Rattle.cell.proofs.Lent.{sound, samples}
use Rattle.cell.proofs.LastKeys.{hi-keys, hi-clear, same_place}
use Rattle.track.specs.span.Runs.{part, Run, Runs, read_on, entry_on}

-- ---- the place that a cell reads turns one way

module _ (set : ClipSet) (s : Samples) (S : SoundSet set) (A : SoundSamples s) (lo hi : ℕ) (K : Keys lo hi) (clear : NonePassed lo hi (boundaries set s (stage (of_key lo)))) where
  ordered : (j k : ℕ) → lo ≤ j → j ≤ k → k ≤ hi → T (le (of_key j) (of_key k))
  ordered j k a b d = of_key-mono j k (omega (arith, K.low)) b (omega (arith, K.high))

  inside : (k : ℕ) → lo ≤ k → k ≤ hi → Inside (of_key lo) (of_key hi) (of_key k)
  inside k a b = record { ft = of_key-fits k; from = ordered lo k (le_of_eq refl) a b; upto = ordered k hi a b (le_of_eq refl) }

  span : Stretch set s (of_key lo) (of_key hi)
  span = record { ft = of_key-fits lo; fu = of_key-fits hi; order = ordered lo hi (le_of_eq refl) K.order (le_of_eq refl); clear = clear }

  cell-turning : LeftOnce (cell_place_at set s lo) lo hi
  cell-turning = elim (Cells-laws.cell-turns set s S A (of_key lo) (of_key hi) span) [
    | inl r ↦ inl (λ j k a b d. r (of_key j) (of_key k) (inside j a (omega arith)) (inside k (omega arith) d) (ordered j k a b d))
    | inr r ↦ inr (λ j k a b d. r (of_key j) (of_key k) (inside j a (omega arith)) (inside k (omega arith) d) (ordered j k a b d))
  ]

turns-by : (f g : ℕ → ℕ) → ((k : ℕ) → f k ≡ g k) → (lo hi : ℕ) → LeftOnce f lo hi → LeftOnce g lo hi
turns-by f g e lo hi t = elim t [
  | inl r ↦ inl (λ j k a b d. let x = r j k a b d in let y = e j in let z = e k in omega arith)
  | inr r ↦ inr (λ j k a b d. let x = r j k a b d in let y = e j in let z = e k in omega arith)
]

-- ---- a clip's part

module _ {A : Type 0} (l : List A) (ends : List ℕ) (c : ℕ) where
  part_length : clip_end ends c ≤ length l → length (part l ends c) ≡ clip_end ends c - clip_begin ends c
  part_length h = length-take-le (clip_end ends c - clip_begin ends c) (drop (clip_begin ends c) l) (rw (length-drop (clip_begin ends c) l) (omega arith))

  part_at : (i : ℕ) (d : A) → i < clip_end ends c - clip_begin ends c → get_or l (clip_begin ends c + i) d ≡ get_or (part l ends c) i d
  part_at i d h = sym (get_or-take (clip_end ends c - clip_begin ends c) (drop (clip_begin ends c) l) i d h ∙ get_or-drop (clip_begin ends c) l i d)

-- of a clip of the set
module _ {starts : List Float} {clips : List ℕ} {xs ys blocks : List Float} {m : Missing} {times values : List Float} {marks ends : List ℕ} (R : AcceptedLists starts clips xs ys blocks m times values marks ends) (c : ℕ) (named : c < length ends) where
  abbrev b : ℕ
  b = clip_begin ends c

  abbrev n : ℕ
  n = clip_end ends c - clip_begin ends c

  pub clip-lengths : (length (part times ends c) ≡ clip_end ends c - clip_begin ends c) × (length (part values ends c) ≡ clip_end ends c - clip_begin ends c) × (length (part marks ends c) ≡ clip_end ends c - clip_begin ends c)
  clip-lengths =
      let i = (ready-readable R).inside c named in
      let v = R.accepted.values in
      let w = R.accepted.marks in
      (part_length times ends c i, part_length values ends c (omega arith), part_length marks ends c (omega arith))

  pub clip-says : (i : ℕ) → i < clip_end ends c - clip_begin ends c
      → marked (get_or marks (clip_begin ends c + i) 0) (get_or values (clip_begin ends c + i) 0·0) ≡ marked (get_or (part marks ends c) i 0) (get_or (part values ends c) i 0·0)
  clip-says i h = ap₂ marked (part_at marks ends c i 0 h) (part_at values ends c i 0·0 h)

  clip-number : (i : ℕ) → i < length (part times ends c) → get_or (part marks ends c) i 0 ≡ mark_value → is_nan (get_or (part values ends c) i 0·0) ≡ false
  clip-number i h e =
      let l : i < n = let k = clip-lengths.0 in omega arith in
      let f = (ready-readable R).from c named in
      let u = (ready-readable R).inside c named in
      ap is_nan (sym (part_at values ends c i 0·0 l)) ∙ R.accepted.number (b + i) 0·0 0 (omega arith) (part_at marks ends c i 0 l ∙ e)

  -- it can be read, if it has samples
  pub clip-reads : 0 < length (part times ends c) → Reads (part times ends c) (part values ends c) (part marks ends c)
  clip-reads some = record {
    ascending = (ready-readable R).rising c named;
    values = clip-lengths.1 ∙ sym clip-lengths.0;
    marks = clip-lengths.2 ∙ sym clip-lengths.0;
    some = some;
    numbers = every_take Fits n (drop b values) (every_drop Fits b values R.numbers);
    number = clip-number;
  }

-- ---- a cell that reads the value from k to hi

-- the place that a reading takes turns one way
abbrev pub TurnsOn : List Float → List ℕ → Cell → ℕ → ℕ → Type 0
TurnsOn times ends (Constant r) k hi = Unit {0}
TurnsOn times ends (Reading c line) k hi = LeftOnce (place_on (part times ends c) line) k hi

pub record Told (set : ClipSet) (s : Samples) (k hi : ℕ) (cell : Cell) : Type 0 where
  pub keys : Keys k hi
  pub reads : (j : ℕ) → k ≤ j → j ≤ hi → source_at_key set s j ≡ read_on s.times s.ends cell j
  pub clip : Sampled set s cell
  pub turns : TurnsOn s.times s.ends cell k hi

module _ {starts : List Float} {clips : List ℕ} {xs ys blocks : List Float} {m : Missing} {times values : List Float} {marks ends : List ℕ} (R : AcceptedLists starts clips xs ys blocks m times values marks ends) (k hi : ℕ) (cell : Cell) (D : Told (set_of (length ends) starts clips xs ys blocks m) (samples_of times values marks ends) k hi cell) where
  abbrev lent : ClipSet
  lent = set_of (length ends) starts clips xs ys blocks m

  abbrev held : Samples
  held = samples_of times values marks ends

  pub told-sayable : Answerable (length values) ends (read_on times ends cell k)
  told-sayable = subst (Answerable (length values) ends) (D.reads k (le_of_eq refl) D.keys.order) (value_in R (stage (of_key k)))

  entry-on : (j : ℕ) → k ≤ j → j ≤ hi → entry_at_key lent held j ≡ written_entry (says lent held (read_on times ends cell j))
  unfolding value_in_set
  entry-on j a b = ap (λ (r : Source). written_entry (says lent held r)) (D.reads j a b)

  pub told_here : written_entry (answer_in m values marks ends (read_on times ends cell k)) ≡ entry_at_key (set_of (length ends) starts clips xs ys blocks m) (samples_of times values marks ends) k
  told_here = ap written_entry (says-ready R (read_on times ends cell k)) ∙ sym (entry-on k (le_of_eq refl) D.keys.order)

  -- ---- where a clip is read

  module _ (c : ℕ) (line : Line) (q : cell ≡ Reading c line) where
    sampled : (c < length ends) × (0 < length (part times ends c))
    unfolding set_of clip_times
    sampled = subst (Sampled lent held) q D.clip

    turning : LeftOnce (place_on (part times ends c) line) k hi
    turning = subst (λ (d : Cell). TurnsOn times ends d k hi) q D.turns

    run : Run times values marks ends c line k hi
    run = record {
      clip = sampled.0;
      from = (ready-readable R).from c sampled.0;
      inside = (ready-readable R).inside c sampled.0;
      valued = R.accepted.values;
      flagged = R.accepted.marks;
      reads = clip-reads R c sampled.0 sampled.1;
      turns = turning;
    }

    place_inside : (j : ℕ) → place_on (part times ends c) line j < clip_end ends c - clip_begin ends c
    unfolding place_on
    place_inside j = let l = (clip-lengths R c sampled.0).0 in let h = last-short (part times ends c) (Knots.along (line_is line) (of_key j)) sampled.1 in omega arith

    reading-says : (j : ℕ) → k ≤ j → j ≤ hi → entry_at_key lent held j ≡ reading_at (part times ends c) (part values ends c) (part marks ends c) line j
    unfolding says
    reading-says j x y =
        entry-on j x y
        ∙ ap (λ (d : Cell). written_entry (says lent held (read_on times ends d j))) q
        ∙ ap written_entry (clip-says R c sampled.0 (place_on (part times ends c) line j) (place_inside j))

  constant-says : (r : Source) → cell ≡ Constant r → (j : ℕ) → k ≤ j → j ≤ hi → entry_at_key lent held j ≡ entry_at_key lent held k
  constant-says r q j x y =
      entry-on j x y
      ∙ ap (λ (d : Cell). written_entry (says lent held (read_on times ends d j))) q
      ∙ sym (entry-on k (le_of_eq refl) D.keys.order ∙ ap (λ (d : Cell). written_entry (says lent held (read_on times ends d k))) q)

  pub told-runs : Runs times values marks ends cell k hi
  told-runs = go cell refl
    where
      go : (c : Cell) → cell ≡ c → Runs times values marks ends c k hi
      go (Constant r) q = tt
      go (Reading c line) q = run c line q

  pub told-says : (here : Entry) → here ≡ entry_at_key (set_of (length ends) starts clips xs ys blocks m) (samples_of times values marks ends) k
      → Agree k hi (entry_at_key (set_of (length ends) starts clips xs ys blocks m) (samples_of times values marks ends)) (entry_on times values marks ends cell here)
  told-says here p = go cell refl
    where
      go : (c : Cell) → cell ≡ c → Agree k hi (entry_at_key lent held) (entry_on times values marks ends c here)
      go (Constant r) q j x y = constant-says r q j x y ∙ sym p
      go (Reading c line) q j x y = reading-says c line q j x y

-- ---- the span of a piece

module _ {starts : List Float} {clips : List ℕ} {xs ys blocks : List Float} {m : Missing} {times values : List Float} {marks ends : List ℕ} (R : AcceptedLists starts clips xs ys blocks m times values marks ends) (k top : ℕ) (K : Keys k top) where
  abbrev set : ClipSet
  set = set_of (length ends) starts clips xs ys blocks m

  abbrev s : Samples
  s = samples_of times values marks ends

  module _ (cell : Cell) (e : Option Float) (P : CellAndEndIs (set_of (length ends) starts clips xs ys blocks m) (samples_of times values marks ends) (of_key k) cell e) where
    abbrev hi : ℕ
    hi = min top (end_key e - 1)

    span-keys : Keys k (min top (end_key e - 1))
    span-keys = hi-keys set s (sound R) (samples R) k top K e P.ends

    clear : NonePassed k hi (boundaries set s (stage (of_key k)))
    clear = hi-clear set s (sound R) (samples R) k top K e P.ends

    -- what is read
    reads_on : (c : Cell) (j : ℕ) → Cells-laws.read_cell s (cell_is c) (of_key j) ≡ read_on times ends c j
    unfolding Cells-laws.read_cell place_on clip_times
    reads_on (Constant r) j = refl
    reads_on (Reading c line) j = refl

    pub source-on : (j : ℕ) → k ≤ j → j ≤ hi → source_at_key set s j ≡ read_on times ends cell j
    source-on j a b =
        cell-source set s (sound R) (samples R) k hi span-keys clear j a b
        ∙ ap (λ (c : Cells.Cell). Cells-laws.read_cell s c (of_key j)) (sym P.is)
        ∙ reads_on cell j

    turns-on : TurnsOn times ends cell k hi
    turns-on = go cell refl
      where
        go : (c : Cell) → cell ≡ c → TurnsOn times ends c k hi
        go (Constant r) q = tt
        go (Reading c line) q =
            turns-by (cell_place_at set s k) (place_on (part times ends c) line)
            (same_place set s (sound R) (samples R) k top K e P.ends c line (ap cell_is (sym q) ∙ P.is) (part times ends c) (unfold clip_times in refl))
            k hi (cell-turning set s (sound R) (samples R) k hi span-keys clear)

    -- its cell reads the value up to its last key
    pub piece-told : Told (set_of (length ends) starts clips xs ys blocks m) (samples_of times values marks ends) k (min top (end_key e - 1)) cell
    piece-told = record { keys = span-keys; reads = source-on; clip = P.clip; turns = turns-on }
