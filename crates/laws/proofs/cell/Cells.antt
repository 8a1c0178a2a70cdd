-- A cell says the source on a whole stretch: it is constant, or a clip is read held at the clip time that one line gives, whose place rises or falls all along.
-- Assumes nothing.
use mathlib.Core.Path.{◌≡◌, refl, sym, ap, ap₂, ◌∙◌}
use mathlib.Core.Logic.{◌⊎◌, inl, inr}
use mathlib.Core.Bool.{Bool, true, false, ◌&&◌, cond}
use mathlib.Core.List.{List, [], ◌∷◌}
use mathlib.Core.Option.{Option, none, some}
use Prim.Native.Nat.{ℕ, ◌≤◌, zero-le}
use lib.Dec.{T}
use lib.ListN.{get_elem?}
use lib.Ieee.{Float, le}
use Rattle.gf.proofs.LerpLaws.{Inside}
use Rattle.definitions.specs.declared.Start.{Start}
use Rattle.definitions.specs.ClipSet.{ClipSet, stage, clip}
use Rattle.definitions.specs.Timing.{last_at_most, active_position, map_time, map_stage_to_clip}
use Rattle.definitions.specs.Samples.{Samples, clip_times, held_place}
use Rattle.definitions.specs.declared.Source.{Source}
use Rattle.definitions.specs.declared.Source.TheVariants.{Sample as sample, Absent as absent}
use Rattle.definitions.specs.Value.{sample_of, read_clip, contributes, manifest_default, gap_source, ◌or_else◌, source_at, direct_source, value_source}
use Rattle.laws.specs.list.Places.{Fits}
use Rattle.laws.proofs.cell.Places.{place_mono}
use Rattle.laws.specs.cell.Knots.{Line, line_of, along}
use Rattle.laws.proofs.cell.Knots.{map-along, line_same, map-fits, map-turns}
use Rattle.laws.proofs.cell.Direct.{SoundSet, SoundSamples, clip-fit}
use Rattle.laws.specs.cell.Stretches.{held_from}
use Rattle.laws.proofs.cell.Stretches.{read_as, Stretch, stretch-same, stretch-knots, stretch-part, value-by}
use Rattle.laws.specs.cell.Cells.{Cell, constant, reading, any_sample, entry_cell, direct_cell, cell_by, cell_of}

-- the place that is read at u
unfoldable pub cell_place : Samples → Cell → Float → ℕ
cell_place s (constant r) u = 0
cell_place s (reading c line) u = last_at_most (clip_times s c) (along line u)

-- what is read at u
unfoldable pub read_cell : Samples → Cell → Float → Source
read_cell s (constant r) u = r
read_cell s (reading c line) u = sample c (last_at_most (clip_times s c) (along line u))

-- ---- the direct reading by its cell

module _ (set : ClipSet) (s : Samples) where
  entry-reads : (t : Float) (p : ℕ) (o : Option Start) → source_at set s (stage t) p o ≡ read_cell s (entry_cell set s t p o) t
  unfolding read_cell read_clip map_stage_to_clip held_place
  entry-reads t p none = refl
  entry-reads t p (some a) = go (contributes set a) (clip_times s a.clip) refl
    where
      rest : Source
      rest = manifest_default set or_else gap_source set s p

      go : (b : Bool) (l : List Float) → clip_times s a.clip ≡ l
          → (cond b (sample_of a.clip (held_place l (clip (map_time set.knots t)))) none or_else rest)
          ≡ read_cell s (cond (b && any_sample l) (reading a.clip (line_of set.knots t)) (constant rest)) t
      go true [] e = refl
      go true (x ∷ l) e = ap₂ (λ (m : List Float) (c : Float). sample a.clip (last_at_most m c)) (sym e) (map-along set.knots t)
      go false l e = refl

  pub direct-reads : (t : Float) → direct_source set s (stage t) ≡ read_cell s (direct_cell set s (stage t)) t
  unfolding direct_source direct_cell
  direct-reads t = entry-reads t (active_position set.active (stage t)) (get_elem? set.active (active_position set.active (stage t)))

  entry-line : (j t : Float) (p : ℕ) (o : Option Start) → line_of set.knots j ≡ line_of set.knots t → entry_cell set s j p o ≡ entry_cell set s t p o
  entry-line j t p none e = refl
  entry-line j t p (some a) e = rw e

-- ---- on a stretch

-- the place that the cell reads does not fall from t to u
abbrev pub CellRises : Samples → Cell → Float → Float → Type 0
CellRises s c t u = (j k : Float) → Inside t u j → Inside t u k → T (le j k) → cell_place s c j ≤ cell_place s c k

-- or does not rise
abbrev pub CellFalls : Samples → Cell → Float → Float → Type 0
CellFalls s c t u = (j k : Float) → Inside t u j → Inside t u k → T (le j k) → cell_place s c k ≤ cell_place s c j

module _ (set : ClipSet) (s : Samples) (S : SoundSet set) (A : SoundSamples s) (t u : Float) (W : Stretch set s t u) where
  line_stays : (j : Float) → Inside t u j → line_of set.knots j ≡ line_of set.knots t
  line_stays j I = line_same set.knots S.knots t u W.ft W.fu W.order (stretch-knots set s S A t u W) j I

  direct-stays : (j : Float) → Inside t u j → direct_cell set s (stage j) ≡ direct_cell set s (stage t)
  unfolding direct_cell
  direct-stays j I =
      ap (λ (p : ℕ). entry_cell set s j p (get_elem? set.active p)) (stretch-same set s S A t u W j I)
      ∙ entry-line set s j t (active_position set.active (stage t)) (get_elem? set.active (active_position set.active (stage t))) (line_stays j I)

  -- The value on the whole stretch is what t's cell reads
  pub cell-reads : (j : Float) → Inside t u j → value_source set s (stage j) ≡ read_cell s (cell_of set s (stage t)) j
  unfolding cell_of read_cell
  cell-reads j I = value-by set s S A t j (stretch-part set s S A t u W j I) ∙ go (held_from set s (stage t))
    where
      go : (o : Option Float) → direct_source set s (stage (read_as o j)) ≡ read_cell s (cell_by set s (stage t) o) j
      go none = direct-reads set s j ∙ ap (λ (c : Cell). read_cell s c j) (direct-stays j I)
      go (some l) = refl

  time-by : (j : Float) → Inside t u j → along (line_of set.knots t) j ≡ map_time set.knots j
  time-by j I = ap (λ (l : Line). along l j) (sym (line_stays j I)) ∙ sym (map-along set.knots j)

  place-by : (c : ℕ) (j : Float) → Inside t u j → cell_place s (reading c (line_of set.knots t)) j ≡ last_at_most (clip_times s c) (map_time set.knots j)
  unfolding cell_place
  place-by c j I = ap (last_at_most (clip_times s c)) (time-by j I)

  reading-turns : (c : ℕ) → CellRises s (reading c (line_of set.knots t)) t u ⊎ CellFalls s (reading c (line_of set.knots t)) t u
  reading-turns c = elim (map-turns set.knots S.knots t u W.ft W.fu W.order (stretch-knots set s S A t u W)) [
    | inl r ↦ inl (λ j k I J l. rw (place-by c j I, place-by c k J) (place_mono (m j) (m k) (fm j I.ft) (fm k J.ft) (r j k I J l) (clip_times s c) (clip-fit s A c)))
    | inr r ↦ inr (λ j k I J l. rw (place-by c j I, place-by c k J) (place_mono (m k) (m j) (fm k J.ft) (fm j I.ft) (r j k I J l) (clip_times s c) (clip-fit s A c)))
  ]
    where
      m : Float → Float
      m j = map_time set.knots j

      fm : (j : Float) → Fits j → Fits (map_time set.knots j)
      fm j f = map-fits set.knots S.knots j f

  constant-turns : (r : Source) → CellRises s (constant r) t u ⊎ CellFalls s (constant r) t u
  unfolding cell_place
  constant-turns r = inl (λ j k I J l. zero-le)

  -- The place that t's cell reads rises or falls all along
  pub cell-turns : CellRises s (cell_of set s (stage t)) t u ⊎ CellFalls s (cell_of set s (stage t)) t u
  unfolding cell_of direct_cell
  cell-turns = by (held_from set s (stage t))
    where
      p : ℕ
      p = active_position set.active (stage t)

      entry : (o : Option Start) → CellRises s (entry_cell set s t p o) t u ⊎ CellFalls s (entry_cell set s t p o) t u
      entry none = constant-turns absent
      entry (some a) = go (contributes set a && any_sample (clip_times s a.clip))
        where
          rest : Source
          rest = manifest_default set or_else gap_source set s p

          go : (b : Bool) → CellRises s (cond b (reading a.clip (line_of set.knots t)) (constant rest)) t u ⊎ CellFalls s (cond b (reading a.clip (line_of set.knots t)) (constant rest)) t u
          go true = reading-turns a.clip
          go false = constant-turns rest

      by : (o : Option Float) → CellRises s (cell_by set s (stage t) o) t u ⊎ CellFalls s (cell_by set s (stage t) o) t u
      by none = entry (get_elem? set.active (active_position set.active (stage t)))
      by (some l) = constant-turns (direct_source set s (stage l))
