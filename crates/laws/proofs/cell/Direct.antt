-- The direct reading: it goes by the active start and by the place of the sample that is read. While no start and no knot is passed the place
-- rises or falls all along. Assumes nothing.
use mathlib.Core.Path.{◌≡◌, refl, sym, ap, ◌∙◌}
use mathlib.Core.Bool.{cond}
use mathlib.Core.List.{List, [], ◌∷◌}
use mathlib.Core.Option.{Option, none, some}
use Prim.Native.Nat.{ℕ, ◌-◌}
use lib.Dec.{T}
use lib.ListN.{get_elem?, drop}
use lib.Ieee.{Float}
use Rattle.gf.proofs.LerpLaws.{Inside}
use Rattle.definitions.specs.declared.StageTime.{StageTime}
use Rattle.definitions.specs.declared.ClipTime.{ClipTime}
use Rattle.definitions.specs.Doubles.{FiniteDouble, ascending}
use Rattle.definitions.specs.declared.Start.{Start}
use Rattle.definitions.specs.ClipSet.{ClipSet, active_times, stage, clip}
use Rattle.definitions.specs.Timing.{last_at_most, active_position, map_time, map_stage_to_clip}
use Rattle.definitions.specs.Samples.{Samples, clip_begin, clip_end, clip_times, held_place}
use Rattle.definitions.specs.declared.Source.{Source}
use Rattle.definitions.specs.Value.{sample_of, read_clip, manifest_default, gap_source, ◌or_else◌, contributes, source_at, direct_source}
use Rattle.laws.specs.list.Every.{Every}
use Rattle.laws.proofs.list.Every.{every_map, every_take, every_drop}
use Rattle.laws.specs.list.Places.{Fits}
use Rattle.laws.proofs.cell.Places.{place_same}
use Rattle.laws.specs.cell.Knots.{SoundKnot}
use Rattle.laws.proofs.cell.Knots.{Alike, map-fits, map-alike, clear-alike}

-- ---- what is asked of a set and of samples

-- A set's starts are finite doubles, each above the one before; its knots are stored doubles. (That knots ascend is not needed.)
pub record SoundSet (set : ClipSet) : Type 0 where
  pub starts : Every FiniteDouble (active_times set.active)
  pub ascends : T (ascending (active_times set.active))
  pub knots : Every SoundKnot set.knots

-- The lent times are doubles. (That they are finite and ascend is not needed.)
pub record SoundSamples (s : Samples) : Type 0 where
  pub times : Every Fits s.times

pub starts_fit : (set : ClipSet) → SoundSet set → Every Fits (active_times set.active)
starts_fit set S = every_map FiniteDouble Fits (λ x f. f.fitting) (active_times set.active) S.starts

pub clip-fit : (s : Samples) → SoundSamples s → (c : ℕ) → Every Fits (clip_times s c)
unfolding clip_times
clip-fit s A c =
    every_take Fits (clip_end s.ends c - clip_begin s.ends c) (drop (clip_begin s.ends c) s.times)
    (every_drop Fits (clip_begin s.ends c) s.times A.times)

-- ---- the place of the sample that is read

abbrev place_in : ClipSet → Samples → StageTime → Option Start → ℕ
place_in set s t none = 0
place_in set s t (some a) = last_at_most (clip_times s a.clip) (map_time set.knots t.0)

-- the active clip's sample that is read held at t's clip time; 0 where there is none
unfoldable pub place_read : ClipSet → Samples → StageTime → ℕ
place_read set s t = place_in set s t (get_elem? set.active (active_position set.active t))

held-through : (l : List Float) (x y : ClipTime) → last_at_most l x.0 ≡ last_at_most l y.0 → held_place l x ≡ held_place l y
unfolding held_place
held-through [] x y e = refl
held-through (z ∷ l) x y e = ap some e

module _ (set : ClipSet) (s : Samples) where
  read_through : (c : ℕ) (j k : Float) → last_at_most (clip_times s c) (map_time set.knots j) ≡ last_at_most (clip_times s c) (map_time set.knots k) → read_clip set s c (stage j) ≡ read_clip set s c (stage k)
  unfolding read_clip map_stage_to_clip
  read_through c j k e = ap (sample_of c) (held-through (clip_times s c) (clip (map_time set.knots j)) (clip (map_time set.knots k)) e)

  source-through : (j k : Float) (p : ℕ) (o : Option Start) → place_in set s (stage j) o ≡ place_in set s (stage k) o → source_at set s (stage j) p o ≡ source_at set s (stage k) p o
  source-through j k p none e = refl
  source-through j k p (some a) e =
      ap (λ (r : Option Source). cond (contributes set a) r none or_else manifest_default set or_else gap_source set s p) (read_through a.clip j k e)

  -- the direct reading goes through the active start's place and the sample's place
  pub direct-through : (j k : Float) → active_position set.active (stage j) ≡ active_position set.active (stage k)
      → place_read set s (stage j) ≡ place_read set s (stage k) → direct_source set s (stage j) ≡ direct_source set s (stage k)
  unfolding direct_source place_read
  direct-through j k e f =
      let o : ℕ → Option Start = λ p. get_elem? set.active p in
      ap (λ (p : ℕ). source_at set s (stage j) p (o p)) e
      ∙ source-through j k (active_position set.active (stage k)) (o (active_position set.active (stage k))) (sym (ap (λ (p : ℕ). place_in set s (stage j) (o p)) e) ∙ f)

  place_at : (t : Float) (p : ℕ) → active_position set.active (stage t) ≡ p → place_read set s (stage t) ≡ place_in set s (stage t) (get_elem? set.active p)
  unfolding place_read
  place_at t p e = ap (λ (q : ℕ). place_in set s (stage t) (get_elem? set.active q)) e

-- ---- all along a stretch

-- the start that is active at t is active up to u
abbrev pub SameStart : ClipSet → Float → Float → Type 0
SameStart set t u = (j : Float) → Inside t u j → active_position set.active (stage j) ≡ active_position set.active (stage t)

module _ (set : ClipSet) (s : Samples) (S : SoundSet set) (A : SoundSamples s) where
  -- ---- of two zeros, or of any one number

  module _ (t u : Float) (ft : Fits t) (fu : Fits u) (a : Alike t u) where
    pub position-alike : active_position set.active (stage t) ≡ active_position set.active (stage u)
    unfolding active_position
    position-alike =
        let f = starts_fit set S in
        place_same t u ft fu a.0 (active_times set.active) f (clear-alike t u ft fu a (active_times set.active) f)

    place-in-alike : (o : Option Start) → place_in set s (stage t) o ≡ place_in set s (stage u) o
    place-in-alike none = refl
    place-in-alike (some e) =
        let m = map_time set.knots t in
        let n = map_time set.knots u in
        let fm = map-fits set.knots S.knots t ft in
        let fn = map-fits set.knots S.knots u fu in
        let b = map-alike set.knots S.knots t u ft fu a in
        let f = clip-fit s A e.clip in
        place_same m n fm fn b.0 (clip_times s e.clip) f (clear-alike m n fm fn b (clip_times s e.clip) f)

    pub place-alike : place_read set s (stage t) ≡ place_read set s (stage u)
    place-alike =
        place_at set s t (active_position set.active (stage u)) position-alike
        ∙ place-in-alike (get_elem? set.active (active_position set.active (stage u)))
        ∙ sym (place_at set s u (active_position set.active (stage u)) refl)

    pub direct-alike : direct_source set s (stage t) ≡ direct_source set s (stage u)
    direct-alike = direct-through set s t u position-alike place-alike
