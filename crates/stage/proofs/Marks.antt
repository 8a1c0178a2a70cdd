-- The mark of a stage sample, case by case. Assumes nothing.
use mathlib.Core.Path.{◌≡◌, refl, sym, ap, ◌∙◌}
use mathlib.Core.List.{List, [], ◌∷◌, map}
use mathlib.Core.Option.{Option, none, some}
use Prim.Native.Nat.{ℕ, zero, suc, ◌+◌, ◌≤◌, ◌<◌}
use native.Mathlib.Omega.{arith}
use lib.ListN.{length, get_or, get_elem?, length-map}
use lib.Ieee.{Float, nan}
use Rattle.definitions.specs.declared.Missing.{Missing}
use Rattle.definitions.specs.declared.Start.{Start}
use Rattle.definitions.specs.declared.StageTime.{StageTime}
use Rattle.definitions.specs.declared.Answer.{Answer}
use Rattle.gf.specs.Doubles.{0·0}
use Rattle.definitions.specs.ClipSet.{ClipSet, mark_block, stage}
use Rattle.definitions.specs.Timing.{last_at_most, active_position, active_entry, map_stage_to_clip}
use Rattle.definitions.specs.Samples.{Samples, clip_begin, clip_times, held_place}
use Rattle.definitions.specs.Value.{marked}
use Rattle.definitions.specs.Track.{mark_of}
use Rattle.definitions.specs.StageSamples.{read_mark, mark_in, supplied_at, stage_sample_times, stage_samples}
use Rattle.laws.proofs.list.Every.{every-get_or}
use Rattle.laws.specs.cell.Lent.{start, active_of, knots_of, set_of, samples_of, AcceptedLists}
use Rattle.laws.proofs.cell.Lent.{zip-here}
use Rattle.window.specs.Parts.{part_of}
use Rattle.window.proofs.Parts.{ready-active, ready-position}
use Rattle.std.specs.Prelude.{Some, None}
use Rattle.sdf.specs.look.Reads.{marked_at, told}
use Rattle.value.specs.direct.Reads.{held_part}
use Rattle.stage.specs.Marks.{gap_mark_of, unblocked, marks_at}
use Rattle.stage.specs.Promises.{times_in, marks_in}

module _ (set : ClipSet) (s : Samples) where
  pub times-are : times_in (stage_samples set s) ≡ stage_sample_times set s
  unfolding stage_samples
  times-are = go (stage_sample_times set s)
    where
      go : (l : List Float) → times_in (map (λ (t : Float). record { time = t; mark = supplied_at set s (stage t) }) l) ≡ l
      go [] = refl
      go (t ∷ l) = ap (λ (k : List Float). t ∷ k) (go l)

  pub marks-are : marks_in (stage_samples set s) ≡ marks_at set s (stage_sample_times set s)
  unfolding stage_samples
  marks-are = go (stage_sample_times set s)
    where
      go : (l : List Float) → marks_in (map (λ (t : Float). record { time = t; mark = supplied_at set s (stage t) }) l) ≡ marks_at set s l
      go [] = refl
      go (t ∷ l) = ap (λ (k : List ℕ). supplied_at set s (stage t) ∷ k) (go l)

  pub as_many : length (stage_samples set s) ≡ length (stage_sample_times set s)
  unfolding stage_samples
  as_many = length-map (stage_sample_times set s) (λ (t : Float). record { time = t; mark = supplied_at set s (stage t) })

-- a sample's mark is that of what it says: 0 or 1
mark-back : (mark : ℕ) (v : Float) → mark ≤ mark_block → mark_of (marked mark v) ≡ mark
mark-back zero v h = refl
mark-back (suc zero) v h = refl
mark-back (suc (suc k)) v h = absurd (omega arith)

module _ {starts : List Float} {clips : List ℕ} {xs ys : List Float} {m : Missing} {times values : List Float} {marks ends : List ℕ} (R : AcceptedLists starts clips xs ys [] m times values marks ends) (t : StageTime) where
  abbrev set : ClipSet
  set = unblocked starts clips xs ys m ends

  abbrev s : Samples
  s = samples_of times values marks ends

  pub mark-none : length starts ≡ 0 → gap_mark_of m.default.mark ≡ supplied_at set s t
  unfolding set_of supplied_at active_entry
  mark-none e = sym (ap (mark_in set s t) (none_in (active_of starts clips) (active_position (active_of starts clips) t) (ready-active R ∙ e)))
    where
      none_in : (l : List Start) (i : ℕ) → length l ≡ 0 → get_elem? l i ≡ none
      none_in [] i e = refl
      none_in (a ∷ l) i e = absurd (omega arith)

  module _ (p : ℕ) (e : p ≡ last_at_most starts t.0) (h : p < length starts) where
    -- by the place that is read
    by_place : read_mark set s (get_or clips p 0) (held_place (part_of times ends (get_or clips p 0)) (map_stage_to_clip (knots_of xs ys) t)) ≡ supplied_at set s t
    unfolding set_of supplied_at active_entry clip_times
    by_place =
        sym
        (ap (λ (q : ℕ). mark_in set s t (get_elem? (active_of starts clips) q)) (ready-position R t.0 p e)
        ∙ ap (mark_in set s t) (zip-here start starts clips p nan 0 R.starts-paired h))

    -- the sample's mark, by what it says
    pub mark-read : (i : ℕ) (a : Answer) → Some (i, a) ≡ held_part xs ys times values marks ends (get_or clips p 0) t → mark_of a ≡ supplied_at set s t
    mark-read i a q = go (held_place (part_of times ends (get_or clips p 0)) (map_stage_to_clip (knots_of xs ys) t)) q ∙ by_place
      where
        go : (o : Option ℕ) → Some (i, a) ≡ told values marks (clip_begin ends (get_or clips p 0)) o → mark_of a ≡ read_mark set s (get_or clips p 0) o
        go none k = let z : ◌≡◌ {A = ℕ} 0 1 = cc in absurd (omega arith)
        go (some j) k =
            let at = clip_begin ends (get_or clips p 0) + j in
            let z : ◌≡◌ {A = ℕ × Answer} (i, a) (j, marked_at values marks at) = cc in
            ap (λ (x : ℕ × Answer). mark_of x.1) z ∙ mark-back (get_or marks at 0) (get_or values at 0·0) (every-get_or (λ (n : ℕ). n ≤ mark_block) marks at 0 R.accepted.marked (omega arith))

    pub mark-gap : None ≡ held_part xs ys times values marks ends (get_or clips p 0) t → gap_mark_of m.default.mark ≡ supplied_at set s t
    unfolding set_of
    mark-gap q = go (held_place (part_of times ends (get_or clips p 0)) (map_stage_to_clip (knots_of xs ys) t)) q ∙ by_place
      where
        go : (o : Option ℕ) → None ≡ told values marks (clip_begin ends (get_or clips p 0)) o → gap_mark_of m.default.mark ≡ read_mark set s (get_or clips p 0) o
        go none k = refl
        go (some j) k = let z : ◌≡◌ {A = ℕ} 0 1 = cc in absurd (omega arith)
