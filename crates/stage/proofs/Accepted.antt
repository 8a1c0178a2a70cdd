-- Of accepted lists: their stage sample times are those of the set, and its stage samples are those of the set without manifest blocks. Assumes nothing.
use mathlib.Core.Path.{◌≡◌, refl, sym, ap, ap₂, ◌∙◌, subst}
use mathlib.Core.List.{List, [], ◌∷◌, ◌++◌, map}
use mathlib.Core.Option.{Option, none, some}
use Prim.Native.Nat.{ℕ, zero, suc, ◌≤◌, ◌<◌}
use native.Mathlib.Omega.{arith}
use lib.ListN.{length, get_elem?}
use lib.Ieee.{Float, nan}
use Rattle.gf.specs.Doubles.{total_key}
use Rattle.definitions.specs.declared.Missing.{Missing}
use Rattle.definitions.specs.declared.Start.{Start}
use Rattle.definitions.specs.declared.StageTime.{StageTime}
use Rattle.definitions.specs.Lists.{gather, below, sort_by}
use Rattle.definitions.specs.ClipSet.{ClipSet, max_knots, equal_knots, stage}
use Rattle.definitions.specs.Explicit.{knot}
use Rattle.definitions.specs.Timing.{active_entry, map_stage_to_clip}
use Rattle.definitions.specs.Samples.{Samples, clip_times, held_place}
use Rattle.definitions.specs.Value.{window_sample_times}
use Rattle.definitions.specs.StageSamples.{StageSample, dedup, times_of_clip, stage_sample_times, read_mark, mark_in, supplied_at, stage_samples}
use Rattle.laws.specs.list.Every.{Every}
use Rattle.laws.proofs.list.Every.{gather_append}
use Rattle.laws.specs.set.Stored.{Stored}
use Rattle.laws.specs.cell.Lent.{start, active_of, knots_of, set_of, samples_of, AcceptedLists}
use Rattle.laws.proofs.cell.Lent.{zip-here, zip_length, active-times, knot-times}
use Rattle.window.proofs.Parts.{ready-starts, ready-clip, ready-readable}
use Rattle.window.specs.Windows.{window_part}
use Rattle.window.proofs.Windows.{window-times}
use Rattle.stage.specs.Whole.{whole_times}
use Rattle.stage.specs.Times.{gathered_times, times_of, AcceptedTimes}
use Rattle.stage.specs.Marks.{unblocked}

gather-same : (f g : ℕ → List Float) (n : ℕ) → ((p : ℕ) → p < n → f p ≡ g p) → gather f (below n) ≡ gather g (below n)
gather-same f g zero h = refl
gather-same f g (suc n) h =
    gather_append f (below n) (n ∷ [])
    ∙ ap₂ (λ (u v : List Float). u ++ v) (gather-same f g n (λ p l. h p (omega arith))) (ap (λ (l : List Float). l ++ []) (h n (omega arith)))
    ∙ sym (gather_append g (below n) (n ∷ []))

module _ {starts : List Float} {clips : List ℕ} {xs ys blocks : List Float} {m : Missing} {times values : List Float} {marks ends : List ℕ} (R : AcceptedLists starts clips xs ys blocks m times values marks ends) where
  abbrev set : ClipSet
  set = set_of (length ends) starts clips xs ys blocks m

  abbrev s : Samples
  s = samples_of times values marks ends

  pub accepted-times : AcceptedTimes starts clips xs ys times ends
  unfolding set_of
  accepted-times = record {
    windows = record { rising = ready-starts R; paired = R.starts-paired; named = ready-clip R; readable = ready-readable R };
    few = subst (λ (n : ℕ). n ≤ max_knots) (zip_length knot xs ys R.knots-paired) R.sound.few-knots;
    stored-starts = subst (Every Stored) (active-times starts clips R.starts-paired) R.sound.times;
    stored-xs = subst (Every Stored) (knot-times xs ys R.knots-paired) R.sound.xs;
    stored-times = R.accepted.stored;
  }

  -- ---- the stage sample times

  -- the times of the window at the place p
  abbrev in_window : ℕ → List Float
  in_window p = window_sample_times set p (times_of_clip s (get_elem? (active_of starts clips) p))

  part-is : (p : ℕ) → p < length starts → in_window p ≡ whole_times starts clips xs ys times ends p
  unfolding clip_times
  part-is p h =
      window-times R p h (times_of_clip s (get_elem? (active_of starts clips) p))
      ∙ ap (λ (o : Option Start). window_part starts xs ys p (times_of_clip s o)) (zip-here start starts clips p nan 0 R.starts-paired h)

  parts_are : gather in_window (below (length (active_of starts clips))) ≡ gathered_times starts clips xs ys times ends
  parts_are =
      ap (λ (n : ℕ). gather in_window (below n)) (zip_length start starts clips R.starts-paired)
      ∙ gather-same in_window (λ (p : ℕ). whole_times starts clips xs ys times ends p) (length starts) part-is

  pub stage-times : times_of starts clips xs ys times ends ≡ stage_sample_times set s
  unfolding set_of stage_sample_times times_of
  stage-times = ap (λ (l : List Float). dedup (sort_by total_key l)) (sym parts_are)

  -- ---- the stage samples

  pub accepted-unblocked : AcceptedLists starts clips xs ys [] m times values marks ends
  unfolding set_of clip_times equal_knots
  accepted-unblocked = record {
    starts-paired = R.starts-paired;
    knots-paired = R.knots-paired;
    sound = record {
      few-clips = R.sound.few-clips;
      few-active = R.sound.few-active;
      few-knots = R.sound.few-knots;
      few-blocks = omega arith;
      times = R.sound.times;
      strictly = R.sound.strictly;
      named = R.sound.named;
      xs = R.sound.xs;
      ys = R.sound.ys;
      weakly = R.sound.weakly;
      no-three = R.sound.no-three;
      blocks = tt;
      default = R.sound.default;
    };
    accepted = record {
      few = R.accepted.few;
      values = R.accepted.values;
      marks = R.accepted.marks;
      ends = R.accepted.ends;
      stored = R.accepted.stored;
      marked = R.accepted.marked;
      number = R.accepted.number;
      from = R.accepted.from;
      inside = R.accepted.inside;
      strictly = R.accepted.strictly;
    };
    numbers = R.numbers;
  }

module _ (starts : List Float) (clips : List ℕ) (xs ys blocks : List Float) (m : Missing) (ends : List ℕ) (s : Samples) where
  abbrev with_blocks : ClipSet
  with_blocks = set_of (length ends) starts clips xs ys blocks m

  abbrev without : ClipSet
  without = unblocked starts clips xs ys m ends

  supplied-same : (t : StageTime) → supplied_at without s t ≡ supplied_at with_blocks s t
  unfolding set_of supplied_at
  supplied-same t = go (active_entry (active_of starts clips) t)
    where
      read : (c : ℕ) (o : Option ℕ) → read_mark without s c o ≡ read_mark with_blocks s c o
      read c none = refl
      read c (some i) = refl

      go : (o : Option Start) → mark_in without s t o ≡ mark_in with_blocks s t o
      go none = refl
      go (some a) = read a.clip (held_place (clip_times s a.clip) (map_stage_to_clip (knots_of xs ys) t))

  times-same : stage_sample_times without s ≡ stage_sample_times with_blocks s
  unfolding set_of stage_sample_times window_sample_times
  times-same = refl

  pub samples-unblocked : stage_samples without s ≡ stage_samples with_blocks s
  unfolding stage_samples
  samples-unblocked = go (stage_sample_times without s) ∙ ap (λ (l : List Float). map (sample with_blocks) l) times-same
    where
      sample : ClipSet → Float → StageSample
      sample x t = record { time = t; mark = supplied_at x s (stage t) }

      go : (l : List Float) → map (sample without) l ≡ map (sample with_blocks) l
      go [] = refl
      go (t ∷ l) = ap₂ (λ (n : ℕ) (k : List StageSample). record { time = t; mark = n } ∷ k) (supplied-same (stage t)) (go l)
