-- What a bake promises of the changes, and that the definitions' promise (`Bakes`) follows. Assumes nothing.
use mathlib.Core.Path.{◌≡◌, sym, ap, ◌∙◌, subst}
use Rattle.std.specs.Prelude.{Result}
use Rattle.definitions.specs.declared.refusal.Refusal.{Refusal}
use Prim.Native.Nat.{ℕ}
use lib.ListN.{length}
use Rattle.definitions.specs.Lists.{◌then◌}
use Rattle.definitions.specs.ClipSet.{ClipSet, standing}
use Rattle.definitions.specs.Samples.{Samples, samples_number}
use Rattle.definitions.specs.Value.{value_in_set}
use Rattle.definitions.specs.Questions.{reply, room_number}
use Rattle.definitions.specs.Track.{TrackOf, Outputs, slots, bake_number}
use Rattle.definitions.specs.Calls as Calls
use Rattle.laws.proofs.cell.Direct.{SoundSet, SoundSamples}
use Rattle.laws.proofs.cell.Numbers.{SoundValues}
use Rattle.laws.proofs.cell.Tracks.{track-is}
use Rattle.track.specs.declared.bake.Baked.{Baked}
use Rattle.track.specs.Bakes.{track_of, BakeIs, baked_reply}

-- ---- the bake

pub same-standing : (a b : ClipSet) → standing a ≡ standing b → a ≡ b
same-standing a b p = cc

-- the promise of a bake where the samples are accepted
module _ (set : ClipSet) (s : Samples) (S : SoundSet set) (A : SoundSamples s) (F : SoundValues set s) (e : samples_number set s ≡ 0) (before after : Outputs) (r : Result Baked Refusal) (p : BakeIs set s before after r) where
  number_is : bake_number (standing set) s (slots before) (length (track_of set s).changes) ≡ room_number (slots before) (length (track_of set s).changes)
  unfolding bake_number
  number_is = ap (λ (n : ℕ). n then room_number (slots before) (length (track_of set s).changes)) e

  pub bakes : Calls.Bakes (standing set) s before (baked_reply r) after
  bakes = record {
    track = track_of set s;
    is = λ other q n. subst (λ (x : ClipSet). TrackOf (value_in_set x s) (track_of set s)) (same-standing set other q) (track-is set s S A F);
    replies = p.replies ∙ ap (λ (n : ℕ). reply n (Calls.baked_of (track_of set s))) (sym number_is);
    writes = p.writes ∙ ap (λ (n : ℕ). Calls.outputs_after n (track_of set s) before) (sym number_is);
  }
