-- What each way out of a retiming shows. Assumes nothing.
use mathlib.Core.Path.{◌≡◌, refl, sym, ap, subst, ◌∙◌}
use mathlib.Core.Bool.{Bool, true, false, ◌&&◌, cond}
use lib.Ieee.{lt}
use lib.Ieee.Scale.{finite}
use Rattle.gf.specs.Doubles.{0·0}
use Rattle.definitions.specs.declared.LayerOffset.{LayerOffset}
use Rattle.definitions.specs.ClipSet as Definitions
use Rattle.definitions.specs.Retime.{is_identity, moved, sorted, retime_stage_times, moved_number}
use Rattle.laws.specs.list.Places.{Fits}
use Rattle.laws.specs.set.Sound.{Sound}
use Rattle.laws.proofs.set.SoundRetime.{retime-sound}
use Rattle.clip.specs.declared.ClipSet.{ClipSet}
use Rattle.std.specs.Prelude.{Result, Ok, Err}
use Rattle.definitions.specs.declared.refusal.Refusal.{Refusal}
use Rattle.definitions.specs.declared.refusal.Refusal.TheVariants.{Unstorable}
use Rattle.clip.specs.Holding.{ArraysWhole, clip_set_of}
use Rattle.clip.specs.Storing.{settle_number, Stores}
use Rattle.clip.specs.Retiming.{moved_and_sorted, Retimes}
use Rattle.clip.proofs.Preparing.{hands, prepares, prepares-not}
use Rattle.clip.proofs.Standing.{sound-mark, sound-settles}

module _ (set : ClipSet) (o : LayerOffset) where
  -- the identity, and any other
  unmoved : is_identity o ≡ true → retime_stage_times o (clip_set_of set) ≡ clip_set_of set
  unfolding retime_stage_times
  unmoved e = rw e

  is-moved : is_identity o ≡ false → retime_stage_times o (clip_set_of set) ≡ moved_and_sorted o (clip_set_of set)
  unfolding retime_stage_times moved_and_sorted
  is-moved e = rw e

  default-kept : (retime_stage_times o (clip_set_of set)).default ≡ (clip_set_of set).default
  unfolding retime_stage_times moved sorted
  default-kept = go (is_identity o) (lt o.scale 0·0)
    where
      go : (a b : Bool) → (cond a (clip_set_of set) (cond b (sorted (moved o (clip_set_of set))) (moved o (clip_set_of set)))).default ≡ (clip_set_of set).default
      go true b = refl
      go false true = refl
      go false false = refl

  module _ (h : ArraysWhole set) (s : Sound (clip_set_of set)) where
    pub retime-refuses : (finite o.offset && finite o.scale) ≡ false → Retimes set o (Err Unstorable)
    unfolding moved_number
    retime-refuses e = prepares-not (clip_set_of set) (retime_stage_times o (clip_set_of set)) (Err Unstorable) Unstorable (moved_number (clip_set_of set) o) refl (rw e) s

    module _ (p : (finite o.offset && finite o.scale) ≡ true) where
      -- the default's mark is sound, so a moved set's number is the retiming's
      number_is : settle_number (retime_stage_times o (clip_set_of set)) ≡ moved_number (clip_set_of set) o
      unfolding moved_number settle_number
      number_is = rw (p, default-kept, sound-mark (clip_set_of set) s)

      pub retime-identity : is_identity o ≡ true → Retimes set o (Ok set)
      retime-identity e =
          prepares (clip_set_of set) (retime_stage_times o (clip_set_of set)) _ 0 (moved_number (clip_set_of set) o) (sym (sound-settles (clip_set_of set) s) ∙ ap settle_number (sym (unmoved e)) ∙ number_is) s
          (λ z. subst Sound (sym (unmoved e)) s)
          (hands (clip_set_of set) (retime_stage_times o (clip_set_of set)) set 0 refl (record { is = sym (unmoved e); held = h }))

      pub retime-settles : (r : Result ClipSet Refusal) → Fits o.scale → is_identity o ≡ false → Stores (clip_set_of set) (moved_and_sorted o (clip_set_of set)) r → Retimes set o r
      retime-settles r f e t =
          prepares (clip_set_of set) (retime_stage_times o (clip_set_of set)) r (settle_number (retime_stage_times o (clip_set_of set))) (moved_number (clip_set_of set) o) number_is s (retime-sound (clip_set_of set) o s f)
          (subst (λ (w : Definitions.ClipSet). Stores (clip_set_of set) w r) (sym (is-moved e)) t)
