-- A count that is not refused is that of the one track, so a bake with as many slots gives it. Assumes nothing.
use Prim.Native.Nat.{ℕ, zero, suc, ◌≤◌}
use mathlib.Core.Path.{◌≡◌, refl, sym, ap, ◌∙◌, subst}
use native.Mathlib.Omega.{arith}
use lib.ListN.{length}
use Rattle.std.specs.Prelude.{Result, Ok, Err, IsOkAnd}
use Rattle.definitions.specs.declared.refusal.Refusal.{Refusal}
use Rattle.definitions.specs.ClipSet.{ClipSet, Model, no_set, standing}
use Rattle.definitions.specs.Samples.{Samples, samples_number}
use Rattle.definitions.specs.Questions.{Reply, refused, replied, reply, number_of, of_set}
use Rattle.definitions.specs.Track.{Track, slots}
use Rattle.definitions.specs.Calls as Calls
use Rattle.definitions.specs.Calls.{baked_of}
use Rattle.definitions.proofs.Refused.{not-zero}
use Rattle.laws.specs.set.Sound.{Sound, SoundModel}
use Rattle.laws.proofs.set.Accepted.{accepted}
use Rattle.laws.proofs.cell.Lent.{sound-set, sound-samples}
use Rattle.laws.proofs.cell.Numbers.{sound-values}
use Rattle.laws.proofs.cell.Tracks.{track-only}
use Rattle.track.specs.declared.bake.Baked.{Baked}
use Rattle.track.specs.Bakes.{baked_reply}
use Rattle.resolver.specs.State.{model}
use Rattle.resolver.specs.Counting.{CountSuffices}
use Rattle.resolver.proofs.WholeList.{enough, by_number}

abbrev count : Reply ℕ → ℕ
count (refused n) = 0
count (replied n) = n

abbrev bake_count : Reply Calls.Baked → ℕ
bake_count (refused n) = 0
bake_count (replied b) = b.count

-- a set stands, the samples are accepted for it, and the count is k
stands : (s : Samples) (n k : ℕ) (m : Model) → replied n ≡ of_set m (λ (set : ClipSet). reply (samples_number set s) k)
    → (set : ClipSet) × (m ≡ standing set) × (samples_number set s ≡ 0) × (n ≡ k)
stands s n k no_set e = absurd (omega (arith, ap number_of e))
stands s n k (standing set) e = let p = granted (samples_number set s) e in (set, refl, p.0, p.1)
  where
    granted : (i : ℕ) → replied n ≡ reply i k → (i ≡ 0) × (n ≡ k)
    granted zero q = (refl, ap count q)
    granted (suc i) q = absurd (omega (arith, ap number_of q))

-- a bake that is replied to with that count
baked : (b : Result Baked Refusal) (x : Calls.Baked) (n : ℕ) → baked_reply b ≡ replied x → n ≡ x.count → IsOkAnd b (λ (y : Baked). y.count ≡ n)
baked (Ok y) x n e q = ap bake_count e ∙ sym q
baked (Err r) x n e q = absurd (not-zero r (ap number_of e))

pub count-suffices : CountSuffices
count-suffices d s n o p b m ft fv t h k =
    let w = stands s n (length t.track.changes) (model d) t.replies in
    let set = w.0 in
    let sound : Sound set = subst SoundModel w.1 m.sound in
    let taken = accepted set s ft w.2 in
    let one : t.track ≡ k.track =
    track-only set s (sound-set set sound) (sound-samples set s taken) (sound-values set s sound taken fv)
    t.track k.track (t.is set w.1 w.2) (k.is set w.1 w.2) in
    let same : n ≡ length k.track.changes = w.3 ∙ ap (λ (x : Track). length x.changes) one in
    let room : length k.track.changes ≤ slots o = omega arith in
    let r = by_number (model d) s o (baked_reply b) p k 0 (enough (model d) set w.1 s w.2 (slots o) (length k.track.changes) room) in
    baked b (baked_of k.track) n r.0 same
