-- What demand 3 asks of a dispatcher's bake, from the bake's promise. Assumes nothing.
use Prim.Native.Nat.{ℕ, ◌≤◌, ◌<◌}
use mathlib.Core.Path.{◌≡◌, refl, ap, ◌∙◌}
use mathlib.Core.List.{List}
use lib.ListN.{length}
use borrow.Author.Tests.{lt-ltb, le-ltb}
use Rattle.definitions.specs.Questions.{Reply, reply}
use Rattle.definitions.specs.Track.{Outputs, slots}
use Rattle.definitions.specs.Calls.{Baked, outputs_after}
use Rattle.dispatch.specs.SetOrder.{order_number}
use Rattle.dispatch.specs.NamedSets.{NamedSet, answering}
use Rattle.dispatch.specs.SetSamples.{clips_of, set_samples_number}
use Rattle.dispatch.specs.Dispatch.{Placed, place_of, dispatch_bake_number}
use Rattle.dispatch.specs.DispatchCalls.{BakeArguments, placed_track, DispatchBakes, DispatchDue}
use Rattle.dispatch.proofs.Answering.{answers-first}

module _ (sets : List NamedSet) (a : BakeArguments) (o : Outputs) (r : Reply (Placed Baked)) (p : Outputs) (k : DispatchBakes sets a o r p) where
  abbrev number : ℕ
  number = dispatch_bake_number sets a.order a.samples (slots o) (length k.track.changes)

  by_number : (n : ℕ) → number ≡ n → (r ≡ reply n (placed_track (place_of (answering a.order sets)) k.track)) × (p ≡ outputs_after n k.track o)
  by_number n q = (k.replies ∙ ap (λ (m : ℕ). reply m (placed_track (place_of (answering a.order sets)) k.track)) q, k.writes ∙ ap (λ (m : ℕ). outputs_after m k.track o) q)

  -- the number where neither 23 nor the samples refuse the bake: 0 with room enough, else 22
  module _ (e : order_number a.order ≡ 0) (z : set_samples_number (clips_of sets) a.samples ≡ 0) where
    enough : length k.track.changes ≤ slots o → number ≡ 0
    unfolding dispatch_bake_number
    enough h = rw (e, z, le-ltb (slots o) (length k.track.changes) h) refl

    short : slots o < length k.track.changes → number ≡ 22
    unfolding dispatch_bake_number
    short h = rw (e, z, lt-ltb (slots o) (length k.track.changes) h) refl

  pub due : DispatchDue sets a o r p
  due = record {
    by = answering a.order sets;
    answers = answers-first a.order sets;
    gives = λ e z. (k.track, k.is e z, λ h. by_number 0 (enough e z h), λ h. by_number 22 (short e z h));
  }
