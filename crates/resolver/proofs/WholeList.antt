-- Demand 3 from the operations' promises: what stands, by the state, is what stands by the calls, each state is made, and a bake's promise is what is due.
-- Assumes nothing.
use mathlib.Core.Path.{◌≡◌, refl, sym, ap, ◌∙◌, subst}
use Prim.Native.Nat.{ℕ, ◌≤◌, ◌<◌}
use lib.ListN.{length}
use borrow.Author.Tests.{lt-ltb, le-ltb}
use Rattle.definitions.specs.ClipSet.{ClipSet, Model, no_set, standing}
use Rattle.definitions.specs.Samples.{Samples, samples_number}
use Rattle.definitions.specs.Questions.{Reply, reply}
use Rattle.definitions.specs.Track.{Outputs, slots, bake_number}
use Rattle.definitions.specs.Calls.{Call, explicit, template, install, retime, bake, step, Baked, baked_of, outputs_after, Bakes, Due}
use Rattle.definitions.proofs.WholeList as any
use Rattle.definitions.proofs.WholeList.{left_is, whole-list}
use Rattle.definitions.proofs.TrackFacts.{whole-list-values}
use Rattle.definitions.proofs.Retimings.{whole-list-retimed}
use Rattle.resolver.specs.declared.Resolver.{Resolver}
use Rattle.resolver.specs.State.{model, Made}
use Rattle.resolver.specs.Promises.{Begins, BakesTrack}
use Rattle.resolver.specs.WholeList.{Moves, Replies, LeadsOn, Demand3, Demand3Values, Demand3Retimed}

-- the bake's number where the samples are accepted: 0 with room enough, else 22
module _ (m : Model) (set : ClipSet) (e : m ≡ standing set) (s : Samples) (z : samples_number set s ≡ 0) (room count : ℕ) where
  pub enough : count ≤ room → bake_number m s room count ≡ 0
  unfolding bake_number
  enough h = rw (e, bake_number, z, le-ltb room count h)

  short : room < count → bake_number m s room count ≡ 22
  unfolding bake_number
  short h = rw (e, bake_number, z, lt-ltb room count h)

-- a bake's reply and lists by its number
pub by_number : (m : Model) (s : Samples) (o : Outputs) (r : Reply Baked) (p : Outputs) (k : Bakes m s o r p) (n : ℕ) → bake_number m s (slots o) (length k.track.changes) ≡ n
    → (r ≡ reply n (baked_of k.track)) × (p ≡ outputs_after n k.track o)
by_number m s o r p k n h = (k.replies ∙ ap (λ (n : ℕ). reply n (baked_of k.track)) h, k.writes ∙ ap (λ (n : ℕ). outputs_after n k.track o) h)

due : (m : Model) (s : Samples) (o : Outputs) (r : Reply Baked) (p : Outputs) → Bakes m s o r p → Due m s o r p
due m s o r p k set e z = (
  k.track,
  k.is set e z,
  λ h. by_number m s o r p k 0 (enough m set e s z (slots o) (length k.track.changes) h),
  λ h. by_number m s o r p k 22 (short m set e s z (slots o) (length k.track.changes) h),
)

module _ (fresh : Resolver) (b : Begins fresh) where
  abbrev Follows : Model → Resolver → Type 0
  Follows = any.Follows no_set step fresh Moves Replies Due model Made

  -- a call takes the model by its step, and leaves a state that is made
  moves-on : (c : Call) (d e : Resolver) → Made d → Moves c d e → Follows (step (model d) c) e
  moves-on (explicit f) d e m (n, p) = record { is = (p m).after; made = (p m).made }
  moves-on (template f) d e m (n, p) = record { is = (p m).after; made = (p m).made }
  moves-on (install set) d e m (p, k, q, i) = subst (λ (x : ClipSet). Follows (step (model d) (install x)) e) q (record { is = (i m k).after; made = (i m k).made })
  moves-on (retime o) d e m (n, p) = record { is = (p m).after; made = (p m).made }
  moves-on (bake s o) d e m q = unfold step in subst (Follows (model d)) q (record { is = refl; made = m })

  follows-fresh : Follows no_set fresh
  follows-fresh = record { is = b.empty; made = b.made }

  bakes-due : (d : Resolver) (s : Samples) (o : Outputs) (r : Reply Baked) (p : Outputs) → Made d → Replies d s o r p → Due (model d) s o r p
  bakes-due d s o r p m q = due (model d) s o r p (subst (λ (x : Reply Baked). Bakes (model d) s o x p) q.2 (q.1 m))

pub leads-on : LeadsOn
leads-on fresh e b calls l = let f = left_is no_set step fresh Moves Replies Due model Made (follows-fresh fresh b) (moves-on fresh b) (bakes-due fresh b) calls e l in (f.made, f.is)

pub demand-3 : Demand3
demand-3 fresh b = whole-list no_set step fresh Moves Replies Due model Made (follows-fresh fresh b) (moves-on fresh b) (bakes-due fresh b)

pub demand-3-values : Demand3Values
demand-3-values fresh b = whole-list-values fresh Moves Replies (demand-3 fresh b)

pub demand-3-retimed : Demand3Retimed
demand-3-retimed fresh b = whole-list-retimed fresh Moves Replies (demand-3 fresh b)
