-- Demand 3 from the operations' promises: the sets that stand, by the pages, are those that stand by the calls, the pages are made each time, and a bake's promise is what is due.
-- Assumes nothing.
use mathlib.Core.Path.{refl, subst}
use mathlib.Core.Bool.{true}
use mathlib.Core.List.{List, []}
use Rattle.definitions.specs.ClipSet as definitions
use Rattle.definitions.specs.Questions.{Reply}
use Rattle.definitions.specs.Track.{Outputs}
use Rattle.definitions.specs.Calls.{Baked}
use Rattle.definitions.proofs.WholeList as any
use Rattle.definitions.proofs.WholeList.{left_is, whole-list}
use Rattle.dispatch.specs.NamedSets.{NamedSet}
use Rattle.dispatch.specs.Dispatch.{Placed}
use Rattle.dispatch.specs.DispatchCalls.{DispatchCall, explicit, template, install, retime, bake, BakeArguments, dispatch_step, DispatchBakes, DispatchDue}
use Rattle.dispatch.proofs.Due.{due}
use Rattle.pages.specs.Pages.{Pages, model, Made}
use Rattle.pages.specs.Placing.{Begins}
use Rattle.dispatcher.specs.WholeList.{Moves, Replies, LeadsOn, Demand3}

module _ (lent fresh : Pages) (b : Begins lent true fresh) where
  abbrev Follows : List NamedSet → Pages → Type 0
  Follows = any.Follows [] dispatch_step fresh Moves Replies DispatchDue model Made

  -- a call takes the sets by its step, and leaves pages that are made
  moves-on : (c : DispatchCall) (p q : Pages) → Made p → Moves c p q → Follows (dispatch_step (model p) c) q
  moves-on (explicit name declares f) p q m (n, k) = record { is = (k m).stands; made = (k m).made }
  moves-on (template name declares f) p q m (n, k) = record { is = (k m).stands; made = (k m).made }
  moves-on (install name declares set) p q m (n, s, h, e, k) = subst (λ (x : definitions.ClipSet). Follows (dispatch_step (model p) (install name declares x)) q) e (record { is = (k m h).stands; made = (k m h).made })
  moves-on (retime name o) p q m (n, k) = record { is = (k m).stands; made = (k m).made }
  moves-on (bake order s o) p q m e = unfold dispatch_step in subst (Follows (model p)) e (record { is = refl; made = m })

  follows-fresh : Follows [] fresh
  follows-fresh = record { is = b.1; made = b.0 }

  bakes-due : (p : Pages) (a : BakeArguments) (o : Outputs) (r : Reply (Placed Baked)) (w : Outputs) → Made p → Replies p a o r w → DispatchDue (model p) a o r w
  bakes-due p a o r w m q = due (model p) a o r w (subst (λ (x : Reply (Placed Baked)). DispatchBakes (model p) a o x w) q.2 (q.1 m))

pub leads-on : LeadsOn
leads-on lent p q b calls l =
    let f = left_is [] dispatch_step p Moves Replies DispatchDue model Made (follows-fresh lent p b) (moves-on lent p b) (bakes-due lent p b) calls q l in
    (f.made, f.is)

pub demand-3 : Demand3
demand-3 lent p b = whole-list [] dispatch_step p Moves Replies DispatchDue model Made (follows-fresh lent p b) (moves-on lent p b) (bakes-due lent p b)
