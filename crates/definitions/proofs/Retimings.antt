-- What stands on the plain desk is the set that was installed last, after all retimings of it accepted since; and so for demand 3. Assumes nothing.
use Prim.Native.Nat.{ℕ, zero, suc}
use mathlib.Core.Path.{◌≡◌, refl, ap, ◌∙◌}
use mathlib.Core.List.{List, [], ◌∷◌}
use Rattle.definitions.specs.declared.LayerOffset.{LayerOffset}
use Rattle.definitions.specs.ClipSet.{Model, no_set, standing}
use Rattle.definitions.specs.Explicit.{explicit_number, explicit_set}
use Rattle.definitions.specs.Template.{template_number, template_set}
use Rattle.definitions.specs.Retime.{moved_number, retime_number}
use Rattle.definitions.specs.Samples.{Samples}
use Rattle.definitions.specs.Questions.{Reply}
use Rattle.definitions.specs.Track.{Outputs}
use Rattle.definitions.specs.WholeList.{run_from, LeftBy, begin, next}
use Rattle.definitions.specs.Calls.{Call, explicit, template, install, retime, bake, accepted, step, Baked, WholeList}
use Rattle.definitions.specs.Retimings.{History, nothing, installed, in_turn, remember, stands_by, FollowsRetimings, WholeListRetimed}

-- a choice by the number, seen through a function
accepted-through : {A B : Type 0} (f : A → B) (n : ℕ) (before after : A) → accepted n (f before) (f after) ≡ f (accepted n before after)
accepted-through f zero b a = refl
accepted-through f (suc n) b a = refl

-- one call
step_follows : (h : History) (c : Call) → step (stands_by h) c ≡ stands_by (remember h c)
unfolding step remember retime_number in_turn
step_follows h (explicit f) = accepted-through stands_by (explicit_number f) h (installed (explicit_set f) [])
step_follows h (template f) = accepted-through stands_by (template_number f) h (installed (template_set f) [])
step_follows h (install set) = refl
step_follows nothing (retime o) = refl
step_follows (installed set earlier) (retime o) = accepted-through (λ (l : List LayerOffset). standing (in_turn l set)) (moved_number (in_turn earlier set) o) earlier (o ∷ earlier)
step_follows h (bake s o) = refl

-- any number of them
run-follows : (h : History) (calls : List Call) → run_from no_set step (stands_by h) calls ≡ stands_by (run_from nothing remember h calls)
unfolding run_from
run-follows h [] = refl
run-follows h (c ∷ calls) = ap (λ (m : Model). run_from no_set step m calls) (step_follows h c) ∙ run-follows (remember h c) calls

pub follows-retimings : FollowsRetimings
follows-retimings calls = run-follows nothing calls

-- ---- demand 3

module _ {State : Type 0} (fresh : State) (Moves : Call → State → State → Type 0) where
  -- what the calls leave does not depend on who remembers them
  left_as : (calls : List Call) (d : State) → LeftBy nothing remember fresh Moves calls d → LeftBy no_set step fresh Moves calls d
  left_as calls d begin = begin
  left_as calls e (next {calls = earlier} {d = d} c l m) = next c (left_as earlier d l) m

  module _ (Replies : State → Samples → Outputs → Reply Baked → Outputs → Type 0) where
    pub whole-list-retimed : WholeList fresh Moves Replies → WholeListRetimed fresh Moves Replies
    whole-list-retimed claim calls d l s o r p q set retimings e z =
        claim calls d (left_as calls d l) s o r p q (in_turn retimings set) (follows-retimings calls ∙ ap stands_by e) z
