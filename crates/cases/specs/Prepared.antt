-- The slots for prepared sets, and what a line with one leaves. Assumes nothing.
use Rattle.std.specs.Prelude.{◌≡◌, ℕ, ◌<◌, ◌⊎◌, [], ◌∷◌, length, slice_index_or, slice_set, Option, Some, None, IfSome, IfOk}
use Rattle.definitions.specs.Examining.{Fields}
use Rattle.laws.specs.list.Every.{Every}
use Rattle.clip.specs.declared.ClipSet.{ClipSet}
use Rattle.clip.specs.Preparing.{MadeSet, Examines}
use Rattle.resolver.specs.State.{Made}
use Rattle.resolver.specs.Promises.{Installs}
use Rattle.cases.specs.declared.Session.{Session}
use Rattle.cases.specs.declared.Held.{Held}
use Rattle.cases.specs.declared.prepared.Slots.{Slots}
use Rattle.cases.specs.declared.examinings.Looked.{Looked}
use Rattle.cases.specs.Sessions.{Stays}

-- ---- the slots

-- each slot's set is one that an operation made
pub record MadeSlots (s : Slots) : Type 0 where
  pub four : length s.sets ≡ 4
  pub made : Every (λ (p : Option ClipSet). IfSome p MadeSet) s.sets

pub record NoneHeld (s : Slots) : Type 0 where
  pub none : s.sets ≡ None ∷ None ∷ None ∷ None ∷ []
  pub made : MadeSlots s

-- the one slot, and no other
pub record Puts (s : Slots) (slot : ℕ) (p : ClipSet) (r : Slots) : Type 0 where
  pub sets : r.sets ≡ slice_set s.sets slot (Some p)
  pub made : MadeSlots r

-- of one of the four
pub record Gets (s : Slots) (slot : ℕ) (r : Option ClipSet) : Type 0 where
  pub among : slot < length s.sets
  pub is : r ≡ slice_index_or s.sets slot None
  pub made : IfSome r MadeSet

-- ---- the lines

-- of an examining: the operation's own promise, of some fields
pub record Looks (r : Looked) : Type 0 where
  pub slot : r.slot < 4
  pub read : (f : Fields) × Examines f r.prepared
  pub made : IfOk r.prepared MadeSet

-- of `examine` and `prepared`: no resolver is touched
pub record Looking (s : Session) (r : Held) : Type 0 where
  pub stays : Stays s r.session
  pub made : MadeSlots r.slots

-- of `install`: the slots and the samples are as they were, and the resolver is as it was or has a slot's set, by the operation's own promise
pub record Installing (s : Session) (slots : Slots) (r : Held) : Type 0 where
  pub same-slots : r.slots ≡ slots
  pub same-lent : r.session.lent ≡ s.lent
  pub stands : (r.session.resolver ≡ s.resolver) ⊎ ((slot : ℕ) × (p : ClipSet) × Gets slots slot (Some p) × Installs s.resolver p r.session.resolver)
  pub made : Made r.session.resolver
  pub made-slots : MadeSlots r.slots
