-- docs/VALUE-CLIPS.md, "Examining and installing", over any calls: a list of calls with examinings between them, and the replies to it with and without these. Assumes nothing.
use Rattle.std.specs.Prelude.{◌≡◌, List, [], ◌∷◌}
use Rattle.definitions.specs.Examining.{Fields, Examined}

-- `Told c` is what the call c replies: its number or answer, and what every list lent for output holds after it.
module _ {Call : Type 0} (Told : Call → Type 0) where
  pub data Ask : Type 0 where
    call : Call → Ask
    examining : Fields → Ask

  abbrev pub Replies : List Ask → Type 0
  Replies [] = Unit {0}
  Replies (call c ∷ asks) = Told c × Replies asks
  Replies (examining f ∷ asks) = Examined × Replies asks

  -- "the same calls without the examinings"
  abbrev pub without : List Ask → List Ask
  without [] = []
  without (call c ∷ asks) = call c ∷ without asks
  without (examining f ∷ asks) = without asks

  -- of the replies, those to the calls
  abbrev pub kept : (asks : List Ask) → Replies asks → Replies (without asks)
  kept [] r = r
  kept (call c ∷ asks) (r, rs) = (r, kept asks rs)
  kept (examining f ∷ asks) (x, rs) = kept asks rs

  -- `Does c d r e`: the call c, given the state d, may reply r and leave e. `Looks f x`: an examining of f may hand back x; "no desk" is given to it, and none left.
  module _ {State : Type 0} (Does : (c : Call) → State → Told c → State → Type 0) (Looks : Fields → Examined → Type 0) where
    -- asked one after the other, from d on, they are replied to so, and leave e
    abbrev pub Run : State → (asks : List Ask) → Replies asks → State → Type 0
    Run d [] r e = d ≡ e
    Run d (call c ∷ asks) (r, rs) e = (next : State) × Does c d r next × Run next asks rs e
    Run d (examining f ∷ asks) (x, rs) e = Looks f x × Run d asks rs e

    -- "Every desk's replies are those to the same calls without the examinings." Two desks that began alike, one asked all, the other the calls alone: each call
    -- has one reply, and what stands after them is alike.
    module _ {Model : Type 0} (model : State → Model) (Made : State → Type 0) where
      abbrev pub NoTrace : Type 0
      NoTrace =
          (asks : List Ask) (d d' e e' : State) (r : Replies asks) (r' : Replies (without asks)) → Made d → Made d' → model d ≡ model d'
          → Run d asks r e → Run d' (without asks) r' e' → (kept asks r ≡ r') × (model e ≡ model e')
