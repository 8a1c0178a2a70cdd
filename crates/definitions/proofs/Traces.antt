-- Examinings leave no trace, where a call's reply and what it leaves are settled by what stands. Acceptance is examining and installing in a row, and a set that is installed
-- again stands as it was prepared. Assumes nothing.
use Prim.Native.Nat.{ℕ, zero, suc}
use mathlib.Core.Path.{◌≡◌, refl, sym, ap, ◌∙◌}
use mathlib.Core.List.{[], ◌∷◌}
use Rattle.definitions.specs.ClipSet.{ClipSet, Model, no_set, standing}
use Rattle.definitions.specs.Calls.{install, accepted, step}
use Rattle.definitions.specs.Examining.{Fields, explicitly, by_template, fields_number, fields_set, Examined, examine, InARow, AsPrepared}
use Rattle.definitions.specs.Traces.{call, examining, NoTrace}
use Rattle.definitions.proofs.WholeList.{run-next}

-- ---- acceptance

-- what is handed back where no number applies
handed-over : (f : Fields) → fields_number f ≡ 0 → fields_set f ≡ (examine f).set
unfolding examine
handed-over f z = cc

in-a-row-by : (n : ℕ) (m : Model) (set handed : ClipSet) → (n ≡ 0 → set ≡ handed) → accepted n m (standing set) ≡ accepted n m (standing handed)
in-a-row-by zero m set handed h = ap standing (h refl)
in-a-row-by (suc n) m set handed h = refl

pub in_a_row : InARow
unfolding step examine
in_a_row m (explicitly f) = in-a-row-by (fields_number (explicitly f)) m (fields_set (explicitly f)) (examine (explicitly f)).set (handed-over (explicitly f))
in_a_row m (by_template f) = in-a-row-by (fields_number (by_template f)) m (fields_set (by_template f)) (examine (by_template f)).set (handed-over (by_template f))

pub as-prepared : AsPrepared
unfolding step
as-prepared calls set = run-next no_set step no_set calls (install set)

-- ---- no trace

module _ {Call : Type 0} (Told : Call → Type 0) {State : Type 0} (Does : (c : Call) → State → Told c → State → Type 0) (Looks : Fields → Examined → Type 0) {Model : Type 0} (model : State → Model) (Made : State → Type 0) where
  -- a call, given two states by which the same stands
  pub record Settled (c : Call) (r r' : Told c) (e e' : State) : Type 0 where
    pub reply : r ≡ r'
    pub stands : model e ≡ model e'
    pub made : Made e
    pub made' : Made e'

  module _ (settles : (c : Call) (d d' e e' : State) (r r' : Told c) → Made d → Made d' → model d ≡ model d' → Does c d r e → Does c d' r' e' → Settled c r r' e e') where
    pub no-trace : NoTrace Told Does Looks model Made
    no-trace [] d d' e e' r r' m m' q p p' = (refl, ap model (sym p) ∙ q ∙ ap model p')
    no-trace (call c ∷ asks) d d' e e' (r, rs) (r', rs') m m' q (next, does, run) (next', does', run') =
        let s = settles c d d' next next' r r' m m' q does does' in
        let rest = no-trace asks next next' e e' rs rs' s.made s.made' s.stands run run' in
        ((λ i. (s.reply i, rest.0 i)), rest.1)
    no-trace (examining f ∷ asks) d d' e e' (x, rs) rs' m m' q (looks, run) run' = no-trace asks d d' e e' rs rs' m m' q run run'
