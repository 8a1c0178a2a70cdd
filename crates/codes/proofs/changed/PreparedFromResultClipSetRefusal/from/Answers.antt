-- A refused set is told as the empty one, which may be installed. Assumes nothing.
use Rattle.std.proofs.Common.{sym, subst}
use Rattle.std.specs.Prelude.{Result}
use Rattle.definitions.specs.declared.refusal.Refusal.{Refusal}
use Rattle.clip.specs.declared.ClipSet.{ClipSet}
use Rattle.clip.proofs.Preparing.{empty-made}
use Rattle.codes.specs.Changed.{IsPrepared}
use Rattle.codes.proofs.changed.PreparedFromResultClipSetRefusal.from.Goals as goal

pub returns-in-Err : goal.returns-in-Err
returns-in-Err c =
    subst (λ (r : Result ClipSet Refusal). IsPrepared r (record { number = c.from.result; set = c.empty.result })) (sym c.in-Err.is)
    (record { number = c.from.ensures; set = c.empty.ensures.is; made = λ m. empty-made _ c.empty.ensures })
