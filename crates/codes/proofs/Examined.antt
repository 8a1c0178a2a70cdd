-- What C gets of an examining, by what the examining replied. Assumes nothing.
use mathlib.Core.Path.{◌≡◌, ◌∙◌}
use Rattle.std.specs.Prelude.{Result}
use Rattle.definitions.specs.declared.refusal.Refusal.{Refusal}
use Rattle.definitions.specs.Examining as examining
use Rattle.definitions.specs.Examining.{Fields}
use Rattle.clip.specs.declared.ClipSet.{ClipSet}
use Rattle.clip.specs.Holding.{clip_set_of}
use Rattle.clip.specs.Preparing as sets
use Rattle.clip.specs.Preparing.{examined_of}
use Rattle.codes.specs.declared.changed.Prepared.{Prepared}
use Rattle.codes.specs.Changed.{IsPrepared, Examines}

abbrev code_of : Prepared → examining.Examined
code_of p = record { number = p.number; set = clip_set_of p.set }

pub examines-as : (f : Fields) (r : Result ClipSet Refusal) (p : Prepared) → sets.Examines f r → IsPrepared r p → Examines f p
examines-as f r p e t =
    let same : code_of p ≡ examined_of r = λ i. record { number = t.number i; set = t.set i } in
    record { reply = same ∙ e.reply; made = t.made e.made; told = (r, e, t) }
