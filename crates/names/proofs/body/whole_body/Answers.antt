-- `names::body::whole_body` meets its contract. Assumes nothing.
use mathlib.Core.Path.{ap₂, ◌∙◌}
use Prim.Native.Nat.{ℕ, max, ◌-◌}
use Rattle.gf.proofs.Exactly.{within-finite}
use Rattle.names.proofs.BodyLaws.{truncated-is, whole-body}
use Rattle.names.proofs.body.whole_body.Goals as goal

pub returns : goal.returns
returns c =
    let a = c.args in
    let m = c.measure-m in
    whole-body a.width a.x m.result.negative c.whole-n.result m.ensures.sign
    (c.whole-n.ensures ∙ truncated-is a.x (within-finite 40 a.x c.requires.0) m.result m.ensures)
    _ _ c.has_minus-minus.ensures
    (c.max-width.ensures ∙ ap₂ (λ (l p : ℕ). max (a.width - l) p) c.sign_length.ensures c.places.ensures.0)
