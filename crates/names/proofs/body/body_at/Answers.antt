-- `names::body::body_at` meets its contract: a fraction of 0 is none. Assumes nothing.
use mathlib.Core.Path.{◌∙◌}
use Rattle.names.proofs.BodyLaws.{body-none, body-some}
use Rattle.names.proofs.body.body_at.Goals as goal

pub returns-then-k-eq0 : goal.returns-then-k-eq0
returns-then-k-eq0 c =
    let a = c.args in
    c.whole_body.ensures ∙ body-none a.p.width a.p.fraction a.x c.if-k-eq0.true

pub returns : goal.returns
returns c =
    let a = c.args in
    c.fraction_body.ensures ∙ body-some a.p.width a.p.fraction a.x c.if-k-eq0.false
