-- `names::body::fraction_body` meets its contract: the decimals, cut at the `.`. Assumes nothing.
use native.Mathlib.Omega.{arith}
use mathlib.Core.Path.{◌≡◌, ap, ◌∙◌}
use Prim.Native.Nat.{max}
use native.Mathlib.Nat.{one-le-pow}
use Rattle.gf.proofs.Exactly.{within-finite}
use Rattle.definitions.specs.Names.{decimals}
use Rattle.names.proofs.BodyLaws.{decimals-is, with-fraction}
use Rattle.names.proofs.body.fraction_body.Goals.{After-decimals-n}
use Rattle.names.proofs.body.fraction_body.Goals as goal

pub nonzero_div-whole : goal.nonzero_div-whole
nonzero_div-whole c = omega (arith, one-le-pow c.args.k 10 (omega arith))

pub nonzero_rem-result : goal.nonzero_rem-result
nonzero_rem-result c = nonzero_div-whole c.before.before

rounded : (c : After-decimals-n) → c.decimals-n.result ≡ decimals c.args.k c.args.x
rounded c =
    let s = c in
    c.decimals-n.ensures ∙ decimals-is s.args.x (within-finite 40 s.args.x s.requires.0) c.measure-m.result c.measure-m.ensures s.args.k

pub returns : goal.returns
returns c =
    let d = c in
    let s = d in
    with-fraction s.args.width s.args.k s.args.x d.measure-m.result.negative d.decimals-n.result c.pow-ten.result c.max.result
    s.requires.1 d.measure-m.ensures.sign (rounded (goal.at.returns d).After-decimals-n) c.pow-ten.ensures
    (c.max.ensures ∙ ap (max s.args.width) c.places.ensures.0)
