-- `names::body::put_fraction` meets its contract: the `.`, then the digits behind it. Assumes nothing.
use native.Mathlib.Omega.{arith}
use mathlib.Core.Path.{ap, ◌∙◌}
use Prim.Native.Nat.{◌+◌, ◌≤◌}
use lib.ListN.{length, length-set}
use Rattle.names.proofs.PatternLaws.{with-dot}
use Rattle.names.proofs.PutLaws.{put-length}
use Rattle.names.proofs.BodyLaws.{put-no-point, put-point, length-pointed}
use Rattle.names.proofs.body.put_fraction.Goals.{Else-k-eq0}
use Rattle.names.proofs.body.put_fraction.Goals as goal

pub returns-then-k-eq0 : goal.returns-then-k-eq0
returns-then-k-eq0 c = let a = c.args in put-no-point a.k a.n a.out.now a.at c.if-k-eq0.true

room : (c : Else-k-eq0) → c.args.at + (c.args.k + 1) ≤ length c.args.out.now
room c = omega (arith, with-dot c.args.k c.if-k-eq0.false)

pub bounds-out-at : goal.bounds-out-at
bounds-out-at c = omega (arith, room c)

pub put_digits-requires : goal.put_digits-requires
put_digits-requires c = omega (arith, room (goal.at.put_digits-requires c).Else-k-eq0, length-set c.args.out.now c.args.at 46)

pub returns : goal.returns
returns c =
    let a = c.args in
    c.put_digits.ensures
    ∙ put-point a.k a.n a.out.now a.at c.if-k-eq0.false (omega (arith, room (goal.at.returns c).Else-k-eq0))

pub shape_of-out : goal.shape_of-out
shape_of-out c =
    let a = c.args in
    ap length (returns c)
    ∙ put-length a.out.now a.at _ (omega (arith, length-pointed a.k a.n, c.requires))
