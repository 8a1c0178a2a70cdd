-- `names::body::put_sign` meets its contract. Assumes nothing.
use native.Mathlib.Omega.{arith}
use mathlib.Core.Path.{ap}
use mathlib.Core.Bool.{Bool}
use lib.ListN.{length}
use Rattle.names.specs.Body.{sign_of}
use Rattle.names.proofs.BodyLaws.{put-minus, put-no-minus}
use Rattle.names.proofs.body.put_sign.Goals as goal

pub bounds-out-at : goal.bounds-out-at
bounds-out-at c = omega (arith, ap (λ (s : Bool). length (sign_of s)) c.if-minus.true)

pub returns-then-minus : goal.returns-then-minus
returns-then-minus c = let s = c in put-minus s.args.minus s.args.out.now s.args.at c.if-minus.true s.requires

pub returns-else-minus : goal.returns-else-minus
returns-else-minus c = let s = c in put-no-minus s.args.minus s.args.out.now s.args.at c.if-minus.false
