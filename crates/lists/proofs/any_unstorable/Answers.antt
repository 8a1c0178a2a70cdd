-- `lists::any_unstorable` meets its contract: some time may not be stored where more than none is counted. Assumes nothing.
use Rattle.std.proofs.Common.{not, ap, ◌∙◌, ltb, count_by}
use lib.Ieee.{Float}
use lib.Seq.{take_all}
use Rattle.gf.specs.Doubles.{storable}
use Rattle.lists.proofs.Counted.{any-counted}
use Rattle.lists.proofs.any_unstorable.Goals as goal

pub returns : goal.returns
returns c =
    let k = c.loop-time in
    let bad = λ (t : Float). not (storable t) in
    ap (ltb 0) (k.invariant ∙ ap (count_by bad) (take_all k.time-index c.args.times.now c.loop-time-test.false)) ∙ any-counted bad c.args.times.now
