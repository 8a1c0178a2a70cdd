-- `normal_form::merging::runs` meets its contract: the loop keeps `Standing`, and i falls to 0. Assumes nothing.
use Rattle.std.proofs.Common.{◌≡◌, sym, ap, ◌∙◌, Bool, true, false, ◌-◌, ◌<◌, drop, length, arith}
use Rattle.laws.proofs.list.Every.{every-at}
use Rattle.lists.specs.Placed.{Inside}
use Rattle.normal_form.specs.Runs.{meets}
use Rattle.normal_form.proofs.Merged.{part-rest, standing-start, here, standing-same, standing_apart, standing-inside}
use Rattle.normal_form.proofs.merging.runs.Goals.{After-meets}
use Rattle.normal_form.proofs.merging.runs.Goals as goal

-- the test, by the arm taken
answer : (c : After-meets) (b : Bool) → c.meets.result ≡ b → let k = c.loop-i in let t = c.args.times.now in meets t (here t c.args.places.now k.i) (drop k.at k.firsts) ≡ b
answer c b e =
    let k = c.loop-i in
    let t = c.args.times.now in
    ap (meets t (here t c.args.places.now k.i)) (sym (part-rest k.at k.firsts)) ∙ sym c.meets.ensures ∙ e

pub loop-i-init : goal.loop-i-init
loop-i-init c = standing-start _ _ _ _ c.requires.1 c.requires.2

pub meets-requires : goal.meets-requires
meets-requires c =
    let k = c.loop-i in
    let t = c.args.times.now in
    let places = c.args.places.now in
    let h : k.i - 1 < length places = omega (arith, k.invariant.within, k.invariant.count) in
    (every-at (Inside t) places (k.i - 1) 0 c.requires.0 h, standing-inside t places k.firsts k.lasts k.at k.i k.invariant c.requires.0)

pub loop-i-preserved-then-meets : goal.loop-i-preserved-then-meets
loop-i-preserved-then-meets c =
    let k = c.loop-i in
    standing-same _ _ k.firsts k.lasts k.at k.i k.invariant (omega arith) (answer (goal.at.loop-i-preserved-then-meets c).After-meets true c.if-meets.true)

pub loop-i-preserved : goal.loop-i-preserved
loop-i-preserved c =
    let k = c.loop-i in
    standing_apart _ _ k.firsts k.lasts k.at k.i k.invariant (omega arith) (answer (goal.at.loop-i-preserved c).After-meets false c.if-meets.false)
