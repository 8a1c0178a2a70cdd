-- `names::magnitude::nearest` meets its contract, by a law for each answer. Assumes nothing.
use Rattle.std.proofs.Common.{arith, rules, ◌≡◌, ◌%◌, ◌/◌, ◌<◌, sym}
use Rattle.std.proofs.lemmas.Map.Lookups.{exact_unsigned}
use Rattle.names.proofs.RoundingLaws.{none, up, up-by-low, even}
use Rattle.names.proofs.magnitude.nearest.Goals.{in_default-via-in-Equal+else-low-eq0, in_default-via-in_default}
use Rattle.names.proofs.magnitude.nearest.Goals as goal

pub returns-then-shift-gt63 : goal.returns-then-shift-gt63
returns-then-shift-gt63 c = none c.args.high c.args.low c.args.shift c.requires.1 c.requires.2 c.if-shift-gt63.true c.requires.0

pub returns-in-Equal : goal.returns-in-Equal
returns-in-Equal c =
    let a = c.args in
    let r = c.requires in
    let tie : a.high % c.power_of_two-unit.result ≡ c.power_of_two-unit.result / 2 = exact_unsigned _ _ (sym c.in-Equal.ensures) in
    even a.high a.low a.shift r.1 r.2 c.power_of_two-unit.result c.power_of_two-unit.ensures tie c.if-low-eq0.true

pub returns-in_default : goal.returns-in_default
returns-in_default c =
    let a = c.args in
    let r = c.requires in
    let u = c.power_of_two-unit in
    elim c.in_default.branch [
      | in_default-via-in-Equal+else-low-eq0 w ↦
          up-by-low a.high a.low a.shift r.1 r.2 u.result u.ensures (exact_unsigned _ _ (sym w.in-Equal.ensures)) (omega (arith, w.if-low-eq0.false))
      | in_default-via-in_default w ↦ let h : u.result / 2 < a.high % u.result = search rules in up a.high a.low a.shift r.1 r.2 u.result u.ensures h
    ]
