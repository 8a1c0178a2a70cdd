-- `names::digits::places` meets its contract: 0 has the one digit of 1. Assumes nothing.
use Rattle.std.proofs.Common.{arith, ◌≡◌, ◌∙◌, sym, ap, ℕ, zero, suc, max}
use Rattle.definitions.specs.Names.{places}
use Rattle.names.proofs.DigitLaws.{places-between, places-one}
use Rattle.names.proofs.digits.places.Goals as goal

at-least-one : (n : ℕ) → places (max n 1) ≡ places n
at-least-one zero = places-one 1 (omega arith) ∙ sym (places-one 0 (omega arith))
at-least-one (suc n) = let e : max (suc n) 1 ≡ suc n = omega arith in ap places e

pub returns : goal.returns
returns c =
    let r = c.ilog10.ensures in
    let e = places-between _ _ r.power_le r.next_power_gt in
    (sym e ∙ ap places c.max.ensures ∙ at-least-one c.args.n, omega (arith, r.bound))
