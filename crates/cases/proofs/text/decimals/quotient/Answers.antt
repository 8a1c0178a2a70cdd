-- `cases::text::decimals::quotient` meets its contract: only the division rounds. Assumes nothing.
use Rattle.std.proofs.Common.{◌≡◌, ◌^◌, pos, ◌∙◌}
use lib.Ieee.{binary64, of_int, div}
use Rattle.cases.proofs.Rounded.{quotient-rounds}
use Rattle.cases.proofs.text.decimals.quotient.Goals as goal

pub returns : goal.returns
returns c =
    let e : div binary64 c.nearest_u64_to_f64.result c.nearest_u64_to_f64-2.result ≡ div binary64 (of_int binary64 (pos c.args.digits)) (of_int binary64 (pos (10 ^ c.args.scale))) = cc in
    e ∙ quotient-rounds c.args.digits c.args.scale c.requires.fact_1 c.requires.fact_2
