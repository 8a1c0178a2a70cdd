-- `gf::clip_number::to_index` meets its contract: within 64 bits the cast loses nothing. Assumes nothing.
use Rattle.std.proofs.Common.{◌∙◌}
use Rattle.gf.proofs.ClipNumbers.{above_minus_one, below_power, cast-cuts}
use Rattle.gf.proofs.clip_number.to_index.Goals as goal

pub truncating_f64_to_u64-requires : goal.truncating_f64_to_u64-requires
truncating_f64_to_u64-requires c =
    let x = c.args.x in
    record { lower_bound = above_minus_one x c.requires.1; upper_bound = below_power 64 x c.requires.0 c.requires.1 c.requires.2 }

pub returns : goal.returns
returns c =
    let start = c.before in
    c.truncating_f64_to_u64.ensures ∙ cast-cuts 64 start.args.x start.requires.0 start.requires.1 start.requires.2
