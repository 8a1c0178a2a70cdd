-- `gf::magnitude::without_sign` meets its contract. Assumes nothing.
use Rattle.std.proofs.Common.{◌≡◌, ℕ, ◌%◌, not, T, sym, ap, ◌∙◌, subst}
use lib.Ieee.{binary64, fits, to_bits, of_bits, nan_bits}
use Rattle.gf.proofs.FieldsOf.{few-digits, rank_is}
use Rattle.gf.proofs.SignCleared.{abs-of-bits, abs-bits-no-nan}
use Rattle.gf.proofs.magnitude.without_sign.Goals.{After-rank, Start as At-start}
use Rattle.gf.proofs.magnitude.without_sign.Goals as goal

held : (c : At-start) → T (fits binary64 c.args.x)
held c = subst T (sym c.well_formed.0.1) tt

bits : (c : After-rank) → c.rank.result ≡ to_bits binary64 c.args.x % 0x8000_0000_0000_0000
bits c =
    let at = c.before in
    c.rank.ensures ∙ rank_is at.args.x at.fields_of-f.result at.fields_of-f.ensures

pub rank-requires : goal.rank-requires
rank-requires c = few-digits c.args.x c.fields_of-f.result c.fields_of-f.ensures

pub float_from_bits-result : goal.float_from_bits-result
float_from_bits-result c =
    let start = c.before.before in
    subst (λ (b : ℕ). T (not (nan_bits binary64 b))) (sym (bits c)) (abs-bits-no-nan start.args.x (held start) start.requires)

pub returns : goal.returns
returns c =
    let start = c.before.before in
    ap (of_bits binary64) (bits c) ∙ abs-of-bits start.args.x (held start) start.requires
