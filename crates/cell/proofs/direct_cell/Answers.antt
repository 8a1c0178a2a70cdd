-- `cell::direct_cell` meets its contract: each way out is a case of the definition. Assumes nothing.
use Rattle.gf.proofs.KeyLaws.{finite-no-nan}
use Rattle.cell.proofs.direct_cell.Goals as goal

pub line_of-requires : goal.line_of-requires
line_of-requires c = record { xs_len = c.requires.ascending_2; ascending = c.requires.ascending_1; t = finite-no-nan c.args.t c.requires.finite_double.finitely }
