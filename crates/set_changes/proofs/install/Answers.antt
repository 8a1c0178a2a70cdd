-- `set_changes::install` meets its contract: 23, else the set behind the others. Assumes nothing.
use mathlib.Core.Path.{sym}
use Rattle.std.specs.Prelude.{Result}
use Rattle.definitions.specs.declared.refusal.Refusal.{Refusal}
use Rattle.definitions.specs.Refusals.{number_in}
use Rattle.clip.proofs.Preparing.{by-reason}
use Rattle.pages.specs.Pages.{Pages, pages}
use Rattle.set_changes.specs.Promises.{Installs}
use Rattle.set_changes.proofs.Taken.{install-refused, installed}
use Rattle.set_changes.proofs.install.Goals.{Start as At-start}
use Rattle.set_changes.proofs.install.Goals as goal

abbrev lent : At-start → Pages
lent s = let a = s.args in pages a.starts.now a.numbers.now a.xs.now a.ys.now a.blocks.now a.defaults.now a.counts.now a.bytes.now

pub returns-in_err-check_name : goal.returns-in_err-check_name
returns-in_err-check_name c =
    let s = (goal.at.returns-in_err-check_name c).Start in
    by-reason (λ (r : Result (Unit {0}) Refusal). Installs (lent s) c.args.name.now c.args.declares c.args.set (number_in r) (lent s)) _ _ c.from_residual.ensures.1
    (install-refused (lent s) c.requires.made c.args.name.now c.args.declares c.args.set _ c.in_err-check_name.ensures)

pub extend-requires : goal.extend-requires
extend-requires c = record { fact_1 = c.requires.made; fact_2 = c.requires.made_set; fact_3 = sym c.in_ok-check_name.ensures }

pub returns : goal.returns
returns c =
    let s = (goal.at.returns c).Start in
    installed (lent s) c.requires.made c.args.name.now c.args.declares c.args.set _ (sym c.in_ok-check_name.ensures) c.extend.ensures
