-- `set_changes::accept_template` meets its contract: 23, then the numbers of the fields, else the set behind the others. Assumes nothing.
use mathlib.Core.Path.{sym}
use Rattle.std.specs.Prelude.{Result}
use Rattle.definitions.specs.declared.refusal.Refusal.{Refusal}
use Rattle.definitions.specs.Refusals.{number_in}
use Rattle.clip.proofs.Preparing.{by-reason}
use Rattle.definitions.specs.Template.{TemplateFields}
use Rattle.clip.specs.Holding.{manifest}
use Rattle.template.specs.Expanding.{template_fields}
use Rattle.pages.specs.Pages.{Pages, pages}
use Rattle.set_changes.specs.Promises.{Expands}
use Rattle.set_changes.proofs.Taken.{expand-refused, template-refused, expands}
use Rattle.set_changes.proofs.accept_template.Goals.{Start as At-start}
use Rattle.set_changes.proofs.accept_template.Goals as goal

abbrev lent : At-start → Pages
lent s = let a = s.args in pages a.starts.now a.numbers.now a.xs.now a.ys.now a.blocks.now a.defaults.now a.counts.now a.bytes.now

abbrev fields : At-start → TemplateFields
fields s = let a = s.args in template_fields a.template.now a.times a.offset a.newblocks.now (manifest a.default a.interpolate)

pub returns-in_err-check_name : goal.returns-in_err-check_name
returns-in_err-check_name c =
    let s = (goal.at.returns-in_err-check_name c).Start in
    by-reason (λ (r : Result (Unit {0}) Refusal). Expands (lent s) c.args.name.now c.args.declares (fields s) (number_in r) (lent s)) _ _ c.from_residual.ensures.1
    (expand-refused (lent s) c.requires c.args.name.now c.args.declares (fields s) _ c.in_err-check_name.ensures)

pub returns-in_err-expanded : goal.returns-in_err-expanded
returns-in_err-expanded c =
    let s = (goal.at.returns-in_err-expanded c).Start in
    by-reason (λ (r : Result (Unit {0}) Refusal). Expands (lent s) c.args.name.now c.args.declares (fields s) (number_in r) (lent s)) _ _ c.from_residual-in_err-expanded.ensures.1
    (template-refused (lent s) c.requires c.args.name.now c.args.declares (fields s) (sym c.in_ok-check_name.ensures) _ c.in_err-expanded.ensures)

pub extend-requires : goal.extend-requires
extend-requires c = record { fact_1 = c.requires; fact_2 = c.in_ok-expanded.ensures.made; fact_3 = sym c.in_ok-check_name.ensures }

pub returns : goal.returns
returns c =
    let s = (goal.at.returns c).Start in
    expands (lent s) c.requires c.args.name.now c.args.declares (fields s) (sym c.in_ok-check_name.ensures) _ c.in_ok-expanded.ensures _ c.extend.ensures
