-- `by_value::accept_template` meets its contract: the examined set is installed, unless its number refuses it. Assumes nothing.
use Rattle.std.specs.Prelude.{Result}
use Rattle.definitions.specs.declared.refusal.Refusal.{Refusal}
use Rattle.definitions.specs.Refusals.{number_in}
use Rattle.definitions.specs.Template.{TemplateFields}
use Rattle.clip.specs.Holding.{manifest}
use Rattle.clip.proofs.Preparing.{by-reason}
use Rattle.template.specs.Expanding.{template_fields}
use Rattle.resolver.specs.declared.Resolver.{Resolver}
use Rattle.resolver.specs.State.{left}
use Rattle.resolver.specs.Promises.{Expands}
use Rattle.resolver.proofs.Laws.{expands, expands-not}
use Rattle.by_value.proofs.accept_template.Goals.{Start as At-start}
use Rattle.by_value.proofs.accept_template.Goals as goal

abbrev fields : At-start → TemplateFields
fields s = let a = s.args in template_fields a.template.now a.times a.offset a.blocks.now (manifest a.default a.interpolate)

pub returns-in_err-prepared : goal.returns-in_err-prepared
returns-in_err-prepared c =
    let s = (goal.at.returns-in_err-prepared c).Start in
    by-reason (λ (r : Result Resolver Refusal). Expands c.args.resolver (fields s) (number_in r) (left c.args.resolver r)) _ _ c.from_residual.ensures.1
    (expands-not c.args.resolver (fields s) _ c.requires c.in_err-prepared.ensures)

pub install-requires : goal.install-requires
install-requires c = record { made = c.requires; made_set = c.in_ok-prepared.ensures.made }

pub returns : goal.returns
returns c = expands _ _ _ _ c.in_ok-prepared.ensures c.install.ensures
