-- `by_value::accept` meets its contract: the examined set is installed, unless its number refuses it. Assumes nothing.
use Rattle.std.specs.Prelude.{Result}
use Rattle.definitions.specs.declared.refusal.Refusal.{Refusal}
use Rattle.definitions.specs.Refusals.{number_in}
use Rattle.definitions.specs.Explicit.{ExplicitFields}
use Rattle.clip.specs.Holding.{manifest}
use Rattle.clip.proofs.Preparing.{by-reason}
use Rattle.explicit.specs.Parsing.{explicit_fields}
use Rattle.resolver.specs.declared.Resolver.{Resolver}
use Rattle.resolver.specs.State.{left}
use Rattle.resolver.specs.Promises.{Accepts}
use Rattle.resolver.proofs.Laws.{accepts, accepts-not}
use Rattle.by_value.proofs.accept.Goals.{Start as At-start}
use Rattle.by_value.proofs.accept.Goals as goal

abbrev fields : At-start → ExplicitFields
fields s = let a = s.args in explicit_fields a.clips a.starts.now a.numbers.now a.xs.now a.ys.now a.blocks.now (manifest a.default a.interpolate)

pub returns-in_err-prepared : goal.returns-in_err-prepared
returns-in_err-prepared c =
    let s = (goal.at.returns-in_err-prepared c).Start in
    by-reason (λ (r : Result Resolver Refusal). Accepts c.args.resolver (fields s) (number_in r) (left c.args.resolver r)) _ _ c.from_residual.ensures.1
    (accepts-not c.args.resolver (fields s) _ c.requires c.in_err-prepared.ensures)

pub install-requires : goal.install-requires
install-requires c = record { made = c.requires; made_set = c.in_ok-prepared.ensures.made }

pub returns : goal.returns
returns c = accepts _ _ _ _ c.in_ok-prepared.ensures c.install.ensures
