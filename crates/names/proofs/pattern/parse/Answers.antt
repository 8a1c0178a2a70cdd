-- `names::pattern::parse` meets its contract: the three runs found one after the other are those of `split`. Assumes nothing.
use Rattle.std.proofs.Common.{◌≡◌, ◌∙◌, ap, sym, drop, ℕ, ◌+◌}
use Rattle.std.proofs.lemmas.List.{take_rest}
use Rattle.names.specs.Pattern.{fraction_run}
use Rattle.definitions.specs.Names.{hash_run}
use Rattle.names.proofs.PatternLaws.{before-prefix, run-prefix, parsed}
use Rattle.names.proofs.pattern.parse.Goals as goal

pub returns : goal.returns
returns c =
    let l = c.args.template.now in
    let first = c.before_hash-first.result in
    let end = first + c.hash_run-width.result in
    let width : c.hash_run-width.result ≡ hash_run (drop first l) = c.hash_run-width.ensures.run ∙ run-prefix _ ∙ ap hash_run (take_rest l first) in
    let fraction : c.fraction_run-fraction.result ≡ fraction_run (drop end l) = c.fraction_run-fraction.ensures.run ∙ ap fraction_run (take_rest l end) in
    parsed l _ (c.before_hash-first.ensures.run ∙ before-prefix l) width fraction (ap (λ (n : ℕ). end + n) (sym c.fraction_length.ensures))
