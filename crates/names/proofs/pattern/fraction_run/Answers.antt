-- `names::pattern::fraction_run` meets its contract. Assumes nothing.
use Rattle.std.proofs.Common.{rules, ◌≡◌, ◌==◌, ◌∙◌, ap, ℕ, get_or}
use Rattle.std.proofs.lemmas.List.{take_rest}
use Rattle.std.specs.List.{prefix_len}
use Rattle.names.proofs.PatternLaws.{behind-dot}
use Rattle.names.proofs.pattern.fraction_run.Goals as goal

pub returns-in-46-clause-run : goal.returns-in-46-clause-run
returns-in-46-clause-run c =
    let l = c.args.bytes.now in
    let is : get_or l 0 0 ≡ 46 = search rules in
    behind-dot l _ c.in-46.len_at_least is (c.hash_run.ensures.run ∙ ap (prefix_len (λ (b : ℕ). b == 35)) (take_rest l 1))
