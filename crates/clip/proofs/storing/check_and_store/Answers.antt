-- `clip::storing::check_and_store` meets its contract. Assumes nothing.
use mathlib.Core.Path.{◌≡◌, ◌∙◌}
use Rattle.definitions.specs.ClipSet as Definitions
use Rattle.definitions.specs.Examining.{empty_set}
use Rattle.laws.specs.cell.Lent.{set_of}
use Rattle.clip.specs.Storing.{lists_number, settle_number}
use Rattle.clip.proofs.Preparing.{hands, hands-not, same-reason}
use Rattle.clip.proofs.Stored.{lists-number-is}
use Rattle.clip.proofs.storing.check_and_store.Goals.{Start as At-start}
use Rattle.clip.proofs.storing.check_and_store.Goals as goal

abbrev set : At-start → Definitions.ClipSet
set s = set_of s.args.clips s.args.times.now s.args.numbers.now s.args.xs.now s.args.ys.now s.args.blocks.now s.args.manifest

number_is : (s : At-start) → lists_number s.args.times.now s.args.xs.now s.args.blocks.now s.args.manifest.default ≡ settle_number (set s)
number_is s = lists-number-is s.args.clips s.args.times.now s.args.numbers.now s.args.xs.now s.args.ys.now s.args.blocks.now s.args.manifest s.requires

pub returns-in_err-check_lists : goal.returns-in_err-check_lists
returns-in_err-check_lists c =
    let s = (goal.at.returns-in_err-check_lists c).Start in
    hands-not empty_set (set s) _ _ (settle_number (set s)) (same-reason _ _ c.from_residual.ensures.1) (c.in_err-check_lists.ensures ∙ number_is s)

pub returns : goal.returns
returns c =
    let s = (goal.at.returns c).Start in
    hands empty_set (set s) c.store.result (settle_number (set s)) (c.in_ok-check_lists.ensures ∙ number_is s) c.store.ensures
