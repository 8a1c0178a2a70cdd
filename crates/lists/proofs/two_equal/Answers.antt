-- `lists::two_equal` meets its contract: each window is a pair of neighbours. Assumes nothing.
use Rattle.std.proofs.Common.{List, rules, get_or, ap, ◌∙◌, lit<}
use Rattle.std.specs.Slice.Iter.{windows_size, windows_rest}
use borrow.Author.Tests.{tests}
use lib.Ieee.{Float, nan, eq}
use Rattle.lists.proofs.Windows.{windows-any, pairs-any}
use Rattle.lists.proofs.two_equal.Goals as goal

pub returns : goal.returns
returns c =
    let t = c.any.ensures.runs in
    let w = c.windows in
    pairs-any (λ (q : Float × Float). eq q.0 q.1) c.args.times.now nan c.any.result
    (windows-any t.0 _ _ (λ (w : List Float). eq (get_or w 0 nan) (get_or w 1 nan)) 2 c.args.times.now (λ x b q k. search (rules, tests)) c.any.result nan _ _
    (ap windows_size t.1 ∙ w.ensures.size) (ap windows_rest t.1 ∙ w.ensures.rest) (lit< tt) (w.ensures.runs t.0 t.0.seen) t.2)
