-- `set_questions::own_at` meets its contract: the part that it lends is the sets' clips. Assumes nothing.
use Prim.Native.Nat.{ℕ}
use native.Mathlib.Omega.{arith}
use mathlib.Core.Path.{sym, ap, ◌∙◌, subst}
use mathlib.Core.List.{List}
use lib.ListN.{get_or}
use Rattle.dispatch.specs.SetSamples.{SetSamples, set_samples_number}
use Rattle.set_samples.specs.Parting.{lent_samples, FewClips, OwnAt}
use Rattle.pages.proofs.Parts.{part-to}
use Rattle.set_questions.proofs.Asked.{clips-lent}
use Rattle.set_questions.proofs.own_at.Goals.{Start as At-start}
use Rattle.set_questions.proofs.own_at.Goals as goal

abbrev lent : At-start → SetSamples
lent s = lent_samples s.args.lens.now s.args.ends.now s.args.times.now s.args.values.now s.args.marks.now

pub own_of-requires : goal.own_of-requires
own_of-requires c =
    let s = c in
    let l = s.args.counts.now in
    let p = part-to 1 (get_or l 0 0) l in
    record { fact_1 = subst FewClips (sym p) s.requires.fact_1.few; fact_2 = omega (arith, clips-lent l s.requires.fact_1, s.requires.fact_2); fact_3 = ap (λ (x : List ℕ). set_samples_number x (lent (goal.at.own_of-requires s).Start)) p ∙ s.requires.fact_3 }

pub returns : goal.returns
returns c =
    let s = c in
    let l = s.args.counts.now in
    subst (λ (x : List ℕ). OwnAt x (lent (goal.at.returns s).Start) s.args.k c.own_of.result) (part-to 1 (get_or l 0 0) l) c.own_of.ensures
