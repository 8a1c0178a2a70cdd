-- `sdf::look::Look::read` meets its contract: between two ends that are unlike the search finds the place, which lies before the end, and between equal ones is none. Assumes nothing.
use mathlib.Core.Path.{ap, ◌∙◌}
use lib.Dec.{T}
use lib.Ieee.{binary64, fits}
use borrow.Author.Rules.{rules}
use Rattle.std.specs.Prelude.{Some}
use Rattle.definitions.specs.declared.Answer.{Answer}
use Rattle.sdf.proofs.look.ReadsLaws.{held_none, held-some, held-inside}
use Rattle.sdf.proofs.look.Look.read.Goals as goal

pub returns-then-self : goal.returns-then-self
returns-then-self c = let s = c.args.self in held_none s.times.now s.values.now s.marks.now s.begin s.end c.args.t c.if-self.true

pub answer-requires : goal.answer-requires
answer-requires c =
    let s = c.args.self in
    let t = c.args.t in
    let ft : T (fits binary64 t.0) = search rules in
    held-inside s.times.now s.values.now s.marks.now s.begin s.end t c.requires c.if-self.false c.last_at_most-place.result c.last_at_most-place.ensures ft

pub returns : goal.returns
returns c =
    let s = c.args.self in
    ap (λ (x : Answer). Some (c.last_at_most-place.result, x)) c.answer.ensures
    ∙ held-some s.times.now s.values.now s.marks.now s.begin s.end c.args.t c.requires c.if-self.false c.last_at_most-place.result c.last_at_most-place.ensures
