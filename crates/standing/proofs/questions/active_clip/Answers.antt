-- `standing::questions::active_clip` meets its contract. Assumes nothing.
use Rattle.std.specs.Prelude.{Some}
use Prim.Native.Nat.{ℕ, ◌<◌}
use mathlib.Core.Path.{ap, ◌∙◌}
use native.Mathlib.Omega.{arith}
use borrow.Author.Rules.{rules}
use lib.ListN.{get_or}
use Rattle.standing.proofs.Arrays.{front}
use Rattle.standing.proofs.Timed.{place-within, none-active, active-is}
use Rattle.standing.proofs.questions.active_clip.Goals.{After-last_at_most-position}
use Rattle.standing.proofs.questions.active_clip.Goals as goal

inside : (c : After-last_at_most-position) → c.last_at_most-position.result < c.args.n
inside c =
    let s = c in
    omega (arith, c.last_at_most-position.ensures, place-within s.args.n s.args.starts.now s.args.numbers.now s.requires.fact_1 s.requires.fact_2 s.args.t (omega arith))

pub returns-then-n-eq0 : goal.returns-then-n-eq0
returns-then-n-eq0 c = let s = c in none-active s.args.n s.args.starts.now s.args.numbers.now s.requires.fact_1 s.requires.fact_2 s.args.t c.if-n-eq0.true

pub slice_bounds-last_at_most-end : goal.slice_bounds-last_at_most-end
slice_bounds-last_at_most-end c = search (rules, front)

pub offset_bounds-numbers-position : goal.offset_bounds-numbers-position
offset_bounds-numbers-position c = omega (arith, inside c)

pub bounds-numbers-position : goal.bounds-numbers-position
bounds-numbers-position c = let s = c in omega (arith, inside (goal.at.bounds-numbers-position c).After-last_at_most-position, s.requires.fact_2.long, s.requires.fact_2.few)

pub returns : goal.returns
returns c =
    let s = c in
    ap (λ (p : ℕ). Some (get_or s.args.numbers.now p 0)) c.last_at_most-position.ensures
    ∙ active-is s.args.n s.args.starts.now s.args.numbers.now s.requires.fact_1 s.requires.fact_2 s.args.t (omega arith)
